use Rattle.std.proofs.Common.{◌+◌, true, cond, ap, ◌∙◌, arith}
use Rattle.raster.specs.Operation.{applied}
use Rattle.plane.specs.Run.{joined_run}
use Rattle.raster.proofs.FillLaws.{no_row, row_more, rows_all}
use Rattle.raster.proofs.fill.cover.Goals as goal

pub loop-v-init : goal.loop-v-init
loop-v-init g c =
    let a = c.args in
    (omega arith, no_row (λ d. cond d c.combine-2.result c.combine.result) a.columns.start a.columns.count a.rows.start (g.P.Plane.picture a.plane.now))

pub loop-v-preserved : goal.loop-v-preserved
loop-v-preserved g c =
    let a = c.args in
    let l = c.loop-v in
    let x = a.columns.start in
    let zero = c.combine.result in
    let one = c.combine-2.result in
    (omega arith, c.join_run.ensures.picture ∙ ap (joined_run l.v x (x + a.columns.count) zero one) l.invariant.1 ∙ row_more (λ d. cond d one zero) x a.columns.count a.rows.start (g.P.Plane.picture a.plane.now) l.v (omega arith))

pub returns : goal.returns
returns g c =
    let a = c.args in
    c.loop-v.invariant.1 ∙ rows_all (applied a.operation true) a.columns.start a.columns.count a.rows.start (g.P.Plane.picture a.plane.now) c.combine.result c.combine-2.result c.loop-v.v a.rows.count c.combine.ensures c.combine-2.ensures (omega arith)
