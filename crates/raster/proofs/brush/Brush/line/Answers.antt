use Rattle.std.proofs.Common.{◌≡◌, ◌+◌, cond, refl, ◌∙◌, arith, w16, SFits, rules}
use Rattle.std.proofs.lemmas.Int.{to_z-of_z}
use Rattle.raster.specs.Line.{point}
use Rattle.raster.proofs.Confinement.{composes, confined_lined}
use Rattle.raster.proofs.LineLaws.{dot_more, point_made, line_all}
use Rattle.raster.proofs.brush.Brush.line.Goals as goal
use Rattle.raster.proofs.brush.Brush.line.Goals.{then-last, else-last}

pub loop-i-preserved : goal.loop-i-preserved
loop-i-preserved g c =
    let a = c.args in
    let l = c.loop-i in
    let f1 : SFits w16 a.from.x = search rules in
    let f2 : SFits w16 a.from.y = search rules in
    let f3 : SFits w16 a.to.x = search rules in
    let f4 : SFits w16 a.to.y = search rules in
    let f5 : SFits w16 c.toward-x.result = search rules in
    let f6 : SFits w16 c.toward-y.result = search rules in
    let made = point_made a.from a.to c.max-n.result c.abs_diff.result c.abs_diff-2.result l.i c.toward-x.result c.toward-y.result c.max-n.ensures (simp to_z-of_z at c.abs_diff.ensures) (simp to_z-of_z at c.abs_diff-2.ensures) (simp to_z-of_z at c.toward-x.ensures) (simp to_z-of_z at c.toward-y.ensures) in
    dot_more (g.P.Plane.picture a.plane.now) a.self.region a.self.operation _ _ (point a.from a.to) l.i _ made l.invariant (simp to_z-of_z at c.join.ensures.picture)

pub returns : goal.returns
returns g c =
    let a = c.args in
    let n = c.max-n.result in
    let f1 : SFits w16 a.from.x = search rules in
    let f2 : SFits w16 a.from.y = search rules in
    let f3 : SFits w16 a.to.x = search rules in
    let f4 : SFits w16 a.to.y = search rules in
    let count : c.if-last.count ≡ cond a.last (n + 1) n =
    elim c.if-last.branch [ then-last w ↦ rw w.if-last.true w.count-is | else-last w ↦ rw w.if-last.false w.count-is ] in
    let all : c.loop-i.i ≡ cond a.last (n + 1) n = let e : c.loop-i.i ≡ c.if-last.count = omega arith in e ∙ count in
    record {
      picture = c.loop-i.invariant ∙ line_all (g.P.Plane.picture a.plane.now) a.self.region a.self.operation a.from a.to n c.abs_diff.result c.abs_diff-2.result c.loop-i.i a.last c.max-n.ensures (simp to_z-of_z at c.abs_diff.ensures) (simp to_z-of_z at c.abs_diff-2.ensures) all;
      confined = confined_lined a.self.region a.self.operation a.from a.to a.last;
      composes = composes;
      worked = record { and_inverted = refl; or_inverted = refl; there = refl; not_there = refl; back = refl; not_back = refl };
    }
