use Rattle.std.proofs.Common.{◌∙◌, arith, w16}
use Rattle.std.proofs.lemmas.Int.{ints, to_z-of_z}
use Rattle.raster.proofs.LineLaws.{toward_up, toward_down}
use Rattle.raster.proofs.line.toward.Goals as goal

pub overflow_cast-result-else-a-b-2 : goal.overflow_cast-result-else-a-b-2
overflow_cast-result-else-a-b-2 c =
    let fa = c.ranges.a in
    let fb = c.ranges.b in
    let e = simp to_z-of_z at c.abs_diff.ensures in
    let w = c.offset-step.ensures.within in
    omega (arith, ints)

pub returns-then-a-b : goal.returns-then-a-b
returns-then-a-b c =
    let a = c.args in
    let fa = c.ranges.a in
    let fb = c.ranges.b in
    let e = simp to_z-of_z at c.abs_diff.ensures in
    let o = c.offset-step.ensures.value in
    toward_up a.a a.b _ a.n a.i c.offset-step.result (rw e at o) (omega (arith, ints)) (omega (arith, ints))

pub returns-else-a-b : goal.returns-else-a-b
returns-else-a-b c =
    let a = c.args in
    let fa = c.ranges.a in
    let fb = c.ranges.b in
    let fits = overflow_cast-result-else-a-b-2 c in
    let e = simp to_z-of_z at c.abs_diff.ensures in
    let o = c.offset-step.ensures.value in
    toward_down a.a a.b _ a.n a.i c.offset-step.result (rw e at o) (omega (arith, ints)) (to_z-of_z w16 _ fits ∙ omega (arith, ints))
