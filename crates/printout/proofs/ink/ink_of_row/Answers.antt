use Rattle.std.proofs.Common.{Some, ap, ◌∙◌, arith}
use Rattle.printout.specs.Ink.{row}
use Rattle.printout.proofs.InkLaws.{room_for_more, ink_more, ink_same}
use Rattle.printout.proofs.ink.ink_of_row.Goals as goal
use Rattle.printout.proofs.ink.ink_of_row.Goals.{then-is_set, else-is_set}

pub with_place-requires : goal.with_place-requires
with_place-requires g c =
    room_for_more (row (g.P.Plane.picture c.args.plane.now) c.args.y) c.loop-x.x c.loop-x.ink c.loop-x.invariant (omega (arith, c.ranges.width.fits))

pub loop-x-preserved : goal.loop-x-preserved
loop-x-preserved g c =
    let l = c.loop-x in
    let f = row (g.P.Plane.picture c.args.plane.now) c.args.y in
    elim c.if-is_set.branch [
      | then-is_set w ↦ w.ink-is ∙ ap Some w.with_place.ensures ∙ ink_more f l.x c.is_set.result l.ink c.is_set.ensures w.if-is_set.true l.invariant
      | else-is_set w ↦ w.ink-is ∙ ink_same f l.x c.is_set.result l.ink c.is_set.ensures w.if-is_set.false l.invariant
    ]
