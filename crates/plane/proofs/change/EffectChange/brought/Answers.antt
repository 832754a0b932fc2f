use Rattle.std.proofs.Common.{sym, ◌∙◌}
use Rattle.plane.specs.Bits.{bit}
use Rattle.plane.proofs.BitLaws.{full, opposite}
use Rattle.plane.proofs.RunLaws.{either}
use Rattle.plane.proofs.change.EffectChange.brought.Goals as goal

pub returns-in-true-true : goal.returns-in-true-true
returns-in-true-true g c i lt le far =
    let j = g.C.Cell.place i in
    rw (c.in-true-true.is-0, c.in-true-true.is-1) (full j (g.met.C.Cell.order.below i lt) ∙ sym (either (bit c.args.old j) _))

pub returns-in-true-false : goal.returns-in-true-false
returns-in-true-false g c i lt le far =
    rw (c.in-true-false.is-0, c.in-true-false.is-1) (opposite c.args.old (g.C.Cell.place i) (g.met.C.Cell.order.below i lt))
