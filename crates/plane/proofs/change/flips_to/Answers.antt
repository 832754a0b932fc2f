use Rattle.std.proofs.Common.{◌≡◌, Bool, true, false, not, ◌&&◌, refl, ap, ◌∙◌, arith}
use mathlib.Core.Bool.{beq}
use Rattle.std.proofs.lemmas.Bool.{eq-eqb}
use Rattle.std.proofs.lemmas.Bool.Decides.{nat_tests}
use Rattle.plane.specs.Run.{differ}
use Rattle.plane.proofs.BitLaws.{single_bit}
use Rattle.plane.proofs.change.flips_to.Goals as goal

turned : (a b : Bool) → differ a (not (beq a b) && true) ≡ b
turned true true = refl
turned true false = refl
turned false true = refl
turned false false = refl

pub returns-clause-here : goal.returns-clause-here
returns-clause-here c =
    let p = c.args.place in
    let f = not (beq c.args.old c.args.wanted) in
    rw c.from.ensures (ap (differ c.args.old) (single_bit f p p c.requires c.requires ∙ ap (λ t. f && t) (eq-eqb p p refl)) ∙ turned c.args.old c.args.wanted)

pub returns-clause-others : goal.returns-clause-others
returns-clause-others c j lt ne = rw c.from.ensures (single_bit _ c.args.place j c.requires lt ∙ grind (arith, nat_tests))
