use Rattle.std.proofs.Common.{◌≡◌, ◌-◌, ◌∙◌, arith}
use Rattle.std.proofs.lemmas.Bool.Decides.{nat_tests}
use Rattle.plane.proofs.tiled.U64Cell.places.Goals as goal

pub returns : goal.returns
returns c i lt =
    let e : 7 - (7 - i) ≡ i = omega arith in
    (rw e at (c.places_from_left.ensures (7 - i) (omega arith))) ∙ grind (arith, nat_tests)
