use Rattle.std.proofs.Common.{refl, rules, tests, arith, ◌∙◌}
use Rattle.std.proofs.lemmas.Iterator.{YieldsList-from_range}
use Rattle.std.proofs.lemmas.Iterator.Search.{any_from_yields_List}
use Rattle.printout.specs.Ink.{row}
use Rattle.printout.proofs.InkLaws.{any_below}
use Rattle.printout.proofs.ink.has_ink.Goals as goal

pub returns : goal.returns
returns g c =
    let f = row (g.P.Plane.picture c.args.plane.now) c.args.y in
    any_from_yields_List f _ _ _ c.any.ensures.ran (YieldsList-from_range 0 c.args.width c.args.width refl (omega arith)) (λ x b q k. search (rules, tests)) ∙ any_below f c.args.width
