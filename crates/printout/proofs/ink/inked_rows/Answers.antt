use Rattle.std.proofs.Common.{ℕ, Bool, ltb, rules, tests, arith, ◌∙◌}
use Rattle.std.proofs.lemmas.Iterator.{YieldsList-from_range}
use Rattle.std.proofs.lemmas.Iterator.Consumers.{YieldsList-from_filter, count_from_yields_List}
use Rattle.plane.specs.Run.{how_many as count}
use Rattle.printout.specs.Ink.{row}
use Rattle.printout.proofs.InkLaws.{length_passing}
use Rattle.printout.proofs.ink.inked_rows.Goals as goal

pub returns : goal.returns
returns g c =
    let s = c.args.size in
    let f : ℕ → Bool = λ y. ltb 0 (count (row (g.P.Plane.picture c.args.plane.now) y) s.width) in
    count_from_yields_List c.filter.result _ c.count.ensures.ran (YieldsList-from_filter _ f (YieldsList-from_range 0 s.height s.height c.filter.ensures.source (omega arith)) c.filter.ensures.closure (λ x b q k. search (rules, tests))) ∙ length_passing f s.height
