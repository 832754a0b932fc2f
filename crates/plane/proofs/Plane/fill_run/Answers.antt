use Rattle.std.proofs.Common.{◌∙◌}
use Rattle.plane.proofs.RunLaws.{join_fills}
use Rattle.plane.proofs.Plane.fill_run.Goals as goal

pub returns-clause-picture : goal.returns-clause-picture
returns-clause-picture g c =
    let a = c.args in
    (rw (c.to.ensures.zero, c.to.ensures.one) at c.join_run.ensures.picture) ∙ join_fills (g.Self.Plane.picture a.self.now) a.y a.run.start a.run.end a.bit
