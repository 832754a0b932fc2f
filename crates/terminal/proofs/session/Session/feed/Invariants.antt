use Rattle.std.proofs.Common.{◌≤◌}
use Rattle.queue.specs.Waiting.{places}
use Rattle.runs.proofs.Steps.{SoFar}
use Rattle.terminal.specs.Session.{seen, SameLoans}
use Rattle.terminal.proofs.session.Session.feed.Given as goal

abbrev pub invariant-loop-taken : goal.invariant-loop-taken
invariant-loop-taken g l =
    let set = seen g.P.Plane.picture g.L.Line.carried in
    (places l.self.strokes.now ≤ 16) × SoFar (set l.initial.self) l.bytes l.taken (set l.self) × SameLoans l.initial.self l.self
