use Rattle.std.proofs.Common.{ap, sym, ◌∙◌, arith}
use Rattle.std.specs.Result.{result_err}
use Rattle.queue.proofs.RingLaws.{waiting_fits}
use Rattle.runs.proofs.Sizes.{admitted}
use Rattle.terminal.specs.Session.{seen}
use Rattle.terminal.proofs.session.Session.key.Goals as goal

pub work-requires-clause-few : goal.work-requires-clause-few
work-requires-clause-few g c =
    let s = c.args.self.now in
    let admits = sym c.admit.ensures ∙ ap result_err (c.in_ok-admit.was {u = tt}) in
    omega (arith, (admitted (seen g.P.Plane.picture g.L.Line.carried s) admits).places, waiting_fits s.strokes.now)
