use Rattle.std.proofs.Common.{◌≡◌, ◌*◌, min, length}
use Rattle.plane.specs.Layout.{shown}
use Rattle.plane.proofs.RunLaws.{Done}
use Rattle.plane.proofs.change.change_row.Given as goal

abbrev pub invariant-loop-k : goal.invariant-loop-k
invariant-loop-k g l =
    let lay = g.C.Cell.layout l.across l.up in
    let p = shown lay (g.C.Cell.numbers l.fn.memory) in
    record {
      length : length l.memory ≡ length l.fn.memory;
      done : Done l.y l.run.start (min l.run.end (8 * l.k)) (g.H.Change.becomes l.change l.run.start p) p (shown lay (g.C.Cell.numbers l.memory)) l.count;
    }
