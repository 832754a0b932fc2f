use Rattle.std.proofs.Common.{◌≡◌, take, drop}
use Rattle.line.specs.Transfer.{Taken}
use Rattle.line.proofs.drain.Given as goal

abbrev pub invariant-loop-count : goal.invariant-loop-count
invariant-loop-count g l =
    (drop l.count l.buffer ≡ drop l.count l.initial.buffer)
    × Taken (g.L.Line.carried l.initial.line) (take l.count l.buffer) (g.L.Line.carried l.line)
