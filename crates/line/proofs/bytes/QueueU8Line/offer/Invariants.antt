use Rattle.std.proofs.Common.{◌≡◌, ◌++◌, take}
use Rattle.queue.specs.Waiting.{waiting, places}
use Rattle.line.proofs.bytes.QueueU8Line.offer.Given as goal

abbrev pub invariant-loop-b : goal.invariant-loop-b
invariant-loop-b l =
    (waiting l.self ≡ waiting l.initial.self ++ take l.b-index l.bytes)
    × (places l.self ≡ places l.initial.self)
