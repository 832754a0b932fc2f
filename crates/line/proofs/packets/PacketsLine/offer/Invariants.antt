use Rattle.std.proofs.Common.{◌≡◌, ◌+◌, ◌*◌, ◌≤◌, ◌++◌, length}
use Rattle.std.specs.Slice.Iter.{chunks_rest, chunks_size}
use Rattle.line.specs.Content.{contents}
use Rattle.line.specs.PacketWire.{in_use}
use Rattle.line.proofs.packets.PacketsLine.offer.Given as goal

-- every packet but the last is full, and those of the rest fit
abbrev pub invariant-loop-part : goal.invariant-loop-part
invariant-loop-part l =
    (goal.iterator-loop-part).can_next l.part-iterator
    × (goal.iterator-loop-part).is_finite l.part-iterator
    × (chunks_size l.part-iterator ≡ 16)
    × (contents (in_use l.self) ++ chunks_rest l.part-iterator ≡ contents (in_use l.initial.self) ++ l.bytes)
    × (16 * length (in_use l.self) + length (chunks_rest l.part-iterator) ≤ 128)
    × (16 * length (in_use l.initial.self) + length l.bytes ≤ 16 * length (in_use l.self) + length (chunks_rest l.part-iterator))
