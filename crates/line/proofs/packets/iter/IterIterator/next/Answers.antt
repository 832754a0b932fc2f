use Rattle.line.proofs.PacketLaws.{behind_wait}
use Rattle.line.proofs.packets.iter.IterIterator.next.Goals as goal

pub invariant_of-self-2 : goal.invariant_of-self-2
invariant_of-self-2 c = behind_wait _ _ _ c.in_ok-packet.ensures.cases.0 c.self.invariant
