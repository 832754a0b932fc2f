use Rattle.std.proofs.Common.{◌≡◌, [], refl, arith, rules}
use Rattle.std.proofs.lemmas.Bool.Decides.{nat_tests}
use Rattle.std.proofs.lemmas.Grind.{common_steps}
use Rattle.std.proofs.lemmas.List.{nil_from_length, length-take, length-drop}
use Rattle.line.specs.PacketWire.{packet_lawful}
use Rattle.line.proofs.PacketLaws.{first_byte, first_leaves}
use Rattle.line.proofs.packets.PacketsLine.take.Goals as goal

pub returns-else-is_empty-clause-delivered : goal.returns-else-is_empty-clause-delivered
returns-else-is_empty-clause-delivered c =
    let ps = c.args.self.now.packets.items in
    let p = c.in_ok-packet.packet.now in
    let q = c.remove-byte.new.self in
    let b = c.remove-byte.result in
    let parts = first_byte p.items q.items b (omega arith) c.remove-byte.ensures.value c.remove-byte.ensures.items in
    record { front = first_leaves ps p q b (c.in_ok-packet.ensures.variant.0 refl) (search rules) parts; capacity = refl; lawful = search (rules, packet_lawful) }

-- the test by what it says of the length
pub returns-then-is_empty-clause-delivered : goal.returns-then-is_empty-clause-delivered
returns-then-is_empty-clause-delivered c =
    let none : c.remove-byte.new.self.items ≡ [] = nil_from_length _ (grind (arith, nat_tests, length-take, length-drop)) in
    record { front = grind (arith, common_steps); capacity = refl; lawful = search (rules, packet_lawful) }
