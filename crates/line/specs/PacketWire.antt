-- Packets as a line.
use Rattle.std.specs.Prelude.{◌≡◌, ℕ, ◌-◌, ◌*◌, ◌<◌, List, [], ◌∷◌, ◌++◌, length, refl}
use Rattle.std.proofs.Common.{ap, lt_irrefl, suc-ne-zero, zero-lt-suc}
use Rattle.line.specs.Content.{Packet, content, contents, EachWaits}
use Rattle.line.specs.Wire.{Wire, Lawful}
use Rattle.line.specs.declared.packets.Packets.{Packets}

-- the packets that wait
abbrev pub in_use : Packets → List Packet
in_use s = s.packets.items

-- each packet that is free is room for 16 bytes
abbrev pub packet_wire : Packets → Wire
packet_wire s = record { waiting = contents (in_use s); room = 16 * (8 - length (in_use s)); capacity = 128 }

some_left : (bs cs : List ℕ) → 0 < length bs → bs ++ cs ≡ [] → ⊥
some_left [] cs some e = lt_irrefl 0 some
some_left (b ∷ bs) cs some e = suc-ne-zero (length (bs ++ cs)) (ap length e)

-- where no byte waits, no packet does
none_waits : (ps : List Packet) → EachWaits ps → contents ps ≡ [] → ps ≡ []
none_waits [] some e = refl
none_waits (p ∷ ps) some e = absurd (some_left (content p) (contents ps) (some 0 p (zero-lt-suc (length ps))) e)

pub packet_lawful : (s : Packets) → Lawful (packet_wire s)
packet_lawful s e = ap (λ ps. 16 * (8 - length ps)) (none_waits (in_use s) s.some e)
