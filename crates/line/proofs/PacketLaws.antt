-- How many bytes and packets wait, and packets of which the first leaves or loses a byte.
use Rattle.std.proofs.Common.{◌≡◌, ℕ, ◌<◌, List, [], ◌∷◌, ◌++◌, length, get_or, set, remove, suc, refl, sym, ap, ◌∙◌, subst, arith}
use Rattle.arrayvec.specs.ArrayVec.{array_vec_len}
use Rattle.line.specs.Content.{Packet, content, contents, EachWaits}
use Rattle.line.specs.PacketWire.{in_use}
use Rattle.line.specs.declared.packets.Packets.{Packets}

pub length_content : (p : Packet) → length (content p) ≡ array_vec_len p
length_content p = refl

pub length_in_use : (s : Packets) → length (in_use s) ≡ array_vec_len s.packets
length_in_use s = refl

pub first_byte : (bs cs : List ℕ) (b : ℕ) → 0 < length bs → b ≡ get_or bs 0 b → cs ≡ remove bs 0 → bs ≡ b ∷ cs
first_byte [] cs b some is gone = absurd (omega arith)
first_byte (a ∷ bs) cs b some is gone = ap (λ x. x ∷ bs) (sym is) ∙ ap (λ xs. b ∷ xs) (sym gone)

-- a byte taken from the first of the packets ps, which is p before and q after it
pub first_leaves : (ps : List Packet) (p q : Packet) (b : ℕ) → 0 < length ps → p ≡ get_or ps 0 p → content p ≡ b ∷ content q → contents ps ≡ b ∷ contents (set ps 0 q)
first_leaves [] p q b some is parts = absurd (omega arith)
first_leaves (o ∷ ps) p q b some is parts = ap (λ bs. bs ++ contents ps) (ap content (sym is) ∙ parts)

pub behind_wait : (ps qs : List Packet) (p : Packet) → ps ≡ p ∷ qs → EachWaits ps → EachWaits qs
behind_wait ps qs p parts some k d lt = subst EachWaits parts some (suc k) d (omega arith)
