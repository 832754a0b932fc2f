-- What waits in a packet, and in packets one after the other.
use Rattle.std.specs.Prelude.{ℕ, ◌<◌, ◌≤◌, List, length}
use Rattle.std.specs.List.{All, flat_map}
use Rattle.arrayvec.specs.ArrayVec.{ArrayVec}

abbrev pub Packet : Type 0
Packet = ArrayVec ℕ

abbrev pub content : Packet → List ℕ
content p = p.items

abbrev pub contents : List Packet → List ℕ
contents ps = flat_map content ps

-- in every packet something waits, since an emptied packet is free
abbrev pub EachWaits : List Packet → Type 0
EachWaits ps = All (λ p. 0 < length (content p)) ps

-- no packet has more bytes than it has places
abbrev pub EachFits : List Packet → Type 0
EachFits ps = All (λ p. length (content p) ≤ 16) ps
