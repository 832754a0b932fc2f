-- How bytes come onto a line and leave it, as relations of the line before and after.
use Rattle.std.specs.Prelude.{◌≡◌, ℕ, ◌+◌, ◌<◌, ◌≤◌, min, List, [], ◌∷◌, ◌++◌, length, Some, None, Ok, Err, Option, Result}
use Rattle.line.specs.Wire.{Wire, Lawful}
use Rattle.line.specs.declared.shortage.Shortage.{Shortage}

-- an accepted offer: the room may fall by more than its bytes
pub record Offered (l : Wire) (bytes : List ℕ) (m : Wire) : Type 0 where
  pub fits : length bytes ≤ l.room
  pub joins : m.waiting ≡ l.waiting ++ bytes
  pub falls : m.room + length bytes ≤ l.room
  pub capacity : m.capacity ≡ l.capacity
  pub lawful : Lawful m

-- an offer, by its answer
abbrev pub Answered : Wire → List ℕ → Result (Unit {0}) Shortage → Wire → Type 0
Answered l bytes (Ok _) m = Offered l bytes m
Answered l bytes (Err s) m = (l.room < length bytes) × (s ≡ record { need = length bytes; room = l.room }) × (m ≡ l)

-- bytes that left from the front: the room is open but for the law
pub record Taken (l : Wire) (bytes : List ℕ) (m : Wire) : Type 0 where
  pub front : l.waiting ≡ bytes ++ m.waiting
  pub capacity : m.capacity ≡ l.capacity
  pub lawful : Lawful m

-- a take, by its answer
abbrev pub Delivered : Wire → Option ℕ → Wire → Type 0
Delivered l None m = (l.waiting ≡ []) × (m ≡ l)
Delivered l (Some b) m = Taken l (b ∷ []) m

-- what n places take from the front: all that waits, as far as it fits
pub record Emptied (l : Wire) (n : ℕ) (bytes : List ℕ) (m : Wire) : Type 0 where
  pub count : length bytes ≡ min n (length l.waiting)
  pub took : Taken l bytes m
