-- What a line means.
use Rattle.std.specs.Prelude.{◌≡◌, ℕ, List, []}

-- the bytes that wait, the first that leaves first
pub record Wire : Type 0 where
  pub waiting : List ℕ
  pub room : ℕ
  pub capacity : ℕ

-- with nothing waiting the room is the capacity
abbrev pub Lawful : Wire → Type 0
Lawful l = l.waiting ≡ [] → l.room ≡ l.capacity

-- a line of this capacity on which nothing waits
abbrev pub idle : ℕ → Wire
idle n = record { waiting = []; room = n; capacity = n }
