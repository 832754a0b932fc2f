-- What a queue means.
use Rattle.std.specs.Prelude.{◌≡◌, ℕ, List, length}
use Rattle.std.specs.Borrow.{GName}
use Rattle.queue.specs.Ring.{ring}
use Rattle.queue.specs.declared.Queue.{Queue}

-- the elements that wait, the oldest first
unfoldable pub waiting : {T : Type 0} → Queue T → List T
waiting q = ring q.items.now q.head q.waits

unfoldable pub places : {T : Type 0} → Queue T → ℕ
places q = length q.items.now

-- which memory it was lent: no call exchanges it for another
abbrev pub memory : {T : Type 0} → Queue T → GName
memory q = q.items.ghost_name

-- a call that leaves a queue the memory it was lent, and all places of it
pub record SameMemory {T : Type 0} (q m : Queue T) : Type 0 where
  pub places : places m ≡ places q
  pub memory : memory m ≡ memory q
