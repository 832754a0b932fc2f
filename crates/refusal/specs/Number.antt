-- The number of each refusal, and how a contract names a refusal with its number.
use Rattle.std.specs.Prelude.{◌≡◌, ℕ, Some, Err, Option, Result}
use Rattle.refusal.specs.declared.Refusal.{Refusal}
use Rattle.refusal.specs.declared.Refusal.TheVariants.{Size, Memory, Terminator, PlaneSize, Capacity, Face, Strokes, Full, Key, QueueFull, Outside, Buffer}

abbrev pub number_of : Refusal → ℕ
number_of Size = 1
number_of Memory = 2
number_of Terminator = 3
number_of PlaneSize = 4
number_of Capacity = 5
number_of Face = 6
number_of Strokes = 7
number_of (Full need room) = 8
number_of Key = 9
number_of QueueFull = 10
number_of Outside = 11
number_of Buffer = 12

-- the answer of a call that refuses; it can be written only with the refusal's own number
abbrev pub refused : {X : Type 0} (r : Refusal) (n : ℕ) → number_of r ≡ n → Result X Refusal
refused r n is = Err r

-- the reason of a call that refuses, likewise
abbrev pub because : (r : Refusal) (n : ℕ) → number_of r ≡ n → Option Refusal
because r n is = Some r
