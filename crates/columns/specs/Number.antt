-- A number's six columns, by places.
use Rattle.std.specs.Prelude.{ℕ, suc, ◌+◌, ◌-◌, ◌/◌, ◌%◌, ◌^◌, Bool, true, false, if◌then◌else◌, not, ◌&&◌, ◌||◌, List, [], ◌∷◌, ℤ, pos, negsuc, ◌==◌}
use Rattle.columns.specs.declared.number.Number.{Number}

abbrev pub unsigned : ℕ → Number
unsigned n = record { negative = false; magnitude = n }

abbrev pub signed : ℤ → Number
signed (pos n) = record { negative = false; magnitude = n }
signed (negsuc n) = record { negative = true; magnitude = suc n }

-- the digit of 10 ^ k
abbrev pub digit : ℕ → ℕ → ℕ
digit n k = 48 + n / 10 ^ k % 10

-- no digit is written left of the first that is not 0, and the last always is
abbrev pub written : ℕ → ℕ → Bool
written n k = k == 0 || not (n / 10 ^ k == 0)

-- a minus stands directly before the first digit
abbrev pub place : Bool → ℕ → ℕ → ℕ
place negative n k = if written n k then digit n k else if negative && written n (k - 1) then 45 else 32

abbrev pub field : Bool → ℕ → List ℕ
field negative n =
    place negative n 5 ∷ place negative n 4 ∷ place negative n 3 ∷ place negative n 2 ∷ place negative n 1 ∷ place negative n 0 ∷ []

abbrev pub columns_of : Number → List ℕ
columns_of n = field n.negative n.magnitude
