-- The text of a line, and what a call that writes one answers.
use Rattle.std.specs.Prelude.{ℕ, ◌+◌, if◌then◌else◌, List, [], ◌∷◌, ◌++◌, Ok, Result, nat_le, refl}
use Rattle.std.specs.List.{flat_map}
use Rattle.refusal.specs.Number.{refused}
use Rattle.refusal.specs.declared.Refusal.{Refusal}
use Rattle.refusal.specs.declared.Refusal.TheVariants.{Buffer}
use Rattle.columns.specs.Number.{unsigned, columns_of}
use Rattle.columns.specs.declared.line.Line.{Line}
use Rattle.columns.specs.declared.number.Number.{Number}

-- each number's six columns
abbrev pub fields : List Number → List ℕ
fields = flat_map columns_of

abbrev pub text_of : Line → List ℕ
text_of l = fields l.numbers ++ (10 ∷ [])

-- a line of four numbers without a sign
abbrev pub small : ℕ → ℕ → ℕ → ℕ → Line
small a b c d = record { numbers = unsigned a ∷ unsigned b ∷ unsigned c ∷ unsigned d ∷ [] }

-- the line ends 25 bytes on, if the buffer of the length has them
abbrev pub answer : ℕ → ℕ → Result ℕ Refusal
answer length at = if nat_le (at + 25) length then Ok (at + 25) else refused Buffer 12 refl
