-- The number of each stroke, and the stroke of each number.
use Rattle.std.specs.Prelude.{◌≡◌, ℕ, ◌+◌, ◌-◌, ◌%◌, ◌<◌, ◌≤◌, if◌then◌else◌, Some, None, Option, Result, MatchResult, nat_le}
use Rattle.std.specs.Option.{ok_or}
use Rattle.refusal.specs.declared.Refusal.{Refusal}
use Rattle.refusal.specs.declared.Refusal.TheVariants.{Key as NoKey}
use Rattle.keyboard.specs.Key.{direction_place, direction_at, keypad_place, keypad_at, function_place, function_at}
use Rattle.keyboard.specs.declared.key.Key.{Key}
use Rattle.keyboard.specs.declared.key.Key.TheVariants.{Byte, Arrow, Keypad, Function}
use Rattle.keyboard.specs.declared.stroke.Stroke.{Stroke}

abbrev pub stroke_of : Key → Stroke
stroke_of k = record { key = k }

abbrev pub key_number : Key → ℕ
key_number (Byte code) = code % 128
key_number (Arrow direction) = 128 + direction_place direction
key_number (Keypad key) = 132 + keypad_place key
key_number (Function key) = 146 + function_place key

abbrev pub number_of : Stroke → ℕ
number_of s = key_number s.key

-- the stroke of the number; none has a number above 149
abbrev pub numbered : ℕ → Option Stroke
numbered n =
    if nat_le n 127 then Some (stroke_of (Byte n))
    else if nat_le n 131 then Some (stroke_of (Arrow (direction_at (n - 128))))
    else if nat_le n 145 then Some (stroke_of (Keypad (keypad_at (n - 132))))
    else if nat_le n 149 then Some (stroke_of (Function (function_at (n - 146))))
    else None

abbrev pub seven_bit_key : Key → Key
seven_bit_key (Byte code) = Byte (code % 128)
seven_bit_key key = key

-- the stroke itself, but for the eighth bit of a byte, which is never sent
abbrev pub seven_bit : Stroke → Stroke
seven_bit s = stroke_of (seven_bit_key s.key)

-- a stroke's number, and the way back from it
abbrev pub Numbers : Stroke → ℕ → Type 0
Numbers s n = record { number : n ≡ number_of s; below : n ≤ 149; back : numbered n ≡ Some (seven_bit s) }

-- the stroke of a number, and the way back from it
abbrev pub Decodes : ℕ → Result Stroke Refusal → Type 0
Decodes n r = record { stroke : r ≡ ok_or (numbered n) NoKey; back : MatchResult r (λ s. number_of s ≡ n) (λ _. 149 < n) }
