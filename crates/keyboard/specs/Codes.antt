-- The bytes that a stroke sends: a character, or a prefix by the emulation and the modes and the key's letter.
use Rattle.std.specs.Prelude.{ℕ, ◌%◌, ◌≤◌, min, if◌then◌else◌, List, [], ◌∷◌, ◌++◌, length, take}
use Rattle.parser.specs.Emulation.{is_vt52}
use Rattle.parser.specs.declared.emulation.Emulation.{Emulation}
use Rattle.keyboard.specs.Key.{arrow_letter, keypad_letter, engraved, function_letter}
use Rattle.keyboard.specs.declared.key.Key.{Key}
use Rattle.keyboard.specs.declared.key.Key.TheVariants.{Byte, Arrow, Keypad, Function}
use Rattle.keyboard.specs.declared.modes.KeyModes.{KeyModes}
use Rattle.keyboard.specs.declared.stroke.Stroke.{Stroke}
use Rattle.keyboard.specs.declared.codes.Codes.{Codes}

-- in VT52 ESC; else ESC O where cursor keys mode is set and ESC [ where it is reset
abbrev pub arrow_prefix : Emulation → KeyModes → List ℕ
arrow_prefix e m = if is_vt52 e then 27 ∷ [] else if m.cursor_keys then 27 ∷ 79 ∷ [] else 27 ∷ 91 ∷ []

-- in VT52 ESC ?; else ESC O
abbrev pub keypad_prefix : Emulation → List ℕ
keypad_prefix e = if is_vt52 e then 27 ∷ 63 ∷ [] else 27 ∷ 79 ∷ []

-- in VT52 ESC; else ESC O
abbrev pub function_prefix : Emulation → List ℕ
function_prefix e = if is_vt52 e then 27 ∷ [] else 27 ∷ 79 ∷ []

abbrev pub key_codes : Key → Emulation → KeyModes → List ℕ
key_codes (Byte code) e m = code % 128 ∷ []
key_codes (Arrow direction) e m = arrow_prefix e m ++ (arrow_letter direction ∷ [])
key_codes (Keypad key) e m = if m.keypad_application then keypad_prefix e ++ (keypad_letter key ∷ []) else engraved key ∷ []
key_codes (Function key) e m = function_prefix e ++ (function_letter key ∷ [])

abbrev pub codes_of : Stroke → Emulation → KeyModes → List ℕ
codes_of s e m = key_codes s.key e m

-- the bytes in the record, of which there are at most three
abbrev pub bytes_of : Codes → List ℕ
bytes_of c = take (min c.count 3) c.bytes

-- no stroke sends more than three bytes
abbrev pub Short : Type 0
Short = (s : Stroke) (e : Emulation) (m : KeyModes) → length (codes_of s e m) ≤ 3
