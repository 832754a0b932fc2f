-- The way back from the number of a key of the keypad.
use Rattle.std.proofs.Common.{◌≡◌, ◌+◌, Some, refl, rules}
use Rattle.keyboard.specs.Key.{keypad_place}
use Rattle.keyboard.specs.Stroke.{numbered, stroke_of}
use Rattle.keyboard.specs.declared.key.Key.TheVariants.{Keypad}
use Rattle.keyboard.specs.declared.key.KeypadKey.{KeypadKey}
use Rattle.keyboard.specs.declared.key.KeypadKey.TheVariants.{Zero, One, Two, Three, Four, Five, Six, Seven, Eight, Nine, Minus, Comma, Period, Enter}
use Rattle.keyboard.proofs.stroke.U8FromStroke.from.Goals as goal

-- key by key
back : (k : KeypadKey) → numbered (132 + keypad_place k) ≡ Some (stroke_of (Keypad k))
back =
    elim [ Zero ↦ refl | One ↦ refl | Two ↦ refl | Three ↦ refl | Four ↦ refl | Five ↦ refl | Six ↦ refl | Seven ↦ refl | Eight ↦ refl | Nine ↦ refl | Minus ↦ refl | Comma ↦ refl | Period ↦ refl | Enter ↦ refl ]

pub returns-in-Keypad : goal.returns-in-Keypad
returns-in-Keypad c = let b = back c.in-Keypad.key in search rules
