-- The place of each key in its group, the letter that ends its sequence, and the character engraved.
use Rattle.std.specs.Prelude.{ℕ, [], ◌∷◌, slice_index_or}
use Rattle.keyboard.specs.declared.key.Direction.{Direction}
use Rattle.keyboard.specs.declared.key.Direction.TheVariants.{Up, Down, Right, Left}
use Rattle.keyboard.specs.declared.key.KeypadKey.{KeypadKey}
use Rattle.keyboard.specs.declared.key.KeypadKey.TheVariants.{Zero, One, Two, Three, Four, Five, Six, Seven, Eight, Nine, Minus, Comma, Period, Enter}
use Rattle.keyboard.specs.declared.key.FunctionKey.{FunctionKey}
use Rattle.keyboard.specs.declared.key.FunctionKey.TheVariants.{Pf1, Pf2, Pf3, Pf4}

abbrev pub direction_place : Direction → ℕ
direction_place Up = 0
direction_place Down = 1
direction_place Right = 2
direction_place Left = 3

abbrev pub direction_at : ℕ → Direction
direction_at i = slice_index_or (Up ∷ Down ∷ Right ∷ Left ∷ []) i Left

-- A to D
abbrev pub arrow_letter : Direction → ℕ
arrow_letter Up = 65
arrow_letter Down = 66
arrow_letter Right = 67
arrow_letter Left = 68

abbrev pub keypad_place : KeypadKey → ℕ
keypad_place Zero = 0
keypad_place One = 1
keypad_place Two = 2
keypad_place Three = 3
keypad_place Four = 4
keypad_place Five = 5
keypad_place Six = 6
keypad_place Seven = 7
keypad_place Eight = 8
keypad_place Nine = 9
keypad_place Minus = 10
keypad_place Comma = 11
keypad_place Period = 12
keypad_place Enter = 13

abbrev pub keypad_at : ℕ → KeypadKey
keypad_at i =
    slice_index_or (Zero ∷ One ∷ Two ∷ Three ∷ Four ∷ Five ∷ Six ∷ Seven ∷ Eight ∷ Nine ∷ Minus ∷ Comma ∷ Period ∷ Enter ∷ []) i Enter

-- p to y, m, l, n and M
abbrev pub keypad_letter : KeypadKey → ℕ
keypad_letter Zero = 112
keypad_letter One = 113
keypad_letter Two = 114
keypad_letter Three = 115
keypad_letter Four = 116
keypad_letter Five = 117
keypad_letter Six = 118
keypad_letter Seven = 119
keypad_letter Eight = 120
keypad_letter Nine = 121
keypad_letter Minus = 109
keypad_letter Comma = 108
keypad_letter Period = 110
keypad_letter Enter = 77

-- the digits, '-', ',', '.', and CR for ENTER
abbrev pub engraved : KeypadKey → ℕ
engraved Zero = 48
engraved One = 49
engraved Two = 50
engraved Three = 51
engraved Four = 52
engraved Five = 53
engraved Six = 54
engraved Seven = 55
engraved Eight = 56
engraved Nine = 57
engraved Minus = 45
engraved Comma = 44
engraved Period = 46
engraved Enter = 13

abbrev pub function_place : FunctionKey → ℕ
function_place Pf1 = 0
function_place Pf2 = 1
function_place Pf3 = 2
function_place Pf4 = 3

abbrev pub function_at : ℕ → FunctionKey
function_at i = slice_index_or (Pf1 ∷ Pf2 ∷ Pf3 ∷ Pf4 ∷ []) i Pf4

-- P to S
abbrev pub function_letter : FunctionKey → ℕ
function_letter Pf1 = 80
function_letter Pf2 = 81
function_letter Pf3 = 82
function_letter Pf4 = 83
