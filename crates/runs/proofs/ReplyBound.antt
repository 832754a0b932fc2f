-- Replies are short: three bytes for each stroke that waits, and nine besides.
use Rattle.std.proofs.Common.{ℕ, ◌+◌, ◌*◌, ◌≤◌, List, [], ◌∷◌, ◌++◌, length, arith, length-append}
use Rattle.parser.specs.declared.emulation.Emulation.{Emulation}
use Rattle.parser.specs.Emulation.{is_vt52}
use Rattle.keyboard.specs.declared.key.Key.{Key as Cap}
use Rattle.keyboard.specs.declared.key.Key.TheVariants.{Byte, Arrow, Keypad, Function}
use Rattle.keyboard.specs.declared.modes.KeyModes.{KeyModes}
use Rattle.keyboard.specs.declared.stroke.Stroke.{Stroke}
use Rattle.keyboard.specs.Codes.{key_codes, arrow_prefix, keypad_prefix, function_prefix, Short}
use Rattle.keyboard.specs.Key.{arrow_letter, keypad_letter, function_letter}
use Rattle.state.specs.declared.action.Action.{Action}
use Rattle.state.specs.declared.action.Action.TheVariants.{Nothing, Control, Draw, Gin, Key, Aim}
use Rattle.state.specs.declared.action.Control.TheVariants.{Lock, Unlock, Acknowledge, Report, Reset}
use Rattle.state.specs.declared.action.GinAction.{GinAction}
use Rattle.state.specs.declared.action.GinAction.TheVariants.{Enter, Begin, Lose, Leave}
use Rattle.state.specs.declared.action.KeyAction.{KeyAction}
use Rattle.state.specs.declared.action.KeyAction.TheVariants.{Hold}
use Rattle.state.specs.declared.setup.Terminator.{Terminator}
use Rattle.state.specs.declared.setup.Terminator.TheVariants.{Nothing as NoEnd, Cr, CrEot}
use Rattle.state.specs.declared.terminal.Terminal.{Terminal}
use Rattle.state.specs.Reply.{ending, all_codes, reply_of}
use Rattle.runs.proofs.Choice.{whichever}

-- two bytes at most
abbrev Two : List ℕ → Type 0
Two l = length l ≤ 2

-- a prefix and a letter
letter_short : (p : List ℕ) (x : ℕ) → length p ≤ 2 → length (p ++ (x ∷ [])) ≤ 3
letter_short p x h = simp length-append (omega arith)

-- by the kind of key
key_short : (k : Cap) (e : Emulation) (m : KeyModes) → length (key_codes k e m) ≤ 3
key_short (Byte code) e m = omega arith
key_short (Arrow d) e m =
    letter_short (arrow_prefix e m) (arrow_letter d)
    (whichever Two (is_vt52 e) (omega arith) (whichever Two m.cursor_keys (omega arith) (omega arith)))
key_short (Keypad k) e m =
    whichever (λ l. length l ≤ 3) m.keypad_application
    (letter_short (keypad_prefix e) (keypad_letter k) (whichever Two (is_vt52 e) (omega arith) (omega arith))) (omega arith)
key_short (Function k) e m = letter_short (function_prefix e) (function_letter k) (whichever Two (is_vt52 e) (omega arith) (omega arith))

-- no stroke sends more than three bytes
pub codes_short : Short
codes_short s e m = key_short s.key e m

-- what ends a report
ending_short : (t : Terminator) → length (ending t) ≤ 2
ending_short NoEnd = omega arith
ending_short Cr = omega arith
ending_short CrEot = omega arith

-- the strokes that waited
all_short : (t : Terminal) (ks : List Stroke) → length (all_codes t ks) ≤ 3 * length ks
all_short t [] = omega arith
all_short t (k ∷ ks) =
    let a = codes_short k t.emulation t.modes.keys in
    let b = all_short t ks in
    simp length-append (omega arith)

-- every action
pub reply_bound : (t : Terminal) (ks : List Stroke) (a : Action) → length (reply_of t ks a) ≤ 3 * length ks + 9
reply_bound t ks Nothing = omega arith
reply_bound t ks (Control Lock) = omega arith
reply_bound t ks (Control Unlock) = omega (arith, all_short t ks)
reply_bound t ks (Control Acknowledge) = omega arith
reply_bound t ks (Control Report) = omega (arith, ending_short t.setup.terminator)
reply_bound t ks (Control Reset) = omega arith
reply_bound t ks (Draw d) = omega arith
reply_bound t ks (Gin Enter) = omega arith
reply_bound t ks (Gin Begin) = omega arith
reply_bound t ks (Gin Lose) = omega arith
reply_bound t ks (Gin Leave) = omega arith
reply_bound t ks (Gin GinAction.Report) = omega (arith, ending_short t.setup.terminator)
reply_bound t ks (Gin (GinAction.Send k)) =
    let a = codes_short k t.emulation t.modes.keys in
    let b = ending_short t.setup.terminator in
    simp length-append (omega arith)
reply_bound t ks (Key (Hold k)) = omega arith
reply_bound t ks (Key (KeyAction.Send k)) = omega (arith, codes_short k t.emulation t.modes.keys)
reply_bound t ks (Aim p) = omega arith

-- with sixteen strokes waiting no reply exceeds the least capacity
pub reply_fits : (t : Terminal) (ks : List Stroke) (a : Action) → length ks ≤ 16 → length (reply_of t ks a) ≤ 64
reply_fits t ks a h = omega (arith, reply_bound t ks a)
