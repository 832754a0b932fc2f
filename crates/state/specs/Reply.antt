-- What each action replies, in one offer.
use Rattle.std.specs.Prelude.{ℕ, ◌+◌, ◌/◌, ◌%◌, min, List, [], ◌∷◌, ◌++◌, ℤ, pos, negsuc}
use Rattle.keyboard.specs.declared.stroke.Stroke.{Stroke}
use Rattle.keyboard.specs.Codes.{codes_of}
use Rattle.state.specs.declared.action.Action.{Action}
use Rattle.state.specs.declared.action.Action.TheVariants.{Nothing, Control, Draw, Gin, Key, Aim}
use Rattle.state.specs.declared.action.Control.TheVariants.{Lock, Unlock, Acknowledge, Report, Reset}
use Rattle.state.specs.declared.action.GinAction.{GinAction}
use Rattle.state.specs.declared.action.GinAction.TheVariants.{Enter, Begin, Lose, Leave}
use Rattle.state.specs.declared.action.KeyAction.{KeyAction}
use Rattle.state.specs.declared.action.KeyAction.TheVariants.{Hold}
use Rattle.state.specs.declared.setup.Terminator.{Terminator}
use Rattle.state.specs.declared.setup.Terminator.TheVariants.{Nothing as NoEnd, Cr, CrEot}
use Rattle.state.specs.declared.terminal.Terminal.{Terminal}

-- brought to 0 .. 1,023
abbrev pub cut : ℤ → ℕ
cut (pos n) = min n 1023
cut (negsuc n) = 0

-- high X, low X, high Y, low Y in graph form: five bits each, behind 32, 64, 32 and 96
abbrev pub coordinates : ℕ → ℕ → List ℕ
coordinates x y = (32 + x / 32) ∷ (64 + x % 32) ∷ (32 + y / 32) ∷ (96 + y % 32) ∷ []

abbrev pub ending : Terminator → List ℕ
ending NoEnd = []
ending Cr = 13 ∷ []
ending CrEot = 13 ∷ 4 ∷ []

-- the position's report: 33 and 4, since no graph mode is on
abbrev pub position_report : Terminal → List ℕ
position_report t = 37 ∷ (coordinates (cut t.window.position.x) (cut t.window.position.y) ++ ending t.setup.terminator)

-- the pointer's, without status
abbrev pub pointer_report : Terminal → List ℕ
pointer_report t = coordinates (min t.pointer.x 1023) (min t.pointer.y 1023) ++ ending t.setup.terminator

-- the bytes of strokes, one after the other
abbrev pub all_codes : Terminal → List Stroke → List ℕ
all_codes t [] = []
all_codes t (k ∷ ks) = codes_of k t.emulation t.modes.keys ++ all_codes t ks

abbrev pub reply_of : Terminal → List Stroke → Action → List ℕ
reply_of t ks Nothing = []
reply_of t ks (Control Lock) = []
reply_of t ks (Control Unlock) = all_codes t ks
reply_of t ks (Control Acknowledge) = 6 ∷ []
reply_of t ks (Control Report) = position_report t
reply_of t ks (Control Reset) = []
reply_of t ks (Draw d) = []
reply_of t ks (Gin Enter) = []
reply_of t ks (Gin Begin) = []
reply_of t ks (Gin Lose) = []
reply_of t ks (Gin Leave) = []
reply_of t ks (Gin GinAction.Report) = pointer_report t
reply_of t ks (Gin (GinAction.Send k)) = codes_of k t.emulation t.modes.keys ++ pointer_report t
reply_of t ks (Key (Hold k)) = []
reply_of t ks (Key (KeyAction.Send k)) = codes_of k t.emulation t.modes.keys
reply_of t ks (Aim a) = []
