-- What a host byte, a stroke or a place calls for, and the parser after it. Only here are bytes told apart.
use Rattle.std.specs.Prelude.{ℕ, Bool, true, false, if◌then◌else◌, ◌&&◌, ◌||◌, ◌==◌, nat_le}
use Rattle.keyboard.specs.declared.stroke.Stroke.{Stroke}
use Rattle.parser.specs.Machine.{parsed}
use Rattle.state.specs.declared.action.Action.{Action}
use Rattle.state.specs.declared.action.Action.TheVariants.{Nothing, Control, Gin, Key}
use Rattle.state.specs.declared.action.Control.TheVariants.{Lock, Unlock}
use Rattle.state.specs.declared.action.GinAction.{GinAction}
use Rattle.state.specs.declared.action.GinAction.TheVariants.{Begin, Lose, Leave, Report, Send}
use Rattle.state.specs.declared.action.KeyAction.{KeyAction}
use Rattle.state.specs.declared.action.KeyAction.TheVariants.{Hold}
use Rattle.state.specs.declared.reading.Reading.{Reading}
use Rattle.state.specs.declared.terminal.Gin.{Gin as Input}
use Rattle.state.specs.declared.terminal.Gin.TheVariants.{Off, On, AfterEscape}
use Rattle.state.specs.declared.terminal.Terminal.{Terminal}
use Rattle.state.specs.Action.{called_for}

-- in graphics input: CR or US ends it, ESC ENQ reports, all else is lost, a begun ESC too
abbrev pub in_gin : Bool → ℕ → GinAction
in_gin begun b = if b == 27 then Begin else (if b == 13 || b == 31 then Leave else (if b == 5 && begun then Report else Lose))

-- what comes after the bytes that pass by
abbrev pub further : Input → Terminal → ℕ → Reading
further Off t b = record { parser = record { state = (parsed t.emulation t.parser.state b).0 }; action = called_for (parsed t.emulation t.parser.state b).1 }
further On t b = record { parser = t.parser; action = Gin (in_gin false b) }
further AfterEscape t b = record { parser = t.parser; action = Gin (in_gin true b) }

-- NUL, 128 to 255, DC1 and DC3 pass by a sequence and graphics input
abbrev pub read : Terminal → ℕ → Reading
read t b =
    if b == 0 || nat_le 128 b
    then record { parser = t.parser; action = Nothing }
    else (if b == 17
    then record { parser = t.parser; action = Control Unlock }
    else (if b == 19 then record { parser = t.parser; action = Control Lock } else further t.gin t b))

-- a stroke waits where the keyboard is locked, but never in graphics input
abbrev pub stroke_action : Input → Bool → Stroke → Action
stroke_action Off locked k = if locked then Key (Hold k) else Key (KeyAction.Send k)
stroke_action On locked k = Gin (Send k)
stroke_action AfterEscape locked k = Gin (Send k)

abbrev pub struck : Terminal → Stroke → Reading
struck t k = record { parser = t.parser; action = stroke_action t.gin t.locked k }
