-- What was read at work, by whether its reply found room.
use Rattle.std.specs.Prelude.{◌≡◌, ℕ, ◌<◌, length, Ok, Err, Result}
use Rattle.runs.specs.Calls.{Does}
use Rattle.runs.specs.Set.{Set}
use Rattle.state.specs.declared.action.Action.{Action}
use Rattle.state.specs.declared.action.Action.TheVariants.{Nothing, Control, Draw, Gin, Key, Aim}
use Rattle.state.specs.declared.action.KeyAction.{KeyAction}
use Rattle.state.specs.declared.action.KeyAction.TheVariants.{Hold}
use Rattle.state.specs.declared.reading.Reading.{Reading}
use Rattle.state.specs.Reply.{reply_of}
use Rattle.line.specs.declared.shortage.Shortage.{Shortage}

-- a stroke that is to wait has a place
abbrev pub Holds : Action → ℕ → ℕ → Type 0
Holds Nothing n places = Unit {0}
Holds (Control c) n places = Unit {0}
Holds (Draw d) n places = Unit {0}
Holds (Gin g) n places = Unit {0}
Holds (Key (Hold k)) n places = n < places
Holds (Key (KeyAction.Send k)) n places = Unit {0}
Holds (Aim a) n places = Unit {0}

-- the reply is longer than the room
pub record Short (s : Set) (r : Reading) (e : Shortage) : Type 0 where
  pub need : e.need ≡ length (reply_of s.terminal s.strokes r.action)
  pub room : e.room ≡ s.line.room
  pub less : e.room < e.need

abbrev pub Worked : Set → Reading → Result (Unit {0}) Shortage → Set → Type 0
Worked s r (Ok _) t = Does s r t
Worked s r (Err e) t = Short s r e × (t ≡ s)
