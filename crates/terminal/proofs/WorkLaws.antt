-- What the calls need of what works.
use Rattle.std.proofs.Common.{◌≡◌, ℕ, ◌<◌, length, refl, ap, ◌∙◌}
use Rattle.line.specs.declared.shortage.Shortage.{Shortage}
use Rattle.runs.specs.Calls.{Exceeds}
use Rattle.runs.specs.Set.{Set}
use Rattle.state.specs.declared.action.Action.{Action}
use Rattle.state.specs.declared.action.Action.TheVariants.{Nothing, Control, Draw, Gin, Key, Aim}
use Rattle.state.specs.declared.action.KeyAction.{KeyAction}
use Rattle.state.specs.declared.action.KeyAction.TheVariants.{Hold}
use Rattle.state.specs.declared.reading.Reading.{Reading}
use Rattle.state.specs.Event.{byte}
use Rattle.state.specs.Reading.{read}
use Rattle.state.specs.Reply.{reply_of}
use Rattle.keyboard.specs.declared.stroke.Stroke.{Stroke}
use Rattle.terminal.specs.declared.session.Session.{Session}
use Rattle.terminal.specs.Session.{SameLoans}
use Rattle.terminal.specs.Work.{Holds, Short}

-- a byte whose reply found no room, where nothing changed
pub byte_exceeds : (s t : Set) (b : ℕ) (r : Reading) (e : Shortage) → r ≡ read s.terminal b → Short s r e → t ≡ s → Exceeds t (byte b) e
byte_exceeds s t b r e is short same =
    rw same (short.need ∙ ap (λ (x : Reading). length (reply_of s.terminal s.strokes x.action)) is, short.room, short.less)

-- what makes no stroke wait needs no place
pub needs_no_place : (a : Action) (n places : ℕ) → ((k : Stroke) → a ≡ Key (Hold k) → ⊥) → Holds a n places
needs_no_place Nothing n places no-hold = tt
needs_no_place (Control c) n places no-hold = tt
needs_no_place (Draw d) n places no-hold = tt
needs_no_place (Gin g) n places no-hold = tt
needs_no_place (Key (Hold k)) n places no-hold = absurd (no-hold k refl)
needs_no_place (Key (KeyAction.Send k)) n places no-hold = tt
needs_no_place (Aim a) n places no-hold = tt

-- where a place is free, any action has it
pub has_place : (a : Action) (n places : ℕ) → n < places → Holds a n places
has_place Nothing n places free = tt
has_place (Control c) n places free = tt
has_place (Draw d) n places free = tt
has_place (Gin g) n places free = tt
has_place (Key (Hold k)) n places free = free
has_place (Key (KeyAction.Send k)) n places free = tt
has_place (Aim a) n places free = tt

-- one call after another lends what the first did
pub still : {P L : Type 0} {s t u : Session P L} → SameLoans s t → SameLoans t u → SameLoans s u
still a b = record { terminal = b.terminal ∙ a.terminal; face = b.face ∙ a.face; plane = b.plane ∙ a.plane; line = b.line ∙ a.line; strokes = b.strokes ∙ a.strokes }
