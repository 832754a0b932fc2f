-- A terminal as the rules see it, and what events make of it, one by one.
use Rattle.std.specs.Prelude.{ℕ, List, [], ◌∷◌, ◌++◌}
use Rattle.keyboard.specs.declared.stroke.Stroke.{Stroke}
use Rattle.plane.specs.Picture.{Picture}
use Rattle.state.specs.declared.action.Action.TheVariants.{Aim}
use Rattle.state.specs.declared.reading.Reading.{Reading}
use Rattle.state.specs.declared.terminal.Place.{Place}
use Rattle.state.specs.declared.terminal.Terminal.{Terminal}
use Rattle.state.specs.Reading.{read, struck}
use Rattle.state.specs.Reply.{reply_of}
use Rattle.state.specs.Step.{state_after, picture_after, strokes_after}
use Rattle.state.specs.Terminal.{with_parser}

-- a host byte that is taken, a stroke, a place of the pointer
pub data Event : Type 0 where
  byte : ℕ → Event
  stroke : Stroke → Event
  point : Place → Event

-- the terminal, the picture on its plane, and the strokes that wait
pub record Seen : Type 0 where
  pub terminal : Terminal
  pub picture : Picture
  pub strokes : List Stroke

abbrev pub sight : Terminal → Picture → List Stroke → Seen
sight t p ks = record { terminal = t; picture = p; strokes = ks }

abbrev pub reading : Terminal → Event → Reading
reading t (byte b) = read t b
reading t (stroke k) = struck t k
reading t (point p) = record { parser = t.parser; action = Aim p }

-- what was read is done: the parser goes on, and the action works
abbrev pub perform : Seen → Reading → Seen
perform v r =
    let t : Terminal = with_parser r.parser v.terminal in
    sight (state_after t r.action) (picture_after t r.action v.picture) (strokes_after v.strokes r.action)

abbrev pub next : Seen → Event → Seen
next v e = perform v (reading v.terminal e)

abbrev pub reply : Seen → Event → List ℕ
reply v e = reply_of v.terminal v.strokes (reading v.terminal e).action

-- events one by one
abbrev pub after : Seen → List Event → Seen
after v [] = v
after v (e ∷ es) = after (next v e) es

abbrev pub replies : Seen → List Event → List ℕ
replies v [] = []
replies v (e ∷ es) = reply v e ++ replies (next v e) es
