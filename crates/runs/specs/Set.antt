-- The set of terminal, face, plane, strokes and line that the calls work on, and when feed, key and point refuse it.
use Rattle.std.specs.Prelude.{ℕ, if◌then◌else◌, ◌&&◌, List, length, None, Option, ◌==◌, nat_le, refl}
use Rattle.keyboard.specs.declared.stroke.Stroke.{Stroke}
use Rattle.line.specs.Wire.{Wire}
use Rattle.plane.specs.Picture.{Picture}
use Rattle.refusal.specs.declared.Refusal.{Refusal}
use Rattle.refusal.specs.declared.Refusal.TheVariants.{PlaneSize, Capacity, Face, Strokes}
use Rattle.refusal.specs.Number.{because}
use Rattle.state.specs.declared.terminal.Terminal.{Terminal}
use Rattle.state.specs.Event.{Seen, sight}
use Rattle.state.specs.Size.{same_size}

pub record Set : Type 0 where
  pub terminal : Terminal
  pub face : List ℕ
  pub picture : Picture
  pub strokes : List Stroke
  pub places : ℕ
  pub line : Wire

abbrev pub set_of : Terminal → List ℕ → Picture → List Stroke → ℕ → Wire → Set
set_of t f p ks n l = record { terminal = t; face = f; picture = p; strokes = ks; places = n; line = l }

-- what the rules see of it
abbrev pub view : Set → Seen
view s = sight s.terminal s.picture s.strokes

-- the size first, then the line's capacity, the face's length, and the places for strokes
abbrev pub refusal : Set → Option Refusal
refusal s =
    if same_size s.terminal s.picture
    then (if nat_le 64 s.line.capacity
    then (if length s.face == 1520
    then (if nat_le 1 s.places && nat_le s.places 16 then None else because Strokes 7 refl)
    else because Face 6 refl)
    else because Capacity 5 refl)
    else because PlaneSize 4 refl
