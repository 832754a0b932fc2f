-- Any list of calls, each on what the earlier left, with all events and all drained bytes in their order.
use Rattle.std.specs.Prelude.{◌≡◌, ℕ, false, List, [], ◌++◌}
use Rattle.line.specs.Wire.{Lawful}
use Rattle.plane.specs.Picture.{Picture, has}
use Rattle.state.specs.declared.setup.Setup.{Setup}
use Rattle.state.specs.Event.{Event}
use Rattle.state.specs.Terminal.{new}
use Rattle.runs.specs.Calls.{Call}
use Rattle.runs.specs.Set.{Set}

pub data Run : Set → List Event → List ℕ → Set → Type 0 where
  start : {s : Set} → Run s [] [] s
  call : {s t u : Set} {es fs : List Event} {ds gs : List ℕ} → Call s es ds t → Run t fs gs u → Run s (es ++ fs) (ds ++ gs) u

-- no bit is set outside the size
abbrev pub Dark : Picture → Type 0
Dark p = (x y : ℕ) → has p x y ≡ false → p.at x y ≡ false

-- a new terminal on any lawful plane and line; line and strokes are empty
pub record Installed (setup : Setup) (s : Set) : Type 0 where
  pub terminal : s.terminal ≡ new setup
  pub strokes : s.strokes ≡ []
  pub nothing_waits : s.line.waiting ≡ []
  pub lawful : Lawful s.line
  pub dark : Dark s.picture

-- the bytes sent: those drained, then those waiting
abbrev pub sent : List ℕ → Set → List ℕ
sent ds s = ds ++ s.line.waiting
