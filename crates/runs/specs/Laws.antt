-- The three laws over whole runs of calls, any of them refused, on any lawful planes and lines.
use Rattle.std.specs.Prelude.{◌≡◌, ℕ, ◌<◌, Bool, true, false, ◌||◌, List, [], ◌∷◌, ◌++◌, map, Ok, Err, Result}
use Rattle.plane.specs.Picture.{Picture}
use Rattle.raster.specs.Region.{inside}
use Rattle.refusal.specs.declared.Refusal.{Refusal}
use Rattle.refusal.specs.Number.{number_of}
use Rattle.state.specs.declared.setup.Setup.{Setup}
use Rattle.state.specs.Event.{Event, byte, Seen, sight, next, after, replies}
use Rattle.state.specs.Terminal.{new, made}
use Rattle.runs.specs.declared.delivery.Delivery.{Delivery}
use Rattle.runs.specs.Calls.{Fed}
use Rattle.runs.specs.Run.{Run, Installed, sent}
use Rattle.runs.specs.Set.{Set, view}

-- what the rules give for some events, one by one, from a new terminal on a picture
abbrev pub from_new : Setup → Picture → Seen
from_new setup p = sight (new setup) p []

pub record ByRules (setup : Setup) (start : Picture) (es : List Event) (s : Set) (ds : List ℕ) : Type 0 where
  pub terminal : s.terminal ≡ (after (from_new setup start) es).terminal
  pub strokes : s.strokes ≡ (after (from_new setup start) es).strokes
  pub picture : s.picture ≡ (after (from_new setup start) es).picture
  pub bytes : sent ds s ≡ replies (from_new setup start) es

pub record Equal (s : Set) (ds : List ℕ) (t : Set) (gs : List ℕ) : Type 0 where
  pub terminal : s.terminal ≡ t.terminal
  pub strokes : s.strokes ≡ t.strokes
  pub picture : s.picture ≡ t.picture
  pub bytes : sent ds s ≡ sent gs t

-- equal faces, sizes and pixels, place by place
pub record SameStart (s t : Set) : Type 0 where
  pub face : s.face ≡ t.face
  pub wide : s.picture.wide ≡ t.picture.wide
  pub high : s.picture.high ≡ t.picture.high
  pub pixels : (x y : ℕ) → x < s.picture.wide → y < s.picture.high → s.picture.at x y ≡ t.picture.at x y

-- Equal events give equal terminals, and those that the rules give.
abbrev pub Agree : Type 0
Agree =
    (setup : Setup) (s s' t t' : Set) (es : List Event) (ds gs : List ℕ) →
    Installed setup s → Installed setup t → SameStart s t →
    Run s es ds s' → Run t es gs t' →
    Equal s' ds t' gs × ByRules setup s.picture es s' ds

-- In particular, how the bytes of a host are cut into deliveries makes no difference.
abbrev pub Cut : Type 0
Cut =
    (setup : Setup) (s s' t t' : Set) (bytes : List ℕ) (ds gs : List ℕ) →
    Installed setup s → Installed setup t → SameStart s t →
    Run s (map byte bytes) ds s' → Run t (map byte bytes) gs t' →
    Equal s' ds t' gs

-- a delivery that is not refused took its first byte, and no refusal of it has the number 8
abbrev pub TakesFirst : Result Delivery Refusal → Type 0
TakesFirst (Err r) = number_of r ≡ 8 → ⊥
TakesFirst (Ok d) = 0 < d.taken

-- DC1, CAN, ESC ENQ, ESC c
abbrev pub recall : List Event
recall = byte 17 ∷ byte 24 ∷ byte 27 ∷ byte 5 ∷ byte 27 ∷ byte 99 ∷ []

-- as a new terminal on a blank plane, except for the pointer
pub record LikeNew (setup : Setup) (s : Set) : Type 0 where
  pub pixels : (x y : ℕ) → x < s.picture.wide → y < s.picture.high → s.picture.at x y ≡ false
  pub strokes : s.strokes ≡ []
  pub terminal : s.terminal ≡ made setup false s.terminal.pointer

-- Whenever nothing waits in the line, a first byte is not stopped for want of room; and the six recall bytes restore a new
-- terminal.
abbrev pub Recall : Type 0
Recall =
    (setup : Setup) (s s' : Set) (es : List Event) (ds : List ℕ) → Installed setup s → Run s es ds s' →
    ((b : ℕ) (bs : List ℕ) (a : Result Delivery Refusal) (u : Set) → s'.line.waiting ≡ [] → Fed s' (b ∷ bs) a u → TakesFirst a)
    × ((before : List Event) → es ≡ before ++ recall → LikeNew setup s')

-- the places of the region that is selected
abbrev pub selected : Seen → ℕ → ℕ → Bool
selected v = inside v.terminal.window.area

-- the places that a stretch counts: those in the region selected at its start or after one of its events
abbrev pub counted : Seen → List Event → ℕ → ℕ → Bool
counted v [] x y = selected v x y
counted v (e ∷ es) x y = selected v x y || counted (next v e) es x y

-- alike but for pixels that a stretch does not count
pub record DifferOnly (counts : ℕ → ℕ → Bool) (s t : Set) : Type 0 where
  pub terminal : s.terminal ≡ t.terminal
  pub face : s.face ≡ t.face
  pub strokes : s.strokes ≡ t.strokes
  pub wide : s.picture.wide ≡ t.picture.wide
  pub high : s.picture.high ≡ t.picture.high
  pub pixels : (x y : ℕ) → counts x y ≡ true → s.picture.at x y ≡ t.picture.at x y

-- the same bytes are added to those sent: `ds` and `gs` are drained over the stretch
pub record AddEqual (s s' : Set) (ds : List ℕ) (t t' : Set) (gs : List ℕ) : Type 0 where
  pub added : List ℕ
  pub first : ds ++ s'.line.waiting ≡ s.line.waiting ++ added
  pub second : gs ++ t'.line.waiting ≡ t.line.waiting ++ added

-- Over any stretch of calls, pixels that lay in no region while it was selected are neither changed nor read.
abbrev pub Spared : Type 0
Spared =
    (setup : Setup) (s₀ s s' : Set) (es₀ es : List Event) (ds₀ ds : List ℕ) → Installed setup s₀ → Run s₀ es₀ ds₀ s → Run s es ds s' →
    ((x y : ℕ) → counted (view s) es x y ≡ false → s'.picture.at x y ≡ s.picture.at x y)
    × ((other : Setup) (t₀ t t' : Set) (fs₀ : List Event) (gs₀ gs : List ℕ) → Installed other t₀ → Run t₀ fs₀ gs₀ t → Run t es gs t' →
    DifferOnly (counted (view s) es) s t →
    AddEqual s s' ds t t' gs × DifferOnly (counted (view s) es) s' t')
