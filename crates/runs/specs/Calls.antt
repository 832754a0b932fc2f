-- The calls as relations between what stood before and what stands after. A line's room is bounded, never given.
use Rattle.std.specs.Prelude.{◌≡◌, ℕ, ◌<◌, Bool, true, false, if◌then◌else◌, not, ◌&&◌, ◌||◌, ◌⊎◌, List, [], ◌∷◌, map, length, take, Some, None, Ok, Err, Option, Result, nat_le, nat_lt, slice_index, refl}
use Rattle.keyboard.specs.declared.stroke.Stroke.{Stroke}
use Rattle.keyboard.specs.Stroke.{numbered}
use Rattle.line.specs.declared.shortage.Shortage.{Shortage}
use Rattle.line.specs.Transfer.{Offered, Emptied}
use Rattle.refusal.specs.declared.Refusal.{Refusal}
use Rattle.refusal.specs.declared.Refusal.TheVariants.{Size, Memory, Terminator, PlaneSize, Capacity, Face, Strokes, Full, Key, QueueFull, Outside, Buffer}
use Rattle.refusal.specs.Number.{because}
use Rattle.state.specs.declared.reading.Reading.{Reading}
use Rattle.state.specs.declared.terminal.Gin.{Gin}
use Rattle.state.specs.declared.terminal.Gin.TheVariants.{Off, On, AfterEscape}
use Rattle.state.specs.declared.terminal.Place.{Place}
use Rattle.state.specs.declared.terminal.Terminal.{Terminal}
use Rattle.state.specs.Event.{Event, byte, stroke, point, reading, perform, reply}
use Rattle.state.specs.Reply.{reply_of}
use Rattle.runs.specs.declared.delivery.Delivery.{Delivery}
use Rattle.runs.specs.Set.{Set, view, refusal}

-- what was read worked, and its reply was one offer that the line accepted
pub record Does (s : Set) (r : Reading) (t : Set) : Type 0 where
  pub sees : view t ≡ perform (view s) r
  pub line : Offered s.line (reply_of s.terminal s.strokes r.action) t.line
  pub face : t.face ≡ s.face
  pub places : t.places ≡ s.places

-- one event worked
abbrev pub Acts : Set → Event → Set → Type 0
Acts s e t = Does s (reading s.terminal e) t

-- by whether the line had room for the reply
abbrev pub Tried : Set → Reading → Bool → Set → Type 0
Tried s r true t = Does s r t
Tried s r false t = (s.line.room < length (reply_of s.terminal s.strokes r.action)) × (t ≡ s)

-- some bytes worked one by one
pub data Works : Set → List ℕ → Set → Type 0 where
  none : {s : Set} → Works s [] s
  more : {s t u : Set} {b : ℕ} {bs : List ℕ} → Acts s (byte b) t → Works t bs u → Works s (b ∷ bs) u

-- a reply is longer than the room: what it needs, and the room that there is
abbrev pub Exceeds : Set → Event → Shortage → Type 0
Exceeds s e short = (short.need ≡ length (reply (view s) e)) × (short.room ≡ s.line.room) × (short.room < short.need)

-- n bytes were taken: all, or those before the first whose reply exceeds the room
abbrev pub Took : Set → List ℕ → ℕ → Option Shortage → Set → Type 0
Took s bs n None t = (n ≡ length bs) × Works s bs t
Took s bs n (Some e) t = (n < length bs) × Works s (take n bs) t × Exceeds t (byte (slice_index bs n)) e

-- a delivery: refused with nothing changed, or taken
abbrev pub Fed : Set → List ℕ → Result Delivery Refusal → Set → Type 0
Fed s bs (Err r) t = (refusal s ≡ Some r) × (t ≡ s)
Fed s bs (Ok d) t = (refusal s ≡ None) × Took s bs d.taken d.shortage t

abbrev pub in_gin : Gin → Bool
in_gin Off = false
in_gin On = true
in_gin AfterEscape = true

-- the first refusal that there is
abbrev pub first_of : Option Refusal → Option Refusal → Option Refusal
first_of (Some r) o = Some r
first_of None o = o

-- no key has a number above 149, in graphics input above 127; where a stroke would wait, every place may be taken
abbrev pub own_refusal : Terminal → ℕ → ℕ → ℕ → Option Refusal
own_refusal t n waits places =
    if nat_lt 149 n || (in_gin t.gin && nat_lt 127 n)
    then because Key 9 refl
    else (if (t.locked && not (in_gin t.gin)) && nat_le places waits then because QueueFull 10 refl else None)

abbrev pub key_refusal : Set → ℕ → Option Refusal
key_refusal s n = first_of (refusal s) (own_refusal s.terminal n (length s.strokes) s.places)

-- something of the stroke that has the number
abbrev pub OfKey : Option Stroke → (Stroke → Type 0) → Type 0
OfKey (Some k) P = P k
OfKey None P = ⊥

-- a stroke whose reply exceeds the room
abbrev pub KeyStopped : Set → ℕ → Refusal → Type 0
KeyStopped s n (Full need room) = OfKey (numbered n) (λ k. Exceeds s (stroke k) (record { need = need; room = room }))
KeyStopped s n Size = ⊥
KeyStopped s n Memory = ⊥
KeyStopped s n Terminator = ⊥
KeyStopped s n PlaneSize = ⊥
KeyStopped s n Capacity = ⊥
KeyStopped s n Face = ⊥
KeyStopped s n Strokes = ⊥
KeyStopped s n Key = ⊥
KeyStopped s n QueueFull = ⊥
KeyStopped s n Outside = ⊥
KeyStopped s n Buffer = ⊥

abbrev pub Keyed : Set → ℕ → Result (Unit {0}) Refusal → Set → Type 0
Keyed s n (Err r) t = ((key_refusal s n ≡ Some r) ⊎ ((key_refusal s n ≡ None) × KeyStopped s n r)) × (t ≡ s)
Keyed s n (Ok _) t = (key_refusal s n ≡ None) × OfKey (numbered n) (λ k. Acts s (stroke k) t)

-- a place outside the plane
abbrev pub point_refusal : Set → ℕ → ℕ → Option Refusal
point_refusal s x y = first_of (refusal s) (if nat_lt x s.picture.wide && nat_lt y s.picture.high then None else because Outside 11 refl)

abbrev pub place : ℕ → ℕ → Place
place x y = record { x = x; y = y }

abbrev pub Pointed : Set → ℕ → ℕ → Result (Unit {0}) Refusal → Set → Type 0
Pointed s x y (Err r) t = (point_refusal s x y ≡ Some r) × (t ≡ s)
Pointed s x y (Ok _) t = (point_refusal s x y ≡ None) × Acts s (point (place x y)) t

-- a buffer of n bytes was filled from the line; all else stays
pub record Drained (s : Set) (n : ℕ) (out : List ℕ) (t : Set) : Type 0 where
  pub line : Emptied s.line n out t.line
  pub sees : view t ≡ view s
  pub face : t.face ≡ s.face
  pub places : t.places ≡ s.places

-- the events of a call by its answer: bytes taken, a stroke or a place whose call got neither 8 nor a refusal
abbrev pub fed_events : List ℕ → Result Delivery Refusal → List Event
fed_events bs (Err r) = []
fed_events bs (Ok d) = map byte (take d.taken bs)

abbrev pub stroke_events : Option Stroke → List Event
stroke_events (Some k) = stroke k ∷ []
stroke_events None = []

abbrev pub key_events : ℕ → Result (Unit {0}) Refusal → List Event
key_events n (Err r) = []
key_events n (Ok _) = stroke_events (numbered n)

abbrev pub point_events : ℕ → ℕ → Result (Unit {0}) Refusal → List Event
point_events x y (Err r) = []
point_events x y (Ok _) = point (place x y) ∷ []

-- one call, refused or not, with its events and the bytes that it drained
pub data Call : Set → List Event → List ℕ → Set → Type 0 where
  feed : {s t : Set} (bs : List ℕ) (a : Result Delivery Refusal) → Fed s bs a t → Call s (fed_events bs a) [] t
  key : {s t : Set} (n : ℕ) (a : Result (Unit {0}) Refusal) → Keyed s n a t → Call s (key_events n a) [] t
  aim : {s t : Set} (x y : ℕ) (a : Result (Unit {0}) Refusal) → Pointed s x y a t → Call s (point_events x y a) [] t
  drain : {s t : Set} (n : ℕ) (out : List ℕ) → Drained s n out t → Call s [] out t
