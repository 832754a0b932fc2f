-- What every call keeps: the line's law, and that no more strokes wait than there are places.
use Rattle.std.proofs.Common.{◌≡◌, ℕ, ◌<◌, ◌≤◌, Bool, true, false, cond, not, ◌&&◌, ◌||◌, eqb, leb, List, length, Some, None, Ok, Err, Option, Result, refl, ap, arith, length-append}
use Rattle.std.proofs.lemmas.Bool.{leb-false}
use Rattle.keyboard.specs.declared.stroke.Stroke.{Stroke}
use Rattle.keyboard.specs.Stroke.{numbered}
use Rattle.line.specs.Wire.{Lawful}
use Rattle.parser.specs.declared.machine.Dispatch.{Dispatch}
use Rattle.parser.specs.declared.machine.Dispatch.TheVariants.{Print, Execute, Intermediate, Address, Sequence}
use Rattle.parser.specs.Machine.{parsed}
use Rattle.parser.specs.Parameters.{is_colon}
use Rattle.refusal.specs.declared.Refusal.{Refusal}
use Rattle.refusal.specs.declared.Refusal.TheVariants.{Key as NoKey, QueueFull}
use Rattle.refusal.specs.Number.{because}
use Rattle.state.specs.declared.action.Action.{Action}
use Rattle.state.specs.declared.reading.Reading.{Reading}
use Rattle.state.specs.declared.setup.Setup.{Setup}
use Rattle.state.specs.declared.terminal.Gin.{Gin as Input}
use Rattle.state.specs.declared.terminal.Gin.TheVariants.{Off, On, AfterEscape}
use Rattle.state.specs.declared.terminal.Terminal.{Terminal}
use Rattle.state.specs.Action.{called_for}
use Rattle.state.specs.Event.{Event, byte, stroke, point, Seen, reading}
use Rattle.state.specs.Reading.{read, further, stroke_action}
use Rattle.state.specs.Step.{strokes_after}
use Rattle.runs.specs.declared.delivery.Delivery.{Delivery}
use Rattle.line.specs.declared.shortage.Shortage.{Shortage}
use Rattle.runs.specs.Calls.{Acts, Works, none, more, Took, Fed, in_gin, first_of, key_refusal, OfKey, Keyed, Pointed, place, Drained, Call, feed, key, aim, drain}
use Rattle.runs.specs.Run.{Run, start, call, Installed}
use Rattle.runs.specs.Set.{Set, refusal}
use Rattle.runs.proofs.Choice.{whichever, some_reason}

-- an action after which no more strokes wait than before
abbrev Keeps : List Stroke → Action → Type 0
Keeps ks a = length (strokes_after ks a) ≤ length ks

-- whatever the parser dispatches
dispatch_keeps : (ks : List Stroke) (d : Dispatch) → Keeps ks (called_for d)
dispatch_keeps ks Dispatch.Nothing = omega arith
dispatch_keeps ks (Print b) = omega arith
dispatch_keeps ks (Execute b) = whichever (Keeps ks) (eqb b 3) (omega arith) (omega arith)
dispatch_keeps ks (Dispatch.Escape b) = whichever (Keeps ks) (eqb b 5) (omega arith) (whichever (Keeps ks) (eqb b 26) (omega arith) (whichever (Keeps ks) (eqb b 99) (omega arith) (omega arith)))
dispatch_keeps ks (Intermediate f b) = omega arith
dispatch_keeps ks (Address r c) = omega arith
dispatch_keeps ks (Sequence i vs b) =
    whichever (Keeps ks) (is_colon i) (whichever (Keeps ks) (eqb b 109) (omega arith) (whichever (Keeps ks) (eqb b 100) (omega arith) (omega arith))) (omega arith)

-- in graphics input too
further_keeps : (ks : List Stroke) (g : Input) (t : Terminal) (b : ℕ) → Keeps ks (further g t b).action
further_keeps ks Off t b = dispatch_keeps ks (parsed t.emulation t.parser.state b).1
further_keeps ks On t b = omega arith
further_keeps ks AfterEscape t b = omega arith

-- after a byte no more strokes wait than before it
pub byte_adds_none : (t : Terminal) (b : ℕ) (ks : List Stroke) → length (strokes_after ks (read t b).action) ≤ length ks
byte_adds_none t b ks =
    let P : Reading → Type 0 = λ r. Keeps ks r.action in
    whichever P (eqb b 0 || leb 128 b) (omega arith) (whichever P (eqb b 17) (omega arith) (whichever P (eqb b 19) (omega arith) (further_keeps ks t.gin t b)))

-- a stroke that is not refused finds a place
place_left : (o : Option Refusal) (high : Bool) (g : Input) (locked full : Bool) (k : Stroke) (ks : List Stroke) (places : ℕ) →
    (full ≡ false → length ks < places) → length ks ≤ places →
    first_of o (cond high (because NoKey 9 refl) (cond ((locked && not (in_gin g)) && full) (because QueueFull 10 refl) None)) ≡ None →
    length (strokes_after ks (stroke_action g locked k)) ≤ places
place_left o high On locked full k ks places r h e = h
place_left o high AfterEscape locked full k ks places r h e = h
place_left o high Off false full k ks places r h e = h
place_left o high Off true false k ks places r h e = let a = r refl in simp length-append (omega arith)
place_left (Some b) high Off true true k ks places r h e = some_reason b e
place_left None true Off true true k ks places r h e = some_reason NoKey e
place_left None false Off true true k ks places r h e = some_reason QueueFull e

-- the line is lawful, and the strokes have places
pub record Sound (s : Set) : Type 0 where
  pub lawful : Lawful s.line
  pub fit : length s.strokes ≤ s.places

-- a call that changes nothing
sound_same : (s t : Set) → t ≡ s → Sound s → Sound t
sound_same s t e h = rw e h

-- one event after which no more strokes wait than there are places
sound_acts : (s t : Set) (e : Event) → Acts s e t → length (strokes_after s.strokes (reading s.terminal e).action) ≤ s.places → Sound t
sound_acts s t e a h = record { lawful = a.line.lawful; fit = rw (a.places, ap (λ (v : Seen). v.strokes) a.sees) h }

pub sound_byte : (s t : Set) (b : ℕ) → Acts s (byte b) t → Sound s → Sound t
sound_byte s t b a h = sound_acts s t (byte b) a (omega (arith, byte_adds_none s.terminal b s.strokes, h.fit))

pub sound_works : {s t : Set} {bs : List ℕ} → Works s bs t → Sound s → Sound t
sound_works none h = h
sound_works (more {s} {t} {u} {b} a w) h = sound_works w (sound_byte s t b a h)

sound_took : (s t : Set) (bs : List ℕ) (n : ℕ) (o : Option Shortage) → Took s bs n o t → Sound s → Sound t
sound_took s t bs n None f h = sound_works f.1 h
sound_took s t bs n (Some e) f h = sound_works f.1 h

pub sound_fed : (s t : Set) (bs : List ℕ) (a : Result Delivery Refusal) → Fed s bs a t → Sound s → Sound t
sound_fed s t bs (Err r) f h = sound_same s t f.1 h
sound_fed s t bs (Ok d) f h = sound_took s t bs d.taken d.shortage f.1 h

-- by the stroke that has the number
sound_stroke : (s t : Set) (n : ℕ) (o : Option Stroke) → key_refusal s n ≡ None → OfKey o (λ k. Acts s (stroke k) t) → Sound s → Sound t
sound_stroke s t n (Some k) e f h =
    sound_acts s t (stroke k) f
    (place_left (refusal s) _ s.terminal.gin s.terminal.locked (leb s.places (length s.strokes)) k s.strokes s.places
    (leb-false s.places (length s.strokes)) h.fit e)
sound_stroke s t n None e f h = absurd f

pub sound_keyed : (s t : Set) (n : ℕ) (a : Result (Unit {0}) Refusal) → Keyed s n a t → Sound s → Sound t
sound_keyed s t n (Err r) f h = sound_same s t f.1 h
sound_keyed s t n (Ok _) f h = sound_stroke s t n (numbered n) f.0 f.1 h

pub sound_pointed : (s t : Set) (x y : ℕ) (a : Result (Unit {0}) Refusal) → Pointed s x y a t → Sound s → Sound t
sound_pointed s t x y (Err r) f h = sound_same s t f.1 h
sound_pointed s t x y (Ok _) f h = sound_acts s t (point (place x y)) f.1 h.fit

pub sound_drained : (s t : Set) (n : ℕ) (out : List ℕ) → Drained s n out t → Sound s → Sound t
sound_drained s t n out d h = record { lawful = d.line.took.lawful; fit = rw (d.places, ap (λ (v : Seen). v.strokes) d.sees) h.fit }

-- any call
pub sound_call : {s t : Set} {es : List Event} {ds : List ℕ} → Call s es ds t → Sound s → Sound t
sound_call (feed {s} {t} bs a f) h = sound_fed s t bs a f h
sound_call (key {s} {t} n a f) h = sound_keyed s t n a f h
sound_call (aim {s} {t} x y a f) h = sound_pointed s t x y a f h
sound_call (drain {s} {t} n out d) h = sound_drained s t n out d h

-- any run
pub sound : {s t : Set} {es : List Event} {ds : List ℕ} → Run s es ds t → Sound s → Sound t
sound start h = h
sound (call c r) h = sound r (sound_call c h)

-- from the start
pub sound_installed : (setup : Setup) (s : Set) → Installed setup s → Sound s
sound_installed setup s i = record { lawful = i.lawful; fit = rw i.strokes (omega arith) }
