-- No event changes what was set up or the plane's size; so where some event worked, the plane has the terminal's size.
use Rattle.std.proofs.Common.{◌≡◌, ℕ, ◌≤◌, Bool, true, false, cond, ◌&&◌, eqb, leb, ◌⊎◌, List, [], ◌∷◌, ◌++◌, length, Some, None, Ok, Err, Option, Result, sym, refl, ap, ◌∙◌, subst, ap₂, inl, inr, ⊎_elim, arith}
use Rattle.std.proofs.lemmas.Bool.{leb-true, eqb-true, and_parts}
use Rattle.refusal.specs.declared.Refusal.{Refusal}
use Rattle.refusal.specs.declared.Refusal.TheVariants.{PlaneSize, Capacity, Face, Strokes}
use Rattle.refusal.specs.Number.{number_of}
use Rattle.state.specs.declared.action.Action.{Action}
use Rattle.state.specs.declared.action.Action.TheVariants.{Nothing, Control, Draw, Gin, Key, Aim}
use Rattle.state.specs.declared.action.Control.TheVariants.{Lock, Unlock, Acknowledge, Report, Reset}
use Rattle.state.specs.declared.action.Drawing.TheVariants.{Move, Line}
use Rattle.state.specs.declared.action.GinAction.{GinAction}
use Rattle.state.specs.declared.action.GinAction.TheVariants.{Enter, Begin, Lose, Leave}
use Rattle.state.specs.declared.action.KeyAction.{KeyAction}
use Rattle.state.specs.declared.action.KeyAction.TheVariants.{Hold}
use Rattle.state.specs.declared.reading.Reading.{Reading}
use Rattle.state.specs.declared.terminal.Terminal.{Terminal}
use Rattle.state.specs.Event.{Event, Seen, reading, perform, next, after}
use Rattle.state.specs.Step.{state_after}
use Rattle.state.specs.Terminal.{with_parser}
use Rattle.runs.specs.declared.delivery.Delivery.{Delivery}
use Rattle.runs.specs.Calls.{Fed, Keyed, Pointed, first_of, fed_events, key_events, point_events, Call, feed, key, aim, drain}
use Rattle.runs.specs.Run.{Run, start, call}
use Rattle.runs.specs.Set.{Set, view, refusal}
use Rattle.state.specs.Size.{same_size}
use Rattle.runs.proofs.Choice.{whichever, some_reason}
use Rattle.runs.proofs.Confine.{confined}
use Rattle.runs.proofs.Tracks.{Tracks, tracks_call}

-- the setup is kept by each action
pub setup_after : (t : Terminal) (a : Action) → (state_after t a).setup ≡ t.setup
setup_after t Nothing = refl
setup_after t (Control Lock) = refl
setup_after t (Control Unlock) = refl
setup_after t (Control Acknowledge) = refl
setup_after t (Control Report) = refl
setup_after t (Control Reset) = refl
setup_after t (Draw (Move to)) = refl
setup_after t (Draw (Line to)) = refl
setup_after t (Gin Enter) = refl
setup_after t (Gin Begin) = refl
setup_after t (Gin Lose) = refl
setup_after t (Gin Leave) = refl
setup_after t (Gin GinAction.Report) = refl
setup_after t (Gin (GinAction.Send k)) = refl
setup_after t (Key (Hold k)) = refl
setup_after t (Key (KeyAction.Send k)) = refl
setup_after t (Aim p) = refl

-- whether the plane has the terminal's size is the same before and after
pub size_performed : (v : Seen) (r : Reading) → same_size (perform v r).terminal (perform v r).picture ≡ same_size v.terminal v.picture
size_performed v r =
    let t = with_parser r.parser v.terminal in
    let a = setup_after t r.action in
    let b = (confined t r.action).wide v.picture in
    let c = (confined t r.action).high v.picture in
    cc

-- and by any events
pub setup_over : (v : Seen) (es : List Event) → (after v es).terminal.setup ≡ v.terminal.setup
setup_over v [] = refl
setup_over v (e ∷ es) = setup_over (next v e) es ∙ setup_after (with_parser (reading v.terminal e).parser v.terminal) (reading v.terminal e).action

-- likewise over any events
pub size_over : (v : Seen) (es : List Event) → same_size (after v es).terminal (after v es).picture ≡ same_size v.terminal v.picture
size_over v [] = refl
size_over v (e ∷ es) = size_over (next v e) es ∙ size_performed v (reading v.terminal e)

-- a test that would refuse was passed
passed : (b : Bool) (o : Option Refusal) (r : Refusal) → cond b o (Some r) ≡ None → (b ≡ true) × (o ≡ None)
passed true o r e = (refl, e)
passed false o r e = some_reason r e

-- the plane has the terminal's size
abbrev pub Sized : Set → Type 0
Sized s = same_size s.terminal s.picture ≡ true

-- what it says of a set that feed does not refuse it
pub record Admitted (s : Set) : Type 0 where
  pub size : Sized s
  pub capacity : 64 ≤ s.line.capacity
  pub face : length s.face ≡ 1520
  pub places : s.places ≤ 16

pub admitted : (s : Set) → refusal s ≡ None → Admitted s
admitted s e =
    let one = passed (same_size s.terminal s.picture) _ PlaneSize e in
    let two = passed (leb 64 s.line.capacity) _ Capacity one.1 in
    let three = passed (eqb (length s.face) 1520) _ Face two.1 in
    let four = passed (leb 1 s.places && leb s.places 16) _ Strokes three.1 in
    record {
      size = one.0;
      capacity = leb-true 64 s.line.capacity two.0;
      face = eqb-true (length s.face) 1520 three.0;
      places = leb-true s.places 16 (and_parts (leb 1 s.places) (leb s.places 16) four.0).1;
    }

-- a delivery with events was not refused
sized_fed : (s t : Set) (bs : List ℕ) (a : Result Delivery Refusal) → Fed s bs a t → (fed_events bs a ≡ []) ⊎ Sized s
sized_fed s t bs (Err r) f = inl refl
sized_fed s t bs (Ok d) f = inr (admitted s f.0).size

-- the first of two reasons is none where there is none
no_first : (o p : Option Refusal) → first_of o p ≡ None → o ≡ None
no_first None p e = refl
no_first (Some r) p e = e

-- likewise a stroke
sized_keyed : (s t : Set) (n : ℕ) (a : Result (Unit {0}) Refusal) → Keyed s n a t → (key_events n a ≡ []) ⊎ Sized s
sized_keyed s t n (Err r) f = inl refl
sized_keyed s t n (Ok _) f = inr (admitted s (no_first (refusal s) _ f.0)).size

-- and a place
sized_pointed : (s t : Set) (x y : ℕ) (a : Result (Unit {0}) Refusal) → Pointed s x y a t → (point_events x y a ≡ []) ⊎ Sized s
sized_pointed s t x y (Err r) f = inl refl
sized_pointed s t x y (Ok _) f = inr (admitted s (no_first (refusal s) _ f.0)).size

-- any call: it has no event, or the sizes agree
sized_call : {s t : Set} {es : List Event} {ds : List ℕ} → Call s es ds t → (es ≡ []) ⊎ Sized s
sized_call (feed {s} {t} bs a f) = sized_fed s t bs a f
sized_call (key {s} {t} n a f) = sized_keyed s t n a f
sized_call (aim {s} {t} x y a f) = sized_pointed s t x y a f
sized_call (drain n out d) = inl refl

-- the size agrees after some calls just where it agreed before
pub size_tracked : (s t : Set) (es : List Event) (ds : List ℕ) → Tracks s es ds t → same_size t.terminal t.picture ≡ same_size s.terminal s.picture
size_tracked s t es ds k = ap (λ (v : Seen). same_size v.terminal v.picture) k.sees ∙ size_over (view s) es

-- a run with an event began where the sizes agree
pub sized_run : {s t : Set} {es : List Event} {ds : List ℕ} → Run s es ds t → (es ≡ []) ⊎ Sized s
sized_run start = inl refl
sized_run (call {s} {t} {u} {es} {fs} {ds} c r) =
    ⊎_elim (λ e. ⊎_elim (λ f. inl (ap₂ ◌++◌ e f)) (λ m. inr (sym (size_tracked s t es ds (tracks_call c)) ∙ m)) (sized_run r)) inr (sized_call c)

-- a reason whose number is not 8
abbrev NotEight : Option Refusal → Type 0
NotEight (Some r) = number_of r ≡ 8 → ⊥
NotEight None = Unit {0}

-- no set is refused for want of room
pub never_for_room : (s : Set) (r : Refusal) → refusal s ≡ Some r → number_of r ≡ 8 → ⊥
never_for_room s r e =
    subst NotEight e
    (whichever NotEight (same_size s.terminal s.picture)
    (whichever NotEight (leb 64 s.line.capacity)
    (whichever NotEight (eqb (length s.face) 1520)
    (whichever NotEight (leb 1 s.places && leb s.places 16) tt (λ n. omega arith)) (λ n. omega arith)) (λ n. omega arith)) (λ n. omega arith))
