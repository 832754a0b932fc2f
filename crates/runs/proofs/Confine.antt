-- Whatever an action draws stays in the region selected before it or in the one selected after it, and reads no other pixel.
use Rattle.std.proofs.Common.{◌≡◌, ℕ, Bool, true, false, ◌||◌, List, [], ◌∷◌, ◌++◌, sym, refl, ap, ◌∙◌, ⊎_elim}
use Rattle.std.proofs.lemmas.Bool.{cases_Bool, both_ways, or_left, or_right, or_parts, or_cases}
use Rattle.keyboard.specs.declared.stroke.Stroke.{Stroke}
use Rattle.plane.specs.Picture.{Picture}
use Rattle.raster.specs.Clear.{cleared}
use Rattle.raster.specs.Confined.{Alike, Confined}
use Rattle.raster.specs.Line.{lined}
use Rattle.raster.specs.Region.{inside}
use Rattle.raster.proofs.Confinement.{confined_same, confined_painted, confined_lined}
use Rattle.state.specs.declared.action.Action.{Action}
use Rattle.state.specs.declared.action.Action.TheVariants.{Nothing, Control, Draw, Gin, Key, Aim}
use Rattle.state.specs.declared.action.Control.TheVariants.{Lock, Unlock, Acknowledge, Report, Reset}
use Rattle.state.specs.declared.action.Drawing.TheVariants.{Move, Line}
use Rattle.state.specs.declared.terminal.Terminal.{Terminal}
use Rattle.state.specs.Event.{Event, Seen, sight, reading, next, reply, after, replies}
use Rattle.state.specs.Step.{state_after, picture_after, strokes_after}
use Rattle.state.specs.Terminal.{whole, with_parser}
use Rattle.runs.specs.Laws.{selected, counted}

-- one set of places holds another
abbrev pub Holds : (ℕ → ℕ → Bool) → (ℕ → ℕ → Bool) → Type 0
Holds o r = (x y : ℕ) → r x y ≡ true → o x y ≡ true

-- what keeps to some places keeps to more
pub confined_more : (r o : ℕ → ℕ → Bool) (f : Picture → Picture) → Holds o r → Confined r f → Confined o f
confined_more r o f h c = record {
  wide = c.wide;
  high = c.high;
  keeps = λ p x y out. ⊎_elim (λ t. absurd (both_ways (o x y) out (h x y t))) (λ n. c.keeps p x y n) (cases_Bool (r x y));
  reads = λ p q a.
      let narrow : Alike r p q = record { wide = a.wide; high = a.high; at = λ x y i. a.at x y (h x y i) } in
      let made = c.reads p q narrow in
      record {
        wide = made.wide;
        high = made.high;
        at = λ x y i. ⊎_elim (λ t. made.at x y t) (λ n. c.keeps p x y n ∙ a.at x y i ∙ sym (c.keeps q x y n)) (cases_Bool (r x y));
      };
}

-- the region selected before an action, and the one after it
abbrev pub reach : Terminal → Action → ℕ → ℕ → Bool
reach t a x y = inside t.window.area x y || inside (state_after t a).window.area x y

-- every action
pub confined : (t : Terminal) (a : Action) → Confined (reach t a) (picture_after t a)
confined t Nothing = confined_same (reach t Nothing)
confined t (Control Lock) = confined_same (reach t (Control Lock))
confined t (Control Unlock) = confined_same (reach t (Control Unlock))
confined t (Control Acknowledge) = confined_same (reach t (Control Acknowledge))
confined t (Control Report) = confined_same (reach t (Control Report))
confined t (Control Reset) =
    confined_more (inside (whole t.setup)) (reach t (Control Reset)) (cleared (whole t.setup))
    (λ x y i. or_right (inside t.window.area x y) (inside (whole t.setup) x y) i)
    (confined_painted (whole t.setup) (λ _ _ _. false))
confined t (Draw (Move to)) = confined_same (reach t (Draw (Move to)))
confined t (Draw (Line to)) =
    let area = t.window.area in
    confined_more (inside area) (reach t (Draw (Line to))) (lined area t.window.pen.drawing t.window.position to t.modes.last_point)
    (λ x y i. or_left (inside area x y) (inside area x y) i)
    (confined_lined area t.window.pen.drawing t.window.position to t.modes.last_point)
confined t (Gin g) = confined_same (reach t (Gin g))
confined t (Key k) = confined_same (reach t (Key k))
confined t (Aim p) = confined_same (reach t (Aim p))

-- what is selected at the start of a stretch counts
counted_first : (v : Seen) (es : List Event) → Holds (counted v es) (selected v)
counted_first v [] x y i = i
counted_first v (e ∷ es) x y i = or_left (selected v x y) (counted (next v e) es x y) i

-- one event, in any places that hold those counted from it on
pub event_confined : (v : Seen) (e : Event) (es : List Event) (o : ℕ → ℕ → Bool) → Holds o (counted v (e ∷ es)) →
    Confined o (picture_after (with_parser (reading v.terminal e).parser v.terminal) (reading v.terminal e).action)
event_confined v e es o h =
    let t = with_parser (reading v.terminal e).parser v.terminal in
    let a = (reading v.terminal e).action in
    confined_more (reach t a) o (picture_after t a)
    (λ x y i. h x y
    (⊎_elim (λ b. or_left (selected v x y) (counted (next v e) es x y) b)
    (λ c. or_right (selected v x y) (counted (next v e) es x y) (counted_first (next v e) es x y c))
    (or_cases (selected v x y) (selected (next v e) x y) i)))
    (confined t a)

-- a pixel that no event counts stays
pub unchanged : (v : Seen) (es : List Event) (x y : ℕ) → counted v es x y ≡ false → (after v es).picture.at x y ≡ v.picture.at x y
unchanged v [] x y h = refl
unchanged v (e ∷ es) x y h =
    unchanged (next v e) es x y (or_parts (selected v x y) (counted (next v e) es x y) h).1
    ∙ (event_confined v e es (counted v (e ∷ es)) (λ _ _ i. i)).keeps v.picture x y h

-- pictures that are alike where events count stay alike there
pub stay_alike : (o : ℕ → ℕ → Bool) (t : Terminal) (ks : List Stroke) (es : List Event) (p q : Picture) → Holds o (counted (sight t p ks) es) → Alike o p q →
    Alike o (after (sight t p ks) es).picture (after (sight t q ks) es).picture
stay_alike o t ks [] p q h a = a
stay_alike o t ks (e ∷ es) p q h a =
    let on = with_parser (reading t e).parser t in
    let does = (reading t e).action in
    stay_alike o (state_after on does) (strokes_after ks does) es (picture_after on does p) (picture_after on does q)
    (λ x y i. h x y (or_right (inside t.window.area x y) (counted (next (sight t p ks) e) es x y) i))
    ((event_confined (sight t p ks) e es o h).reads p q a)

-- terminal, strokes and replies are the same on any two pictures
pub unseen_terminal : (t : Terminal) (ks : List Stroke) (es : List Event) (p q : Picture) → (after (sight t p ks) es).terminal ≡ (after (sight t q ks) es).terminal
unseen_terminal t ks [] p q = refl
unseen_terminal t ks (e ∷ es) p q =
    unseen_terminal (state_after (with_parser (reading t e).parser t) (reading t e).action) (strokes_after ks (reading t e).action) es _ _

pub unseen_strokes : (t : Terminal) (ks : List Stroke) (es : List Event) (p q : Picture) → (after (sight t p ks) es).strokes ≡ (after (sight t q ks) es).strokes
unseen_strokes t ks [] p q = refl
unseen_strokes t ks (e ∷ es) p q =
    unseen_strokes (state_after (with_parser (reading t e).parser t) (reading t e).action) (strokes_after ks (reading t e).action) es _ _

pub unseen_replies : (t : Terminal) (ks : List Stroke) (es : List Event) (p q : Picture) → replies (sight t p ks) es ≡ replies (sight t q ks) es
unseen_replies t ks [] p q = refl
unseen_replies t ks (e ∷ es) p q =
    ap (λ r. reply (sight t p ks) e ++ r)
    (unseen_replies (state_after (with_parser (reading t e).parser t) (reading t e).action) (strokes_after ks (reading t e).action) es _ _)
