-- What calls make of a set is what the rules give for their events.
use Rattle.std.proofs.Common.{◌≡◌, ℕ, List, [], ◌∷◌, ◌++◌, map, take, Some, None, Ok, Err, Option, Result, sym, refl, ap, ◌∙◌, append_assoc, append-nil}
use lib.Seq.{take-length}
use Rattle.keyboard.specs.declared.stroke.Stroke.{Stroke}
use Rattle.keyboard.specs.Stroke.{numbered}
use Rattle.refusal.specs.declared.Refusal.{Refusal}
use Rattle.state.specs.Event.{Event, byte, stroke, point, Seen, next, reply, after, replies}
use Rattle.runs.specs.declared.delivery.Delivery.{Delivery}
use Rattle.line.specs.declared.shortage.Shortage.{Shortage}
use Rattle.runs.specs.Calls.{Acts, Works, none, more, Took, Fed, OfKey, Keyed, Pointed, place, Drained, Call, feed, key, aim, drain, fed_events, stroke_events, key_events, point_events}
use Rattle.runs.specs.Run.{Run, start, call}
use Rattle.runs.specs.Set.{Set, view}

-- some events and then others
pub after_append : (v : Seen) (es fs : List Event) → after v (es ++ fs) ≡ after (after v es) fs
after_append v [] fs = refl
after_append v (e ∷ es) fs = after_append (next v e) es fs

-- and their replies
replies_append : (v : Seen) (es fs : List Event) → replies v (es ++ fs) ≡ replies v es ++ replies (after v es) fs
replies_append v [] fs = refl
replies_append v (e ∷ es) fs =
    ap (λ r. reply v e ++ r) (replies_append (next v e) es fs) ∙ sym (append_assoc (reply v e) (replies (next v e) es) (replies (after (next v e) es) fs))

-- the set t is what the rules make of s by the events, with the bytes ds drained on the way
pub record Tracks (s : Set) (es : List Event) (ds : List ℕ) (t : Set) : Type 0 where
  pub sees : view t ≡ after (view s) es
  pub adds : ds ++ t.line.waiting ≡ s.line.waiting ++ replies (view s) es
  pub face : t.face ≡ s.face
  pub places : t.places ≡ s.places

-- nothing was done
pub tracks_none : (s t : Set) → t ≡ s → Tracks s [] [] t
tracks_none s t e = record {
  sees = ap view e;
  adds = ap (λ (u : Set). u.line.waiting) e ∙ sym (append-nil s.line.waiting);
  face = ap (λ (u : Set). u.face) e;
  places = ap (λ (u : Set). u.places) e;
}

-- one stretch and then another
pub tracks_then : (s t u : Set) (es fs : List Event) (ds gs : List ℕ) → Tracks s es ds t → Tracks t fs gs u → Tracks s (es ++ fs) (ds ++ gs) u
tracks_then s t u es fs ds gs p q = record {
  sees = q.sees ∙ ap (λ v. after v fs) p.sees ∙ sym (after_append (view s) es fs);
  adds =
      append_assoc ds gs u.line.waiting
      ∙ ap (λ r. ds ++ r) q.adds
      ∙ sym (append_assoc ds t.line.waiting (replies (view t) fs))
      ∙ ap (λ r. r ++ replies (view t) fs) p.adds
      ∙ append_assoc s.line.waiting (replies (view s) es) (replies (view t) fs)
      ∙ ap (λ v. s.line.waiting ++ (replies (view s) es ++ replies v fs)) p.sees
      ∙ ap (λ r. s.line.waiting ++ r) (sym (replies_append (view s) es fs));
  face = q.face ∙ p.face;
  places = q.places ∙ p.places;
}

-- one event
pub tracks_acts : (s t : Set) (e : Event) → Acts s e t → Tracks s (e ∷ []) [] t
tracks_acts s t e a = record {
  sees = a.sees;
  adds = a.line.joins ∙ ap (λ r. s.line.waiting ++ r) (sym (append-nil (reply (view s) e)));
  face = a.face;
  places = a.places;
}

-- bytes one by one
pub tracks_works : {s t : Set} {bs : List ℕ} → Works s bs t → Tracks s (map byte bs) [] t
tracks_works {s} none = tracks_none s s refl
tracks_works (more {s} {t} {u} {b} {bs} a w) = tracks_then s t u (byte b ∷ []) (map byte bs) [] [] (tracks_acts s t (byte b) a) (tracks_works w)

-- a delivery, by its answer
tracks_took : (s t : Set) (bs : List ℕ) (n : ℕ) (o : Option Shortage) → Took s bs n o t → Tracks s (map byte (take n bs)) [] t
tracks_took s t bs n None f =
    let all : take n bs ≡ bs = ap (λ m. take m bs) f.0 ∙ take-length bs in
    rw all (tracks_works f.1)
tracks_took s t bs n (Some e) f = tracks_works f.1

tracks_fed : (s t : Set) (bs : List ℕ) (a : Result Delivery Refusal) → Fed s bs a t → Tracks s (fed_events bs a) [] t
tracks_fed s t bs (Err r) f = tracks_none s t f.1
tracks_fed s t bs (Ok d) f = tracks_took s t bs d.taken d.shortage f.1

-- the stroke that has the number
tracks_stroke : (s t : Set) (o : Option Stroke) → OfKey o (λ k. Acts s (stroke k) t) → Tracks s (stroke_events o) [] t
tracks_stroke s t (Some k) f = tracks_acts s t (stroke k) f
tracks_stroke s t None f = absurd f

tracks_keyed : (s t : Set) (n : ℕ) (a : Result (Unit {0}) Refusal) → Keyed s n a t → Tracks s (key_events n a) [] t
tracks_keyed s t n (Err r) f = tracks_none s t f.1
tracks_keyed s t n (Ok _) f = tracks_stroke s t (numbered n) f.1

tracks_pointed : (s t : Set) (x y : ℕ) (a : Result (Unit {0}) Refusal) → Pointed s x y a t → Tracks s (point_events x y a) [] t
tracks_pointed s t x y (Err r) f = tracks_none s t f.1
tracks_pointed s t x y (Ok _) f = tracks_acts s t (point (place x y)) f.1

-- bytes that leave the line were sent before
tracks_drained : (s t : Set) (n : ℕ) (out : List ℕ) → Drained s n out t → Tracks s [] out t
tracks_drained s t n out d = record {
  sees = d.sees;
  adds = sym d.line.took.front ∙ sym (append-nil s.line.waiting);
  face = d.face;
  places = d.places;
}

-- any call
pub tracks_call : {s t : Set} {es : List Event} {ds : List ℕ} → Call s es ds t → Tracks s es ds t
tracks_call (feed {s} {t} bs a f) = tracks_fed s t bs a f
tracks_call (key {s} {t} n a f) = tracks_keyed s t n a f
tracks_call (aim {s} {t} x y a f) = tracks_pointed s t x y a f
tracks_call (drain {s} {t} n out d) = tracks_drained s t n out d

-- any run
pub tracks : {s t : Set} {es : List Event} {ds : List ℕ} → Run s es ds t → Tracks s es ds t
tracks {s} start = tracks_none s s refl
tracks (call {s} {t} {u} {es} {fs} {ds} {gs} c r) = tracks_then s t u es fs ds gs (tracks_call c) (tracks r)
