-- A ring when an element joins, when one is read and when the first leaves.
use Rattle.std.proofs.Common.{◌≡◌, ℕ, suc, ◌+◌, ◌-◌, ◌<◌, ◌≤◌, min, inl, inr, nat_lt, List, [], ◌∷◌, ◌++◌, length, get_or, take, drop, set, Some, sym, refl, ap, ◌∙◌, arith}
use lib.Seq.{take-append-add}
use Rattle.std.proofs.lemmas.List.{length-append, length-take-le, length-drop, length-set, take-append-le, take_more_set, drop-set-add, drop-set-lt, drop_all, drop_more, append-nil, append_assoc, take_all, get_or-take, get_or-drop, get_or_append_left, get_or-append_right}
use Rattle.std.proofs.lemmas.Bool.{cases_lt, ltb-true, ltb-false, cond_both}
use Rattle.queue.specs.Nth.{first, nth}
use Rattle.queue.specs.Ring.{ring, place}
use Rattle.queue.specs.Waiting.{waiting, places}
use Rattle.queue.specs.declared.Queue.{Queue}

-- what holds of the place before the turn and of the one after it
by_turn : (P : ℕ → Type 0) (size h i : ℕ) → (i < size - h → P (h + i)) → (size - h ≤ i → P (i - (size - h))) → P (place size h i)
by_turn P size h i near far =
    cond_both (nat_lt i (size - h)) (h + i) (i - (size - h)) P (λ e. near (ltb-true i (size - h) e)) (λ e. far (ltb-false i (size - h) e))

-- the front of two lists that reaches into the second
take_past : {X : Type 0} (xs ys : List X) (n : ℕ) → length xs ≤ n → take n (xs ++ ys) ≡ xs ++ take (n - length xs) ys
take_past xs ys n past =
    let e : n ≡ length xs + (n - length xs) = omega arith in
    ap (λ k. take k (xs ++ ys)) e ∙ take-append-add xs ys (n - length xs)

-- past the last place comes the first one
turns : {X : Type 0} (xs : List X) (h n : ℕ) → length xs ≤ h → n ≤ length xs → ring xs h n ≡ ring xs 0 n
turns xs h n past fits = ap (λ ys. take n (ys ++ xs)) (drop_all h xs past) ∙ sym (take-append-le n xs xs fits)

module _ {X : Type 0} (xs : List X) (h n : ℕ) where
  -- those up to the last place, and those from the first one on
  pub ring_parts : (k : ℕ) → k ≡ min n (length (drop h xs)) → take k (drop h xs) ++ take (n - k) xs ≡ ring xs h n
  ring_parts k e = elim (cases_lt n (length (drop h xs))) [
    | inl near ↦ let all : k ≡ n = omega arith in let none : n - k ≡ 0 = omega arith in
        rw none (append-nil _ ∙ ap (λ j. take j (drop h xs)) all ∙ sym (take-append-le n (drop h xs) xs (omega arith)))
    | inr far ↦ let past : k ≡ length (drop h xs) = omega arith in
        rw past (ap (λ ys. ys ++ take (n - length (drop h xs)) xs) (take_all _ (drop h xs) (omega arith)) ∙ sym (take_past (drop h xs) xs n far))
  ]

  pub length_ring : n ≤ length xs → length (ring xs h n) ≡ n
  length_ring fits = length-take-le n (drop h xs ++ xs) (omega (arith, length-append (drop h xs) xs))

  joins_near : (x : X) → n < length xs - h → ring (set xs (h + n) x) h (n + 1) ≡ ring xs h n ++ x ∷ []
  joins_near x near =
      let d = length-drop h xs in
      let s = length-set (drop h xs) n x in
      ap (λ ys. take (n + 1) (ys ++ set xs (h + n) x)) (drop-set-add h xs n x)
      ∙ take-append-le (n + 1) (set (drop h xs) n x) (set xs (h + n) x) (omega arith)
      ∙ take_more_set (drop h xs) n x (omega arith)
      ∙ ap (λ ys. ys ++ x ∷ []) (sym (take-append-le n (drop h xs) xs (omega arith)))

  joins_far : (x : X) → h ≤ length xs → n < length xs → length xs - h ≤ n → ring (set xs (n - (length xs - h)) x) h (n + 1) ≡ ring xs h n ++ x ∷ []
  joins_far x inside lt far =
      let d : length (drop h xs) ≡ length xs - h = length-drop h xs in
      let i : ℕ = n - (length xs - h) in
      let k : (n + 1) - length (drop h xs) ≡ i + 1 = omega arith in
      let m : n - length (drop h xs) ≡ i = omega arith in
      ap (λ ys. take (n + 1) (ys ++ set xs i x)) (drop-set-lt h xs i x (omega arith))
      ∙ take_past (drop h xs) (set xs i x) (n + 1) (omega arith)
      ∙ ap (λ j. drop h xs ++ take j (set xs i x)) k
      ∙ ap (λ ys. drop h xs ++ ys) (take_more_set xs i x (omega arith))
      ∙ sym (append_assoc (drop h xs) (take i xs) (x ∷ []))
      ∙ ap (λ ys. ys ++ x ∷ []) (ap (λ j. drop h xs ++ take j xs) (sym m) ∙ sym (take_past (drop h xs) xs n (omega arith)))

  -- an element written behind the n joins them
  pub ring_push : (x : X) → h ≤ length xs → n < length xs → ring (set xs (place (length xs) h n) x) h (n + 1) ≡ ring xs h n ++ x ∷ []
  ring_push x inside lt =
      by_turn (λ i. ring (set xs i x) h (n + 1) ≡ ring xs h n ++ x ∷ []) (length xs) h n (joins_near x) (joins_far x inside lt)

  -- so the next place is where the rest starts
  next : h < length xs → n ≤ length xs → ring xs (h + 1) n ≡ ring xs (place (length xs) h 1) n
  next lt fits =
      by_turn (λ k. ring xs (h + 1) n ≡ ring xs k n) (length xs) h 1 (λ near. refl)
      (λ far. let z : 1 - (length xs - h) ≡ 0 = omega arith in turns xs (h + 1) n (omega arith) fits ∙ ap (λ k. ring xs k n) (sym z))

-- the first element, with the rest from the next place on
pub ring_pop : {X : Type 0} (xs : List X) (h n : ℕ) (d : X) → h < length xs → 0 < n → n ≤ length xs → ring xs h n ≡ get_or xs h d ∷ ring xs (place (length xs) h 1) (n - 1)
ring_pop xs h n d lt some fits =
    let e : n ≡ suc (n - 1) = omega arith in
    ap (λ k. take k (drop h xs ++ xs)) e
    ∙ ap (λ ys. take (suc (n - 1)) (ys ++ xs)) (drop_more xs h d lt)
    ∙ ap (λ ys. get_or xs h d ∷ ys) (next xs h (n - 1) lt (omega arith))

module _ {X : Type 0} (xs : List X) (h n i : ℕ) (fits : n ≤ length xs) (lt : i < n) where
  read : (d : X) → nth (ring xs h n) i ≡ Some (get_or (drop h xs ++ xs) i d)
  read d =
      ap first (drop_more (ring xs h n) i d (omega (arith, length_ring xs h n fits)))
      ∙ ap Some (get_or-take n (drop h xs ++ xs) i d lt)

  -- the element behind i others
  pub ring_nth : (d : X) → nth (ring xs h n) i ≡ Some (get_or xs (place (length xs) h i) d)
  ring_nth d =
      let l = length-drop h xs in
      read d ∙ ap Some (by_turn (λ k. get_or (drop h xs ++ xs) i d ≡ get_or xs k d) (length xs) h i
      (λ near. get_or_append_left (drop h xs) xs d i (omega arith) ∙ get_or-drop h xs i d)
      (λ far. get_or-append_right (drop h xs) xs (length xs - h) i d l far))

pub length_waiting : {T : Type 0} (q : Queue T) → length (waiting q) ≡ q.waits
unfolding waiting
length_waiting q = length_ring q.items.now q.head q.waits q.fits

-- no more wait than there are places
pub waiting_fits : {T : Type 0} (q : Queue T) → length (waiting q) ≤ places q
unfolding places
waiting_fits q = omega (arith, length_waiting q, q.fits)
