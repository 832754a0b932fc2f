-- Counting along a row.
use Rattle.std.proofs.Common.{◌≡◌, ℕ, zero, suc, ◌+◌, ◌<◌, ◌≤◌, Bool, true, false, cond, eqb, ltb, List, [], ◌∷◌, ◌++◌, length, Some, None, Option, IfSome, sym, refl, ap, ap₂, ◌∙◌, inl, inr, add-zero, add-one, arith, length-append}
use Rattle.std.specs.List.{filter, list_any, range_with_len}
use Rattle.std.proofs.lemmas.List.Elements.{filter-append}
use Rattle.std.proofs.lemmas.Option.{none-some, same_Some}
use Rattle.std.proofs.lemmas.Bool.{cases_Bool, cases_eq, eq-eqb, ne_eqb, lt-ltb}
use Rattle.printout.specs.declared.ink.Ink.{Ink}
use Rattle.plane.specs.Run.{how_many as count}
use Rattle.printout.specs.Ink.{first, last, inked, one_more, Bounds, Bounded}

module _ (f : ℕ → Bool) where
  pub count_set : (n : ℕ) → f n ≡ true → count f (n + 1) ≡ count f n + 1
  count_set n e = ap (count f) (add-one n) ∙ ap (λ t. count f n + cond t 1 0) e

  pub count_unset : (n : ℕ) → f n ≡ false → count f (n + 1) ≡ count f n
  count_unset n e = ap (count f) (add-one n) ∙ ap (λ t. count f n + cond t 1 0) e ∙ add-zero (count f n)

  unit : (b : Bool) → cond b 1 0 ≤ 1
  unit true = omega arith
  unit false = omega arith

  pub count_le : (n : ℕ) → count f n ≤ n
  count_le zero = omega arith
  count_le (suc n) = omega (arith, count_le n, unit (f n))

  pub count_from : (n d : ℕ) → count f n ≤ count f (d + n)
  count_from n zero = let e : 0 + n ≡ n = omega arith in rw e (omega arith)
  count_from n (suc d) = let e : suc d + n ≡ suc (d + n) = omega arith in rw e (omega (arith, count_from n d))

  -- a place that is set counts
  pub counts : (n x : ℕ) → x < n → f x ≡ true → 0 < count f n
  counts zero x lt e = absurd (omega arith)
  counts (suc n) x lt e =
      elim (cases_eq x n) [
        | inl same ↦ let here : f n ≡ true = ap f (sym same) ∙ e in omega (arith, ap {B = ℕ} (λ t. cond t 1 0) here)
        | inr other ↦ omega (arith, counts n x (omega arith) e)
      ]

  -- what counts is set somewhere
  some : (n : ℕ) → 0 < count f n → (x : ℕ) × (x < n) × (f x ≡ true)
  some zero h = absurd (omega arith)
  some (suc n) h =
      elim (cases_Bool (f n)) [
        | inl e ↦ (n, omega arith, e)
        | inr e ↦ let q = some n (omega (arith, ap {B = ℕ} (λ t. cond t 1 0) e)) in (q.0, omega (arith, q.1), q.2)
      ]

  inked_set : (n : ℕ) → f n ≡ true → inked f (suc n) ≡ Some (one_more n (inked f n))
  inked_set n e =
      elim (cases_eq (count f n) 0) [
        | inl none ↦ rw (e, none) refl
        | inr any ↦ rw (e, ne_eqb (count f n) 0 any, ne_eqb (count f n + 1) 0 (λ z. omega arith)) refl
      ]

  inked_unset : (n : ℕ) → f n ≡ false → inked f (suc n) ≡ inked f n
  inked_unset n e = rw (e, add-zero (count f n)) refl

  -- the number of places in an ink is theirs in the row
  counted : (n : ℕ) (i : Ink) → Some i ≡ inked f n → i.count ≡ count f n
  counted n i e =
      elim (cases_eq (count f n) 0) [
        | inl none ↦ absurd (none-some i (sym (e ∙ rw none refl)))
        | inr any ↦ let here : Ink = record { first = first f n; last = last f n; count = count f n } in ap (λ (k : Ink). k.count) (same_Some i here (e ∙ rw (ne_eqb (count f n) 0 any) refl))
      ]

  -- fewer places than the row has
  pub room_for_more : (n : ℕ) (o : Option Ink) → o ≡ inked f n → n < 65535 → IfSome o (λ i. i.count < 65535)
  room_for_more n None e lt = tt
  room_for_more n (Some i) e lt = omega (arith, counted n i e, count_le n)

  pub ink_more : (n : ℕ) (b : Bool) (i : Option Ink) → b ≡ f n → b ≡ true → i ≡ inked f n → Some (one_more n i) ≡ inked f (n + 1)
  ink_more n b i e on is = ap (λ k. Some (one_more n k)) is ∙ sym (ap (inked f) (add-one n) ∙ inked_set n (sym e ∙ on))

  pub ink_same : (n : ℕ) (b : Bool) (i : Option Ink) → b ≡ f n → b ≡ false → i ≡ inked f n → i ≡ inked f (n + 1)
  ink_same n b i e off is = is ∙ sym (ap (inked f) (add-one n) ∙ inked_unset n (sym e ∙ off))

  -- one place more, set or not, keeps the bounds
  wider : (n x : ℕ) → Bounds f n x → x < n → Bounds f (suc n) x
  wider n x b lt =
      let more = b.counts in
      elim (cases_Bool (f n)) [
        | inl e ↦ let kept : eqb (count f n) 0 ≡ false = ne_eqb (count f n) 0 (λ z. omega arith) in
            record { counts = rw e (omega arith); after_first = rw (e, kept) b.after_first; before_last = rw e (omega arith); first_set = rw (e, kept) b.first_set; last_set = rw e e }
        | inr e ↦ record { counts = rw e (omega arith); after_first = rw e b.after_first; before_last = rw e b.before_last; first_set = rw e b.first_set; last_set = rw e b.last_set }
      ]

  -- the place that is set last
  newest : (n : ℕ) → ((x : ℕ) → x < n → f x ≡ true → Bounds f n x) → f n ≡ true → Bounds f (suc n) n
  newest n below e =
      elim (cases_eq (count f n) 0) [
        | inl none ↦ let z = eq-eqb (count f n) 0 none in
            record { counts = rw e (omega arith); after_first = rw (e, z) (omega arith); before_last = rw e (omega arith); first_set = rw (e, z) e; last_set = rw e e }
        | inr any ↦ let z = ne_eqb (count f n) 0 any in
            let q = some n (omega arith) in
            let b = below q.0 q.1 q.2 in
            record { counts = rw e (omega arith); after_first = rw (e, z) (omega (arith, b.after_first, q.1)); before_last = rw e (omega arith); first_set = rw (e, z) b.first_set; last_set = rw e e }
      ]

pub bounded : Bounded
bounded f zero x lt e = absurd (omega arith)
bounded f (suc n) x lt e =
    elim (cases_eq x n) [
      | inl same ↦ rw same (newest f n (bounded f n) (ap f (sym same) ∙ e))
      | inr other ↦ let below : x < n = omega arith in wider f n x (bounded f n x below e) below
    ]

-- the numbers below n, one more
below_more : (a n : ℕ) → range_with_len a (suc n) ≡ range_with_len a n ++ ((a + n) ∷ [])
below_more a zero = ap {A = ℕ} {B = List ℕ} (λ k. k ∷ []) (sym (add-zero a))
below_more a (suc n) =
    let e : a + 1 + n ≡ a + suc n = omega arith in
    ap {A = List ℕ} {B = List ℕ} (λ t. a ∷ t) (below_more (a + 1) n ∙ ap {A = ℕ} {B = List ℕ} (λ k. range_with_len (a + 1) n ++ (k ∷ [])) e)

-- those that pass f, and how many they are
module _ (f : ℕ → Bool) where
  one_passing : (x : ℕ) → length (filter f (x ∷ [])) ≡ cond (f x) 1 0
  one_passing x = elim (cases_Bool (f x)) [ inl e ↦ rw e refl | inr e ↦ rw e refl ]

  pub length_passing : (n : ℕ) → length (filter f (range_with_len 0 n)) ≡ count f n
  length_passing zero = refl
  length_passing (suc n) =
      let e : 0 + n ≡ n = omega arith in
      ap (λ t. length (filter f t)) (below_more 0 n)
      ∙ ap length (filter-append f (range_with_len 0 n) ((0 + n) ∷ []))
      ∙ length-append (filter f (range_with_len 0 n)) (filter f ((0 + n) ∷ []))
      ∙ ap₂ (λ a b. a + b) (length_passing n) (rw e (one_passing n))

  any_counted : (xs : List ℕ) → list_any f xs ≡ ltb 0 (length (filter f xs))
  any_counted [] = refl
  any_counted (x ∷ xs) = elim (cases_Bool (f x)) [ inl e ↦ rw e (sym (lt-ltb 0 _ (omega arith))) | inr e ↦ rw e (any_counted xs) ]

  pub any_below : (n : ℕ) → list_any f (range_with_len 0 n) ≡ ltb 0 (count f n)
  any_below n = any_counted (range_with_len 0 n) ∙ ap (ltb 0) (length_passing n)
