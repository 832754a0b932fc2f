-- A run that grows by one place or by a part, with the number of bits it changes.
use Rattle.std.proofs.Common.{◌≡◌, ℕ, ◌+◌, ◌≤◌, min, max, Bool, true, false, cond, not, ◌&&◌, ◌⊎◌, Ok, Err, Result, sym, refl, ap, ◌∙◌, inl, inr, arith}
use mathlib.Core.Path.{fun_ext}
use mathlib.Core.Bool.{beq}
use Rattle.std.proofs.lemmas.Bool.{cases_lt, cases_eq, and_parts, ltb-true, true≢false, false≢true}
use Rattle.std.proofs.lemmas.Bool.Decides.{nat_tests}
use Rattle.refusal.specs.declared.Refusal.{Refusal}
use Rattle.refusal.specs.declared.Refusal.TheVariants.{Outside}
use Rattle.plane.specs.Picture.{Picture, has, with_bits, put, asked}
use Rattle.plane.specs.Run.{on_run, mapped, filled_run, joined_run, differ, changes}
use Rattle.plane.proofs.CountLaws.{changes_sum, no_change, only_these, same_bit}

pub agree : (p : Picture) (f g : ℕ → ℕ → Bool) → ((u v : ℕ) → f u v ≡ g u v) → with_bits p f ≡ with_bits p g
agree p f g e = ap (with_bits p) (fun_ext (λ u. fun_ext (λ v. e u v)))

-- what a run did: the picture q of p, and how many bits it changed
pub record Done (y x0 x1 : ℕ) (g : ℕ → Bool → Bool) (p q : Picture) (n : ℕ) : Type 0 where
  pub picture : q ≡ mapped y x0 x1 g p
  pub count : n ≡ changes y p q

module _ (y x0 : ℕ) (g : ℕ → Bool → Bool) (p : Picture) where
  in_parts : (x x1 : ℕ) → x0 ≤ x → x ≤ x1 → mapped y x x1 g (mapped y x0 x g p) ≡ mapped y x0 x1 g p
  in_parts x x1 le le' = agree p _ _ (λ u v. grind (arith, nat_tests))

  in_one_part : (x x1 u : ℕ) → x0 ≤ x → x ≤ x1 → ((mapped y x0 x g p).at u y ≡ p.at u y) ⊎ ((mapped y x x1 g (mapped y x0 x g p)).at u y ≡ (mapped y x0 x g p).at u y)
  in_one_part x x1 u le le' =
      elim (cases_lt u x) [ inl lt ↦ inr (grind (arith, nat_tests)) | inr ge ↦ inl (grind (arith, nat_tests)) ]

  -- first as far as x, then from there; where the second part ends is left to be shown
  pub longer : (x : ℕ) {e : ℕ} (x1 : ℕ) (q r : Picture) (m n : ℕ) → x0 ≤ x → x ≤ x1 → Done y x0 x g p q m → Done y x e g q r n → e ≡ x1 → Done y x0 x1 g p r (m + n)
  longer x x1 q r m n le le' d more end =
      let is : r ≡ mapped y x x1 g (mapped y x0 x g p) = more.picture ∙ ap (λ t. mapped y x t g q) end ∙ ap (mapped y x x1 g) d.picture in
      record {
        picture = is ∙ in_parts x x1 le le';
        count = rw (d.count, more.count, is, d.picture) (sym (changes_sum y p (mapped y x0 x g p) (mapped y x x1 g (mapped y x0 x g p)) refl (λ u. in_one_part x x1 u le le')));
      }

  pub one_longer : (x : ℕ) (q r : Picture) (m n : ℕ) → x0 ≤ x → Done y x0 x g p q m → Done y x (x + 1) g q r n → Done y x0 (x + 1) g p r (m + n)
  one_longer x q r m n le d more = longer x (x + 1) q r m n le (omega arith) d more refl

  -- no place of the run is in the picture
  pub empty : (x1 : ℕ) → (x1 ≤ x0) ⊎ ((p.high ≤ y) ⊎ (p.wide ≤ x0)) → Done y x0 x1 g p p 0
  empty x1 out = record { picture = agree p _ _ (λ u v. grind (arith, nat_tests)); count = sym (no_change y p) }

  pub not_begun : Done y x0 x0 g p p 0
  not_begun = empty x0 (inl (omega arith))

  -- past the width there are no places
  pub cut : (x x1 e : ℕ) → e ≡ min x1 p.wide → e ≤ x → x ≤ max x0 e → mapped y x0 x g p ≡ mapped y x0 x1 g p
  cut x x1 e is ge le = agree p _ _ (λ u v. grind (arith, nat_tests))

-- a further part of a run, where what is brought is told of the picture q that stood then, and does not hang on what was done
pub further : (y x0 : ℕ) (b : Picture → ℕ → Bool → Bool) (p q r : Picture) (x a e z m n : ℕ) → ((u : ℕ) (old : Bool) → b (mapped y x0 x (b p) p) u old ≡ b p u old) → Done y x0 x (b p) p q m → Done y a e (b q) q r n → a ≡ x → e ≡ z → x0 ≤ x → x ≤ z → Done y x0 z (b p) p r (m + n)
further y x0 b p q r x a e z m n steady d more start end le le' =
    let same : b q ≡ b p = ap b d.picture ∙ fun_ext (λ u. fun_ext (λ old. steady u old)) in
    longer y x0 (b p) p x z q r m n le le' d (record { picture = more.picture ∙ ap (λ t. mapped y t e (b q) q) start ∙ ap (λ f. mapped y x e f q) same; count = more.count }) end

-- a run of one place
module _ (q : Picture) (x y : ℕ) where
  pub one_place : (g : ℕ → Bool → Bool) → put x y (g x (q.at x y)) q ≡ mapped y x (x + 1) g q
  one_place g = agree q _ _ point
    where
      point : (u v : ℕ) → (put x y (g x (q.at x y)) q).at u v ≡ (mapped y x (x + 1) g q).at u v
      point u v =
          elim (cases_eq u x) [ inl e ↦ elim (cases_eq v y) [ inl f ↦ rw (e, f) (grind (arith, nat_tests)) | inr f ↦ grind (arith, nat_tests) ] | inr e ↦ grind (arith, nat_tests) ]

  put_same : (b : Bool) → q.at x y ≡ b → q ≡ put x y b q
  put_same b e = agree q _ _ (λ u v. grind (arith, nat_tests))

  put_outside : (b : Bool) → has q x y ≡ false → q ≡ put x y b q
  put_outside b e = agree q _ _ (λ u v. grind (arith, nat_tests))

  put_counts : (b : Bool) → has q x y ≡ true → differ (q.at x y) b ≡ true → changes y q (put x y b q) ≡ 1
  put_counts b ok e =
      let hx = ltb-true x q.wide (and_parts _ _ ok).0 in
      only_these _ q.wide x 1 (omega arith) (λ i lt. away i (omega arith)) (λ i ge. away i (omega arith)) ∙ here
    where
      away : (i : ℕ) → (i ≡ x → ⊥) → differ (q.at i y) ((put x y b q).at i y) ≡ false
      away i ne = let s : (put x y b q).at i y ≡ q.at i y = grind (arith, nat_tests) in rw s (same_bit (q.at i y))

      here : 0 + cond (differ (q.at (x + 0) y) ((put x y b q).at (x + 0) y)) 1 0 ≡ 1
      here =
          let z : x + 0 ≡ x = omega arith in
          let s : (put x y b q).at x y ≡ b = grind (arith, nat_tests) in
          rw (z, s, e)

-- what an answer tells
pub was_there : (t a b : Bool) → ◌≡◌ {A = Result Bool Refusal} (Ok a) (cond t (Ok b) (Err Outside)) → (t ≡ true) × (a ≡ b)
was_there true a b e = (refl, cc)
was_there false a b e = absurd (let z : ◌≡◌ {A = ℕ} 0 1 = cc in omega arith)

pub was_outside : (t b : Bool) (f : Refusal) → ◌≡◌ {A = Result Bool Refusal} (Err f) (cond t (Ok b) (Err Outside)) → t ≡ false
was_outside true b f e = absurd (let z : ◌≡◌ {A = ℕ} 0 1 = cc in omega arith)
was_outside false b f e = refl

other : (a b : Bool) → not (beq a b) ≡ true → differ b a ≡ true
other true true e = absurd (false≢true e)
other true false e = refl
other false true e = refl
other false false e = absurd (false≢true e)

equal : (a b : Bool) → not (beq a b) ≡ false → a ≡ b
equal true true e = refl
equal true false e = absurd (true≢false e)
equal false true e = absurd (true≢false e)
equal false false e = refl

-- a place that was asked: set, left as it was, or outside
module _ (q : Picture) (x y : ℕ) (g : ℕ → Bool → Bool) where
  module _ (old new : Bool) (is : Ok old ≡ asked q x y) (by : new ≡ g x old) where
    was : (has q x y ≡ true) × (old ≡ q.at x y)
    was = was_there (has q x y) old (q.at x y) is

    now_there : new ≡ g x (q.at x y)
    now_there = by ∙ ap (g x) was.1

    pub place_set : (r : Picture) → not (beq new old) ≡ true → r ≡ put x y new q → Done y x (x + 1) g q r 1
    place_set r ne e = record {
      picture = e ∙ ap (λ b. put x y b q) now_there ∙ one_place q x y g;
      count = rw e (sym (put_counts q x y new was.0 (ap (λ t. differ t new) (sym was.1) ∙ other new old ne)));
    }

    pub place_left : not (beq new old) ≡ false → Done y x (x + 1) g q q 0
    place_left same = record {
      picture = put_same q x y new (sym was.1 ∙ sym (equal new old same)) ∙ ap (λ b. put x y b q) now_there ∙ one_place q x y g;
      count = sym (no_change y q);
    }

  pub place_outside : (f : Refusal) → Err f ≡ asked q x y → Done y x (x + 1) g q q 0
  place_outside f e = record {
    picture = put_outside q x y (g x (q.at x y)) (was_outside (has q x y) (q.at x y) f e) ∙ one_place q x y g;
    count = sym (no_change y q);
  }

pub either : (c b : Bool) → cond c b b ≡ b
either true b = refl
either false b = refl

-- where 0 and 1 become the same bit, the run is filled
pub join_fills : (p : Picture) (y x0 x1 : ℕ) (b : Bool) → joined_run y x0 x1 b b p ≡ filled_run y x0 x1 b p
join_fills p y x0 x1 b = agree p _ _ (λ u v. ap (λ t. cond (has p u v && on_run y x0 x1 u v) t (p.at u v)) (either (p.at u v) b))
