-- How many places of a row change.
use Rattle.std.proofs.Common.{◌≡◌, ℕ, zero, suc, ◌+◌, ◌-◌, ◌<◌, ◌≤◌, Bool, true, false, cond, ◌⊎◌, refl, ap, inl, inr, add-zero, add-suc, arith}
use Rattle.plane.specs.Picture.{Picture}
use Rattle.plane.specs.Run.{differ, how_many, changes}

at_most_one : (b : Bool) → cond b 1 0 ≤ 1
at_most_one true = omega arith
at_most_one false = omega arith

at_most : (f : ℕ → Bool) (n : ℕ) → how_many f n ≤ n
at_most f zero = omega arith
at_most f (suc n) = omega (arith, at_most f n, at_most_one (f n))

none : (f : ℕ → Bool) (n : ℕ) → ((i : ℕ) → i < n → f i ≡ false) → how_many f n ≡ 0
none f zero off = refl
none f (suc n) off =
    omega (arith, none f n (λ i lt. off i (omega arith)), ap {B = ℕ} (λ t. cond t 1 0) (off n (omega arith)))

pub in_two_parts : (f : ℕ → Bool) (a n : ℕ) → how_many f (a + n) ≡ how_many f a + how_many (λ i. f (a + i)) n
in_two_parts f a zero = rw add-zero (omega arith)
in_two_parts f a (suc n) = rw add-suc (omega (arith, in_two_parts f a n))

-- where no other number passes, those from a on and before a + n are all
pub only_these : (f : ℕ → Bool) (w a n : ℕ) → a + n ≤ w → ((i : ℕ) → i < a → f i ≡ false) → ((i : ℕ) → a + n ≤ i → f i ≡ false) → how_many f w ≡ how_many (λ i. f (a + i)) n
only_these f w a n le before after =
    let split : w ≡ a + n + (w - (a + n)) = omega arith in
    omega (arith, ap (how_many f) split, in_two_parts f (a + n) (w - (a + n)), in_two_parts f a n, none f a before, none (λ i. f (a + n + i)) (w - (a + n)) (λ i lt. after (a + n + i) (omega arith)))

pub same_number : (f g : ℕ → Bool) (n : ℕ) → ((i : ℕ) → i < n → f i ≡ g i) → how_many f n ≡ how_many g n
same_number f g zero e = refl
same_number f g (suc n) e =
    omega (arith, same_number f g n (λ i lt. e i (omega arith)), ap {B = ℕ} (λ t. cond t 1 0) (e n (omega arith)))

sum_of : (f g h : ℕ → Bool) (n : ℕ) → ((i : ℕ) → cond (h i) 1 0 ≡ cond (f i) 1 0 + cond (g i) 1 0) → how_many h n ≡ how_many f n + how_many g n
sum_of f g h zero e = refl
sum_of f g h (suc n) e = omega (arith, sum_of f g h n e, e n)

pub same_bit : (a : Bool) → differ a a ≡ false
same_bit true = refl
same_bit false = refl

-- a bit that goes from a over b to c and stays in one of the two steps
two_steps : (a b c : Bool) → (b ≡ a) ⊎ (c ≡ b) → cond (differ a c) 1 0 ≡ cond (differ a b) 1 0 + cond (differ b c) 1 0
two_steps a b c (inl e) = rw (e, same_bit a) (omega arith)
two_steps a b c (inr e) = rw (e, same_bit b) (omega arith)

pub changes_sum : (y : ℕ) (p q r : Picture) → q.wide ≡ p.wide → ((x : ℕ) → (q.at x y ≡ p.at x y) ⊎ (r.at x y ≡ q.at x y)) → changes y p r ≡ changes y p q + changes y q r
changes_sum y p q r wide once =
    rw wide (sum_of (λ x. differ (p.at x y) (q.at x y)) (λ x. differ (q.at x y) (r.at x y)) (λ x. differ (p.at x y) (r.at x y)) p.wide (λ x. two_steps (p.at x y) (q.at x y) (r.at x y) (once x)))

pub no_change : (y : ℕ) (p : Picture) → changes y p p ≡ 0
no_change y p = none _ p.wide (λ x lt. same_bit (p.at x y))

pub changes_most : (y : ℕ) (p q : Picture) → changes y p q ≤ p.wide
changes_most y p q = at_most (λ x. differ (p.at x y) (q.at x y)) p.wide
