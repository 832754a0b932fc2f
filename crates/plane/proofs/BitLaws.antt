-- The bits of numbers that are masked, flipped and shifted.
use mir.Val.{bool_byte}
use Rattle.std.proofs.Common.{◌≡◌, ℕ, zero, suc, ◌+◌, ◌-◌, ◌*◌, ◌/◌, ◌%◌, ◌^◌, ◌<◌, ◌≤◌, Bool, true, false, cond, not, ◌&&◌, eqb, sym, refl, ap, ◌∙◌, inl, inr, arith, pow-add, pow_pos}
use native.Mathlib.Nat.{div-eq_of_lt, mul-mod_left, mul_assoc}
use lib.Bits.{bit_and, bit_xor, and_shr, xor_shr, and_mod, xor_mod}
use Rattle.std.proofs.lemmas.Bool.{cases_eq, cases_lt, and_parts, false≢true}
use Rattle.std.proofs.lemmas.Nat.{shl-shr, shr-shr}
use Rattle.plane.specs.Bits.{bit}
use Rattle.plane.specs.Run.{differ}

-- two numbers below 2
pub digits : (P : ℕ → ℕ → Type 0) → P 0 0 → P 0 1 → P 1 0 → P 1 1 → (a b : ℕ) → a < 2 → b < 2 → P a b
digits P p q r t zero zero ha hb = p
digits P p q r t zero (suc zero) ha hb = q
digits P p q r t (suc zero) zero ha hb = r
digits P p q r t (suc zero) (suc zero) ha hb = t
digits P p q r t zero (suc (suc b)) ha hb = absurd (omega arith)
digits P p q r t (suc zero) (suc (suc b)) ha hb = absurd (omega arith)
digits P p q r t (suc (suc a)) b ha hb = absurd (omega arith)

pub bit_of_and : (a b j : ℕ) → bit (bit_and a b) j ≡ (bit a j && bit b j)
bit_of_and a b j =
    ap (λ t. eqb t 1) (ap (λ t. t % 2) (and_shr a b j) ∙ and_mod (a / 2 ^ j) (b / 2 ^ j) 1)
    ∙ digits (λ c d. eqb (bit_and c d) 1 ≡ (eqb c 1 && eqb d 1)) refl refl refl refl (a / 2 ^ j % 2) (b / 2 ^ j % 2) (omega arith) (omega arith)

pub bit_of_xor : (a b j : ℕ) → bit (bit_xor a b) j ≡ differ (bit a j) (bit b j)
bit_of_xor a b j =
    ap (λ t. eqb t 1) (ap (λ t. t % 2) (xor_shr a b j) ∙ xor_mod (a / 2 ^ j) (b / 2 ^ j) 1)
    ∙ digits (λ c d. eqb (bit_xor c d) 1 ≡ differ (eqb c 1) (eqb d 1)) refl refl refl refl (a / 2 ^ j % 2) (b / 2 ^ j % 2) (omega arith) (omega arith)

-- a law of a few small numbers is computed for each
abbrev pub all_below : ℕ → (ℕ → Bool) → Bool
all_below zero f = true
all_below (suc n) f = f n && all_below n f

pub at_each : (n : ℕ) (f : ℕ → Bool) → all_below n f ≡ true → (i : ℕ) → i < n → f i ≡ true
at_each zero f e i lt = absurd (omega arith)
at_each (suc n) f e i lt =
    let q = and_parts (f n) (all_below n f) e in
    elim (cases_eq i n) [ inl s ↦ rw s q.0 | inr ne ↦ at_each n f q.1 i (omega arith) ]

pub same_of : (a b : Bool) → not (differ a b) ≡ true → a ≡ b
same_of true true e = refl
same_of true false e = absurd (false≢true e)
same_of false true e = absurd (false≢true e)
same_of false false e = refl

-- a flag at place p of a byte
abbrev flag_at : Bool → ℕ → ℕ → Bool
flag_at f p j = not (differ (bit (bool_byte f * 2 ^ p % 256) j) (f && eqb j p))

pub single_bit : (f : Bool) (p j : ℕ) → p < 8 → j < 8 → bit (bool_byte f * 2 ^ p % 256) j ≡ (f && eqb j p)
single_bit f p j lp lj =
    let of_p = at_each 8 (λ q. all_below 8 (flag_at f q)) (each f) p lp in
    same_of _ _ (at_each 8 (flag_at f p) of_p j lj)
  where
    each : (f : Bool) → all_below 8 (λ q. all_below 8 (flag_at f q)) ≡ true
    each true = refl
    each false = refl

pub full : (j : ℕ) → j < 8 → bit 255 j ≡ true
full j lt = at_each 8 (bit 255) refl j lt

-- a law of two bits
pub both_bits : (P : Bool → Bool → Type 0) → P true true → P true false → P false true → P false false → (a b : Bool) → P a b
both_bits P p q r s true true = p
both_bits P p q r s true false = q
both_bits P p q r s false true = r
both_bits P p q r s false false = s

pub opposite : (old j : ℕ) → j < 8 → bit (bit_xor old 255) j ≡ cond (bit old j) false true
opposite old j lt =
    bit_of_xor old 255 j ∙ ap (differ (bit old j)) (full j lt) ∙ both_bits (λ a _. differ a true ≡ cond a false true) refl refl refl refl (bit old j) true

-- eight bits of a number, from bit f on
pub bit_of_part : (n f j : ℕ) → j < 8 → bit (bit_and (n / 2 ^ f) 255) j ≡ bit n (f + j)
bit_of_part n f j lt =
    bit_of_and (n / 2 ^ f) 255 j ∙ ap (λ t. bit (n / 2 ^ f) j && t) (full j lt) ∙ both_bits (λ a _. (a && true) ≡ a) refl refl refl refl (bit (n / 2 ^ f) j) true ∙ ap (λ t. eqb (t % 2) 1) (shr-shr n f j)

pub bit_of_shifted : (d f j : ℕ) → bit (d * 2 ^ f) (f + j) ≡ bit d j
bit_of_shifted d f j = ap (λ t. eqb (t % 2) 1) (sym (shr-shr (d * 2 ^ f) f j) ∙ ap (λ t. t / 2 ^ j) (shl-shr d f))

-- eight bits that are shifted by f leave the others 0
pub bit_outside : (d f j : ℕ) → d < 256 → (f ≤ j → j < f + 8 → ⊥) → bit (d * 2 ^ f) j ≡ false
bit_outside d f j fits out =
    elim (cases_lt j f) [
      | inl lt ↦ let e : f ≡ f - j - 1 + 1 + j = omega arith in
          ap (λ t. bit (d * 2 ^ t) j) e ∙ ap (λ t. eqb t 1) (below (f - j - 1))
      | inr ge ↦ elim (cases_lt j (f + 8)) [
        | inl inside ↦ absurd (out ge inside)
        | inr past ↦ let e : j ≡ f + (8 + (j - f - 8)) = omega arith in
            ap (bit (d * 2 ^ f)) e ∙ bit_of_shifted d f (8 + (j - f - 8)) ∙ ap (λ t. eqb (t % 2) 1) (above (j - f - 8))
      ]
    ]
  where
    below : (a : ℕ) → d * 2 ^ (a + 1 + j) / 2 ^ j % 2 ≡ 0
    below a =
        let e : d * 2 ^ (a + 1 + j) ≡ d * 2 ^ a * 2 * 2 ^ j = rw (pow-add 2 (a + 1) j, pow-add 2 a 1) (simp mul_assoc) in
        rw (e, shl-shr (d * 2 ^ a * 2) j) (mul-mod_left (d * 2 ^ a) 2)

    above : (a : ℕ) → d / 2 ^ (8 + a) ≡ 0
    above a =
        let e : d / 2 ^ 8 ≡ 0 = omega arith in
        sym (shr-shr d 8 a) ∙ ap (λ t. t / 2 ^ a) e ∙ div-eq_of_lt (pow_pos a)

pub stays : (a b : Bool) → b ≡ false → differ a b ≡ a
stays true b e = rw e
stays false b e = e

-- what is flipped where a byte is to become another, at the ones of a mask
pub flips_bits : (old new mask j : ℕ) → bit (bit_and (bit_xor old new) mask) j ≡ (differ (bit old j) (bit new j) && bit mask j)
flips_bits old new mask j =
    bit_of_and (bit_xor old new) mask j ∙ ap (λ t. t && bit mask j) (bit_of_xor old new j)

pub flipped_at : (m a s : Bool) → differ a (differ a s && m) ≡ cond m s a
flipped_at true = both_bits (λ a s. differ a (differ a s && true) ≡ s) refl refl refl refl
flipped_at false = both_bits (λ a s. differ a (differ a s && false) ≡ a) refl refl refl refl
