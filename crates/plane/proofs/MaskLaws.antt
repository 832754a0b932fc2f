-- Masks of some places of a byte.
use Rattle.std.proofs.Common.{◌≡◌, ℕ, ◌+◌, ◌-◌, ◌*◌, ◌/◌, ◌^◌, ◌<◌, ◌≤◌, Bool, true, false, cond, not, ◌&&◌, ◌||◌, ltb, leb, sym, refl, ap, ◌∙◌, inl, inr, arith}
use lib.Bits.{bit_xor}
use Rattle.std.proofs.lemmas.Bool.{cases_lt, cond-false, cond-true, le-ltb}
use Rattle.std.proofs.lemmas.Bool.Decides.{nat_tests}
use Rattle.plane.specs.Bits.{bit}
use Rattle.plane.specs.Run.{differ}
use Rattle.plane.proofs.BitLaws.{all_below, at_each, same_of}

abbrev lawful : ℕ → ℕ → ℕ → Bool
lawful lo hi i = ltb hi lo || not (differ (bit (bit_xor (255 / 2 ^ lo) (255 / 2 ^ hi)) (7 - i)) (leb lo i && ltb i hi))

all_lawful : all_below 9 (λ lo. all_below 9 (λ hi. all_below 8 (lawful lo hi))) ≡ true
all_lawful = refl

pub places_bits : (lo hi : ℕ) → lo ≤ hi → hi ≤ 8 → (i : ℕ) → i < 8 → bit (bit_xor (255 / 2 ^ lo) (255 / 2 ^ hi)) (7 - i) ≡ (leb lo i && ltb i hi)
places_bits lo hi le most i lt =
    let of_lo = at_each 9 (λ a. all_below 9 (λ b. all_below 8 (lawful a b))) all_lawful lo (omega arith) in
    let of_hi = at_each 9 (λ b. all_below 8 (lawful lo b)) of_lo hi (omega arith) in
    let law : lawful lo hi i ≡ true = at_each 8 (lawful lo hi) of_hi i lt in
    same_of _ _ (ap (λ t. t || not (differ (bit (bit_xor (255 / 2 ^ lo) (255 / 2 ^ hi)) (7 - i)) (leb lo i && ltb i hi))) (sym (le-ltb hi lo le)) ∙ law)

-- a bit that is taken at the places lo to hi of byte k, which are a run from x0 to x1
pub taken_in : (x0 x1 k lo hi i : ℕ) (r t a b old : Bool) → t ≡ (leb lo i && ltb i hi) → 8 * k + lo ≡ x0 → 8 * k + hi ≡ x1 → r ≡ cond t a old → (x0 ≤ 8 * k + i → 8 * k + i < x1 → a ≡ b) → r ≡ cond (leb x0 (8 * k + i) && ltb (8 * k + i) x1) b old
taken_in x0 x1 k lo hi i r t a b old et el eh er same =
    elim (cases_lt (8 * k + i) x0) [
      | inl before ↦ let off : t ≡ false = et ∙ grind (arith, nat_tests) in
          er ∙ cond-false t a old off ∙ sym (cond-false _ b old (grind (arith, nat_tests)))
      | inr from ↦ elim (cases_lt (8 * k + i) x1) [
        | inl to ↦ let on : t ≡ true = et ∙ grind (arith, nat_tests) in
            er ∙ cond-true t a old on ∙ same from to ∙ sym (cond-true _ b old (grind (arith, nat_tests)))
        | inr past ↦ let off : t ≡ false = et ∙ grind (arith, nat_tests) in
            er ∙ cond-false t a old off ∙ sym (cond-false _ b old (grind (arith, nat_tests)))
      ]
    ]
