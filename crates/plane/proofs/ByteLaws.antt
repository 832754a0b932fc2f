-- The bits of bytes counted, and what a change of eight pixels in a row does to the picture.
use Rattle.std.proofs.Common.{◌≡◌, ℕ, zero, suc, ◌+◌, ◌*◌, ◌/◌, ◌%◌, ◌^◌, ◌<◌, ◌≤◌, Bool, true, false, cond, ◌&&◌, eqb, ltb, leb, List, length, get_or, set, sym, refl, ap, ◌∙◌, inl, inr, pow-suc, one-add, arith, get_or-set_other, get_or-set_same}
use lib.Count.{ones, ones_step}
use Rattle.std.proofs.lemmas.Nat.{shr-shr}
use Rattle.std.proofs.lemmas.Bool.{cases_eq, cases_lt, eq-eqb, lt-ltb, le-ltb, cond-false}
use Rattle.std.proofs.lemmas.Bool.Decides.{nat_tests}
use Rattle.plane.specs.Bits.{bit}
use Rattle.plane.specs.Layout.{Layout, Order, Blocks, shown}
use Rattle.plane.specs.Run.{on_run, mapped, differ, how_many, changes}
use Rattle.plane.proofs.BitLaws.{digits}
use Rattle.plane.proofs.CountLaws.{in_two_parts, only_these, same_number, same_bit}
use Rattle.plane.proofs.RunLaws.{agree}

-- `count_ones` counts bits
ones_zero : ones 0 ≡ 0
unfolding ones
ones_zero = refl

ones_bits : (d n : ℕ) → n < 2 ^ d → ones n ≡ how_many (bit n) d
ones_bits zero n h = let e : n ≡ 0 = omega arith in rw e ones_zero
ones_bits (suc d) n h =
    let twice : 2 ^ suc d ≡ 2 * 2 ^ d = omega (arith, pow-suc 2 d) in
    let half : n / 2 < 2 ^ d = omega arith in
    omega (arith, ones_step n, ones_bits d (n / 2) half, ap (how_many (bit n)) (sym (one-add d)), in_two_parts (bit n) 1 d, lowest n, same_number (bit (n / 2)) (λ i. bit n (1 + i)) d (λ i lt. ap (λ t. eqb (t % 2) 1) (shr-shr n 1 i)))
  where
    whole : (n : ℕ) → n / 2 ^ 0 ≡ n
    whole n = omega arith

    lowest : (n : ℕ) → cond (bit n 0) 1 0 ≡ n % 2
    lowest n = rw (whole n) (digits (λ c _. cond (eqb c 1) 1 0 ≡ c) refl refl refl refl (n % 2) 0 (omega arith) (omega arith))

-- the k-th eight of row y, which lies in number `at` of a memory that has room for s by r numbers of h rows each
pub record Eight (h : ℕ) (place : ℕ → ℕ) (s r : ℕ) (l : Layout) (m : List ℕ) (y k at : ℕ) : Type 0 where
  pub blocks : Blocks h place s r l
  pub order : Order place
  pub some : 0 < h
  pub room : s * r ≤ length m
  pub row : y < h * r
  pub column : k < s
  pub is_at : (x : ℕ) → x / 8 ≡ k → l.cell x y ≡ at

-- the number of an eight lies in the memory
pub cell_in_room : {h : ℕ} {place : ℕ → ℕ} {s r : ℕ} {l : Layout} (b : Blocks h place s r l) (m : List ℕ) (y k at : ℕ) → s * r ≤ length m → y < h * r → k < s → ((x : ℕ) → x / 8 ≡ k → l.cell x y ≡ at) → at < length m
cell_in_room b m y k at room row column is_at =
    let ek : 8 * k / 8 ≡ k = omega arith in
    omega (arith, is_at (8 * k) ek, b.cells, b.inside (8 * k) y (omega (arith, b.wide)) (omega (arith, b.high)))

-- a bit that is shown, by where it lies
pub bit_shown : {h : ℕ} {place : ℕ → ℕ} {s r : ℕ} {l : Layout} (b : Blocks h place s r l) (m : List ℕ) (x y : ℕ) → x < 8 * s → y < h * r → bit (get_or m (l.cell x y) 0) (8 * (y % h) + place (x % 8)) ≡ (shown l m).at x y
bit_shown {l = l} b m x y hx hy = rw (lt-ltb x l.wide (omega (arith, b.wide)), lt-ltb y l.high (omega (arith, b.high)), b.nth x y) refl

and_true : (t : Bool) → t ≡ (t && true)
and_true true = refl
and_true false = refl

module _ {h : ℕ} {place : ℕ → ℕ} {s r : ℕ} {l : Layout} {m : List ℕ} {y k at : ℕ} (e : Eight h place s r l m y k at) where
  pub in_room : at < length m
  in_room = cell_in_room e.blocks m y k at e.room e.row e.column e.is_at

  abbrev was : ℕ
  was = get_or m at 0

  abbrev low : ℕ
  low = 8 * (y % h)

  -- n is written there, with the bits d of the eight flipped
  module _ (n d : ℕ) (here : (j : ℕ) → j < 8 → bit n (low + j) ≡ differ (bit was (low + j)) (bit d j)) (others : (j : ℕ) → j < 8 * h → (j / 8 ≡ y % h → ⊥) → bit n j ≡ bit was j) where
    abbrev written : List ℕ
    written = set m at n

    -- a bit of the same number in the same row is one of the eight
    the_same : (u v : ℕ) → u < l.wide → v < l.high → l.cell u v ≡ at → l.nth u v / 8 ≡ y % h → (u / 8 ≡ k) × (v ≡ y)
    the_same u v hu hv ec same =
        let x = 8 * k + u % 8 in
        let ex : x / 8 ≡ k = omega arith in
        let em : x % 8 ≡ u % 8 = omega arith in
        let nx : l.nth x y ≡ low + place (u % 8) = e.blocks.nth x y ∙ ap (λ t. low + place t) em in
        let q = e.blocks.apart u v x y hu hv (omega (arith, e.blocks.wide)) (omega (arith, e.blocks.high)) (ec ∙ sym (e.is_at x ex)) (omega (arith, e.blocks.nth u v, nx, e.order.below (u % 8) (omega arith))) in
        (omega (arith, q.0), q.1)

    elsewhere : (u v : ℕ) → u < l.wide → v < l.high → ((u / 8 ≡ k) × (v ≡ y) → ⊥) → bit (get_or written (l.cell u v) 0) (l.nth u v) ≡ bit (get_or m (l.cell u v) 0) (l.nth u v)
    elsewhere u v hu hv ne =
        elim (cases_eq (l.cell u v) at) [
          | inl ec ↦ rw (ec, get_or-set_same m at n 0 in_room) (others (l.nth u v) (omega (arith, e.blocks.nth u v, e.order.below (u % 8) (omega arith))) (λ same. ne (the_same u v hu hv ec same)))
          | inr f ↦ rw (get_or-set_other m at (l.cell u v) n 0 f)
        ]

    there : (i : ℕ) → i < 8 → bit (get_or written at 0) (low + place i) ≡ differ (bit was (low + place i)) (bit d (place i))
    there i lt = rw (get_or-set_same m at n 0 in_room) (here (place i) (e.order.below i lt))

    -- the run lies in the eight, and there its places are done
    module _ (x0 x1 : ℕ) (g : ℕ → Bool → Bool) (from : 8 * k ≤ x0) (to : x1 ≤ 8 * k + 8) (is : (i : ℕ) → i < 8 → differ (bit was (low + place i)) (bit d (place i)) ≡ cond (leb x0 (8 * k + i) && ltb (8 * k + i) x1) (g (8 * k + i) (bit was (low + place i))) (bit was (low + place i))) where
      bit_there : (u v : ℕ) → u < l.wide → v < l.high → bit (get_or written (l.cell u v) 0) (l.nth u v) ≡ cond (on_run y x0 x1 u v) (g u (bit (get_or m (l.cell u v) 0) (l.nth u v))) (bit (get_or m (l.cell u v) 0) (l.nth u v))
      bit_there u v hu hv =
          elim (cases_eq v y) [
            | inl ev ↦ elim (cases_eq (u / 8) k) [
              | inl ek ↦ let e8 : 8 * k + u % 8 ≡ u = omega arith in
                  rw (ev, e.is_at u ek, e.blocks.nth u y, eq-eqb y y refl) (there (u % 8) (omega arith) ∙ (rw e8 at (is (u % 8) (omega arith))) ∙ ap (λ t. cond t (g u (bit was (low + place (u % 8)))) (bit was (low + place (u % 8)))) (and_true _))
              | inr nk ↦ elsewhere u v hu hv (λ q. nk q.0) ∙ sym (cond-false (on_run y x0 x1 u v) _ _ (grind (arith, nat_tests)))
            ]
            | inr nv ↦ elsewhere u v hu hv (λ q. nv q.1) ∙ sym (cond-false (on_run y x0 x1 u v) _ _ (grind (arith, nat_tests)))
          ]

      point : (u v : ℕ) → (shown l written).at u v ≡ (mapped y x0 x1 g (shown l m)).at u v
      point u v =
          elim (cases_lt u l.wide) [
            | inl hu ↦ elim (cases_lt v l.high) [
              | inl hv ↦ rw (lt-ltb u l.wide hu, lt-ltb v l.high hv) (bit_there u v hu hv)
              | inr hv ↦ rw (lt-ltb u l.wide hu, le-ltb v l.high hv)
            ]
            | inr hu ↦ rw (le-ltb u l.wide hu)
          ]

      pub eight_changed : shown l written ≡ mapped y x0 x1 g (shown l m)
      eight_changed = agree (shown l m) _ _ point

    -- as many places change as bits are flipped
    pub eight_changes : d < 256 → changes y (shown l m) (shown l written) ≡ ones d
    eight_changes hd =
        only_these (λ u. differ ((shown l m).at u y) ((shown l written).at u y)) l.wide (8 * k) 8 (omega (arith, e.blocks.wide)) (λ i lt. away i (omega arith)) (λ i ge. away i (omega arith)) ∙ same_number _ _ 8 flipped ∙ e.order.as_many (bit d) ∙ sym (ones_bits 8 d hd)
      where
        twice : (o f : Bool) → differ o (differ o f) ≡ f
        twice true true = refl
        twice true false = refl
        twice false f = refl

        away : (u : ℕ) → (u / 8 ≡ k → ⊥) → differ ((shown l m).at u y) ((shown l written).at u y) ≡ false
        away u ne =
            elim (cases_lt u l.wide) [ inl hu ↦ rw (elsewhere u y hu (omega (arith, e.blocks.high)) (λ q. ne q.0)) (same_bit ((shown l m).at u y)) | inr hu ↦ rw (le-ltb u l.wide hu) ]

        flipped : (i : ℕ) → i < 8 → differ ((shown l m).at (8 * k + i) y) ((shown l written).at (8 * k + i) y) ≡ bit d (place i)
        flipped i lt =
            let ek : (8 * k + i) / 8 ≡ k = omega arith in
            let em : (8 * k + i) % 8 ≡ i = omega arith in
            let hu : 8 * k + i < l.wide = omega (arith, e.blocks.wide) in
            let hv : y < l.high = omega (arith, e.blocks.high) in
            rw (lt-ltb (8 * k + i) l.wide hu, lt-ltb y l.high hv, e.is_at (8 * k + i) ek, e.blocks.nth (8 * k + i) y, em, there i lt) (twice (bit was (low + place i)) (bit d (place i)))
