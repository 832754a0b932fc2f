-- The proofs of the laws of traits.
use Rattle.std.proofs.Common.{◌≡◌, ℕ, ◌+◌, ◌-◌, ◌*◌, ◌/◌, ◌%◌, ◌<◌, ◌≤◌, Bool, if◌then◌else◌, List, length, sym, refl, ap, ◌∙◌, arith}
use Rattle.std.proofs.lemmas.Bool.Decides.{nat_tests}
use Rattle.std.proofs.lemmas.Nat.{mul-add-lt, div-mul-add, mod-mul-add}
use Rattle.plane.specs.Layout.{Order, Blocks, rows, tiles, held, nothing, made_of_bytes}
use Rattle.plane.specs.Memory.{fits}
use Rattle.plane.specs.Picture.{Picture}
use Rattle.plane.specs.Run.{mapped, from_row}

-- the leftmost pixel in bit 7, or in bit 0
pub downward : Order (λ i. 7 - i)
downward = record { below = λ i lt. omega arith; as_many = λ f. omega arith }

pub upward : Order (λ i. i)
upward = record { below = λ i lt. lt; as_many = λ f. refl }

row_and_column : (a b c d s : ℕ) → b < s → d < s → a * s + b ≡ c * s + d → (a ≡ c) × (b ≡ d)
row_and_column a b c d s hb hd e =
    (sym (div-mul-add a s b hb) ∙ ap (λ n. n / s) e ∙ div-mul-add c s d hd, sym (mod-mul-add a s b hb) ∙ ap (λ n. n % s) e ∙ mod-mul-add c s d hd)

pub blocks_of_rows : (s h : ℕ) → Blocks 1 (λ i. 7 - i) s h (rows s h)
blocks_of_rows s h = record {
  wide = refl;
  high = omega arith;
  cells = refl;
  nth = λ x y. omega arith;
  inside = λ x y hx hy. mul-add-lt (h - 1 - y) s (x / 8) h (omega arith) (omega arith);
  apart = λ u v x y hu hv hx hy e f.
      let r = row_and_column (h - 1 - v) (u / 8) (h - 1 - y) (x / 8) s (omega arith) (omega arith) e in
      omega arith;
}

pub blocks_of_tiles : (s r : ℕ) → Blocks 8 (λ i. i) s r (tiles s r)
blocks_of_tiles s r = record {
  wide = refl;
  high = refl;
  cells = refl;
  nth = λ x y. refl;
  inside = λ x y hx hy. mul-add-lt (y / 8) s (x / 8) r (omega arith) (omega arith);
  apart = λ u v x y hu hv hx hy e f.
      let q = row_and_column (v / 8) (u / 8) (y / 8) (x / 8) s (omega arith) (omega arith) e in
      omega arith;
}

pub byte_tall : (0 < 1) × (1 ≤ 8)
byte_tall = (omega arith, omega arith)

pub tile_tall : (0 < 8) × (8 ≤ 8)
tile_tall = (omega arith, omega arith)

-- a byte has one row of pixels
pub bytes_made : (w h : ℕ) (m : List ℕ) → made_of_bytes w h m ≡ (if fits w h 8 (length m) then held (rows (w / 8) (h / 1)) m else nothing)
bytes_made w h m = let e : h / 1 ≡ h = omega arith in rw e

-- a run leaves the other rows as they are
pub other_row : (p : Picture) (g : ℕ → Bool → Bool) (y x0 x1 u v : ℕ) → (v ≡ y → ⊥) → (mapped y x0 x1 g p).at u v ≡ p.at u v
other_row p g y x0 x1 u v ne = grind (arith, nat_tests)

-- what another row brings does not hang on what the run has done
pub steady_source : (p : Picture) (y x0 x sy sx : ℕ) → (sy ≡ y → ⊥) → (u : ℕ) (old : Bool) → from_row (mapped y x0 x (from_row p x0 sy sx) p) x0 sy sx u old ≡ from_row p x0 sy sx u old
steady_source p y x0 x sy sx ne u old = rw (other_row p (from_row p x0 sy sx) y x0 x (u - x0 + sx) sy ne)
