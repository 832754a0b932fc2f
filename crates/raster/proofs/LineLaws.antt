-- The points of a line, one by one.
use Rattle.std.proofs.Common.{◌≡◌, ℕ, ◌+◌, ◌*◌, ◌/◌, ◌<◌, ◌≤◌, max, Bool, true, cond, ℤ, pos, ◌+ℤ◌, ◌-ℤ◌, nat_abs, ◌≤ℤ◌, ◌<ℤ◌, sym, ap, ◌∙◌, ap₂, mul_comm, add-mul, add-one, arith}
use lib.Signed.{le_z}
use Rattle.std.proofs.lemmas.Nat.{mul-le, div_below}
use Rattle.std.proofs.lemmas.Bool.{cond-true, cond-false}
use Rattle.std.proofs.lemmas.Int.{ints}
use Rattle.plane.specs.Picture.{Picture}
use Rattle.raster.specs.declared.operation.Operation.{Operation}
use Rattle.raster.specs.declared.region.Region.{Region}
use Rattle.raster.specs.declared.region.Point.{Point}
use Rattle.raster.specs.Join.{joined}
use Rattle.raster.specs.Line.{toward, steps, point, dotted, lined}

-- no point lies past the end
pub offset_le : (i d n : ℕ) → i ≤ n → 0 < n → (2 * i * d + n) / (2 * n) ≤ d
offset_le i d n h some =
    let l = mul-le (2 * i) d (2 * n) d (omega arith) (omega arith) in
    let b = div_below (2 * i * d + n) (2 * n) (d + 1) (omega arith) (omega (arith, add-mul d 1 (2 * n), mul_comm d (2 * n))) in
    omega arith

module _ (a b z : ℤ) (n i o : ℕ) (eo : o ≡ (2 * i * nat_abs (a -ℤ b) + n) / (2 * n)) where
  pub toward_up : a ≤ℤ b → z ≡ a +ℤ pos o → z ≡ toward a b n i
  toward_up le ez = ez ∙ ap (λ t. a +ℤ pos t) eo ∙ sym (cond-true (le_z a b) _ _ (grind (arith, ints)))

  pub toward_down : b <ℤ a → z ≡ a -ℤ pos o → z ≡ toward a b n i
  toward_down lt ez = ez ∙ ap (λ t. a -ℤ pos t) eo ∙ sym (cond-false (le_z a b) _ _ (grind (arith, ints)))

module _ (p : Picture) (r : Region) (o : Operation) where
  -- the loop gave q₁, and joining t gave q₂
  pub dot_more : (q₁ q₂ : Picture) (at : ℕ → Point) (i : ℕ) (t : Point) → t ≡ at i → q₁ ≡ dotted r o at i p → q₂ ≡ joined r o true t q₁ → q₂ ≡ dotted r o at (i + 1) p
  dot_more q₁ q₂ at i t et e1 e2 = e2 ∙ rw (et, e1) (ap (λ m. dotted r o at m p) (sym (add-one i)))

-- the point that the two coordinates make
pub point_made : (f t : Point) (n dx dy i : ℕ) (x y : ℤ) → n ≡ max dx dy → dx ≡ nat_abs (f.x -ℤ t.x) → dy ≡ nat_abs (f.y -ℤ t.y) → x ≡ toward f.x t.x n i → y ≡ toward f.y t.y n i → record { x = x; y = y } ≡ point f t i
point_made f t n dx dy i x y en ex ey tx ty =
    let e : n ≡ steps f t = en ∙ ap₂ max ex ey in
    ap₂ (λ a b. record { x = a; y = b }) (tx ∙ ap (λ m. toward f.x t.x m i) e) (ty ∙ ap (λ m. toward f.y t.y m i) e)

pub line_all : (p : Picture) (r : Region) (o : Operation) (f t : Point) (n dx dy i : ℕ) (last : Bool) → n ≡ max dx dy → dx ≡ nat_abs (f.x -ℤ t.x) → dy ≡ nat_abs (f.y -ℤ t.y) → i ≡ cond last (n + 1) n → dotted r o (point f t) i p ≡ lined r o f t last p
line_all p r o f t n dx dy i last en ex ey ei =
    let e : n ≡ steps f t = en ∙ ap₂ max ex ey in
    ap (λ m. dotted r o (point f t) m p) (ei ∙ ap (λ m. cond last (m + 1) m) e)
