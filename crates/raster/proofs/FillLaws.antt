-- Rows joined with source 1, one row more, and what is filled is confined to the region.
use Rattle.std.proofs.Common.{◌≡◌, ℕ, ◌+◌, ◌≤◌, Bool, true, false, cond, ◌&&◌, ltb, leb, refl, ap, arith}
use Rattle.std.proofs.lemmas.Bool.Decides.{nat_tests}
use Rattle.plane.specs.Picture.{Picture, has, with_bits}
use Rattle.plane.specs.Run.{mapped}
use Rattle.plane.proofs.RunLaws.{agree}
use Rattle.raster.specs.declared.operation.Operation.{Operation}
use Rattle.raster.specs.declared.operation.Operation.TheVariants.{Clear}
use Rattle.raster.specs.declared.rectangle.Rectangle.{Rectangle}
use Rattle.raster.specs.declared.region.Region.{Region}
use Rattle.raster.specs.Operation.{applied}
use Rattle.raster.specs.Confined.{Confined}
use Rattle.raster.specs.Fill.{filled, flooded, Clears}
use Rattle.raster.specs.Rectangle.{holds}
use Rattle.raster.specs.Region.{among, inside}
use Rattle.raster.proofs.Confinement.{confined_painted}
use Rattle.raster.proofs.PaintLaws.{painted_same}

by_bit : (f : Bool → Bool) (d : Bool) → cond d (f true) (f false) ≡ f d
by_bit f true = refl
by_bit f false = refl

-- f of each bit in the n columns from a on, in the rows from b on and before y
abbrev pub rows_to : (Bool → Bool) → ℕ → ℕ → ℕ → ℕ → Picture → Picture
rows_to f a n b y p = with_bits p (λ u v. cond (has p u v && (among a n u && (leb b v && ltb v y))) (f (p.at u v)) (p.at u v))

module _ (f : Bool → Bool) (a n b : ℕ) (p : Picture) where
  pub no_row : p ≡ rows_to f a n b b p
  no_row = agree p _ _ (λ u v. grind (arith, nat_tests))

  pub row_more : (y : ℕ) → b ≤ y → mapped y a (a + n) (λ _. f) (rows_to f a n b y p) ≡ rows_to f a n b (y + 1) p
  row_more y le = agree p _ _ (λ u v. grind (arith, nat_tests))

  -- a function of one bit is what becomes of 0 and of 1
  pub rows_all : (zero one : Bool) (y m : ℕ) → zero ≡ f false → one ≡ f true → y ≡ b + m → rows_to (λ d. cond d one zero) a n b y p ≡ rows_to f a n b (b + m) p
  rows_all zero one y m ez eo ey = rw (ez, eo, ey) (agree p _ _ (λ u v. ap (λ t. cond (has p u v && (among a n u && among b m v)) t (p.at u v)) (by_bit f (p.at u v))))

zeroed : (d : Bool) → applied Clear true d ≡ false
zeroed true = refl
zeroed false = refl

-- operation 0 makes every bit 0
pub clears : Clears
clears r p = painted_same p r (λ _ _ d. applied Clear true d) (λ _ _ _. false) (λ _ _ d. zeroed d)

pub confined_filled : (r : Region) (o : Operation) (t : Rectangle) → Confined (inside r) (filled r o t)
confined_filled r o t = confined_painted r (λ a b d. cond (holds t a b) (applied o true d) d)

pub confined_flooded : (r : Region) (o : Operation) → Confined (inside r) (flooded r o)
confined_flooded r o = confined_painted r (λ _ _ d. applied o true d)
