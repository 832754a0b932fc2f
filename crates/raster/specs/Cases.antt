-- Worked cases of the two rules.
use Rattle.std.specs.Prelude.{◌≡◌, ℕ, true, false, pos}
use Rattle.plane.specs.Picture.{Picture}
use Rattle.raster.specs.declared.operation.Operation.TheVariants.{Copy}
use Rattle.raster.specs.declared.region.Region.{Region}
use Rattle.raster.specs.declared.region.Point.{Point}
use Rattle.raster.specs.Operation.{combined}
use Rattle.raster.specs.Line.{lined}

abbrev pub blank : Picture
blank = record { wide = 16; high = 16; at = λ _ _. false }

abbrev pub whole : Region
whole = record { left = 0; bottom = 0; width = 16; height = 16 }

abbrev pub at : ℕ → ℕ → Point
at a b = record { x = pos a; y = pos b }

-- operation 4 on 1, 1 is 0, operation 13 on 0, 0 is 1;
-- a line rounds its halves toward its end, so that from (0, 0) to (2, 1) it has (1, 1), and on the way back (1, 0)
pub record Worked : Type 0 where
  pub and_inverted : combined 4 true true ≡ false
  pub or_inverted : combined 13 false false ≡ true
  pub there : (lined whole Copy (at 0 0) (at 2 1) true blank).at 1 1 ≡ true
  pub not_there : (lined whole Copy (at 0 0) (at 2 1) true blank).at 1 0 ≡ false
  pub back : (lined whole Copy (at 2 1) (at 0 0) true blank).at 1 0 ≡ true
  pub not_back : (lined whole Copy (at 2 1) (at 0 0) true blank).at 1 1 ≡ false
