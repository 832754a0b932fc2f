-- A picture of which a region is cleared.
use Rattle.std.specs.Prelude.{false}
use Rattle.plane.specs.Picture.{Picture}
use Rattle.raster.specs.declared.region.Region.{Region}
use Rattle.raster.specs.Region.{painted}

-- every pixel of the region is 0
abbrev pub cleared : Region → Picture → Picture
cleared r = painted r (λ _ _ _. false)
