-- One point joined to a picture.
use Rattle.std.specs.Prelude.{ℕ, Bool, if◌then◌else◌, ◌&&◌, ℤ}
use Rattle.plane.specs.Picture.{Picture, put}
use Rattle.raster.specs.declared.operation.Operation.{Operation}
use Rattle.raster.specs.declared.region.Region.{Region}
use Rattle.raster.specs.declared.region.Point.{Point}
use Rattle.raster.specs.Operation.{applied}
use Rattle.raster.specs.Region.{same, painted}

-- the source s joined to the place (u, v) of the plane
abbrev pub drawn : Operation → Bool → ℕ → ℕ → Picture → Picture
drawn o s u v p = put u v (applied o s (p.at u v)) p

-- the bit d at the coordinates (a, b), where s is joined to the point t alone
abbrev pub dot : Operation → Bool → Point → ℤ → ℤ → Bool → Bool
dot o s t a b d = if same a t.x && same b t.y then applied o s d else d

-- the source s joined to the point t of the region
abbrev pub joined : Region → Operation → Bool → Point → Picture → Picture
joined r o s t = painted r (dot o s t)
