-- Source 1 joined to many pixels.
use Rattle.std.specs.Prelude.{◌≡◌, true, if◌then◌else◌, ◌&&◌}
use Rattle.plane.specs.Picture.{Picture, has, with_bits}
use Rattle.raster.specs.declared.operation.Operation.{Operation}
use Rattle.raster.specs.declared.operation.Operation.TheVariants.{Clear as clear_operation}
use Rattle.raster.specs.Operation.{applied}
use Rattle.raster.specs.declared.region.Region.{Region}
use Rattle.raster.specs.declared.rectangle.Rectangle.{Rectangle}
use Rattle.raster.specs.declared.axis.Axis.{Axis}
use Rattle.raster.specs.declared.axis.Places.{Places}
use Rattle.raster.specs.Clear.{cleared}
use Rattle.raster.specs.Rectangle.{holds}
use Rattle.raster.specs.Region.{among, painted}

-- all places of an axis
abbrev pub all_of : Axis → Places
all_of a = record { start = a.low; count = a.size }

-- the places of the columns c and the rows w
abbrev pub covered : Operation → Places → Places → Picture → Picture
covered o c w p = with_bits p (λ u v. if has p u v && (among c.start c.count u && among w.start w.count v) then applied o true (p.at u v) else p.at u v)

-- the pixels of the rectangle t that lie in the region
abbrev pub filled : Region → Operation → Rectangle → Picture → Picture
filled r o t = painted r (λ a b d. if holds t a b then applied o true d else d)

-- every pixel of the region
abbrev pub flooded : Region → Operation → Picture → Picture
flooded r o = painted r (λ _ _ d. applied o true d)

-- operation 0 clears
abbrev pub Clears : Type 0
Clears = (r : Region) (p : Picture) → flooded r clear_operation p ≡ cleared r p
