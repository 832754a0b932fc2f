-- Areas: regions that lie inside the plane and are at least 16 by 16.
use Rattle.std.specs.Prelude.{◌≡◌, ◌+◌, Bool, true, false, ◌&&◌, ℤ, pos, negsuc, Some, None, Option, nat_le, refl}
use Rattle.std.proofs.Math.Nat.{le_of_eq, zero-add}
use Rattle.std.proofs.lemmas.Bool.{and_parts, leb-true}
use Rattle.raster.specs.declared.rectangle.Rectangle.{Rectangle}
use Rattle.raster.specs.declared.region.Region.{Region}
use Rattle.regions.specs.declared.area.Area.{Area}
use Rattle.regions.specs.declared.size.Size.{Size}

-- the region that is the whole plane
abbrev pub plane_region : Size → Region
plane_region s = record { left = 0; bottom = 0; width = s.width; height = s.height }

abbrev pub whole : Size → Area
whole s = record { plane = s; region = plane_region s; wide = s.wide; high = s.high; across = le_of_eq (zero-add s.width); up = le_of_eq (zero-add s.height) }

-- at least 16 by 16, and inside the plane
abbrev pub large : Region → Bool
large r = nat_le 16 r.width && nat_le 16 r.height

abbrev pub within : Size → Region → Bool
within s r = nat_le (r.left + r.width) s.width && nat_le (r.bottom + r.height) s.height

-- by whether it is
abbrev pub laid_if : (s : Size) (r : Region) (t : Bool) → (large r && within s r) ≡ t → Option Area
laid_if s r true e =
    let both = and_parts (large r) (within s r) e in
    let size = and_parts (nat_le 16 r.width) (nat_le 16 r.height) both.0 in
    let ends = and_parts (nat_le (r.left + r.width) s.width) (nat_le (r.bottom + r.height) s.height) both.1 in
    Some (record {
      plane = s;
      region = r;
      wide = leb-true 16 r.width size.0;
      high = leb-true 16 r.height size.1;
      across = leb-true (r.left + r.width) s.width ends.0;
      up = leb-true (r.bottom + r.height) s.height ends.1;
    })
laid_if s r false e = None

abbrev pub laid : Size → Region → Option Area
laid s r = laid_if s r (large r && within s r) refl

-- the area with this lower left and size; what is negative fits nowhere
abbrev pub fitted_to : Size → ℤ → ℤ → ℤ → ℤ → Option Area
fitted_to s (pos x) (pos y) (pos w) (pos h) = laid s (record { left = x; bottom = y; width = w; height = h })
fitted_to s (negsuc x) y w h = None
fitted_to s (pos x) (negsuc y) w h = None
fitted_to s (pos x) (pos y) (negsuc w) h = None
fitted_to s (pos x) (pos y) (pos w) (negsuc h) = None

abbrev pub fitted : Size → Rectangle → Option Area
fitted s q = fitted_to s q.corner.x q.corner.y q.width q.height
