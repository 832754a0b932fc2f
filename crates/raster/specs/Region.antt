-- Places of a plane, and coordinates counted from the lower left of a region in it.
use Rattle.std.specs.Prelude.{ℕ, ◌+◌, Bool, false, if◌then◌else◌, ◌&&◌, ℤ, pos, ◌-ℤ◌, Some, None, Option, ◌==◌, int_le, nat_le, nat_lt}
use Rattle.plane.specs.Picture.{Picture, has, with_bits}
use Rattle.raster.specs.declared.axis.Axis.{Axis}
use Rattle.raster.specs.declared.region.Region.{Region}

-- the axes of a region
abbrev pub columns_of : Region → Axis
columns_of r = record { low = r.left; size = r.width }

abbrev pub rows_of : Region → Axis
rows_of r = record { low = r.bottom; size = r.height }

-- whether u is one of the n places from a on
abbrev pub among : ℕ → ℕ → ℕ → Bool
among a n u = nat_le a u && nat_lt u (a + n)

-- whether the place (u, v) lies in the region
abbrev pub inside : Region → ℕ → ℕ → Bool
inside r u v = among r.left r.width u && among r.bottom r.height v

-- the coordinate of place u, counted from a
abbrev pub position : ℕ → ℕ → ℤ
position a u = pos u -ℤ pos a

abbrev pub same : ℤ → ℤ → Bool
same a b = int_le a b && int_le b a

-- whether u is the place, if there is one
abbrev pub met : Option ℕ → ℕ → Bool
met (Some t) u = u == t
met None u = false

-- each pixel of the region by itself: f is handed its coordinates and its bit
abbrev pub painted : Region → (ℤ → ℤ → Bool → Bool) → Picture → Picture
painted r f p = with_bits p (λ u v. if has p u v && inside r u v then f (position r.left u) (position r.bottom v) (p.at u v) else p.at u v)
