-- The points of a line.
use Rattle.std.specs.Prelude.{ℕ, zero, suc, ◌+◌, ◌*◌, ◌/◌, max, Bool, true, if◌then◌else◌, ℤ, pos, ◌+ℤ◌, ◌-ℤ◌, int_le, unsigned_abs}
use Rattle.plane.specs.Picture.{Picture}
use Rattle.raster.specs.declared.operation.Operation.{Operation}
use Rattle.raster.specs.declared.region.Region.{Region}
use Rattle.raster.specs.declared.region.Point.{Point}
use Rattle.raster.specs.Join.{joined}

-- the coordinate of point i of n from a toward b; n is 0 only where a is b
abbrev pub toward : ℤ → ℤ → ℕ → ℕ → ℤ
toward a b n i =
    let offset : ℕ = (2 * i * unsigned_abs (a -ℤ b) + n) / (2 * n) in
    if int_le a b then a +ℤ pos offset else a -ℤ pos offset

-- the larger of the two distances
abbrev pub steps : Point → Point → ℕ
steps f t = max (unsigned_abs (f.x -ℤ t.x)) (unsigned_abs (f.y -ℤ t.y))

-- point i of the line from f to t
abbrev pub point : Point → Point → ℕ → Point
point f t i = record { x = toward f.x t.x (steps f t) i; y = toward f.y t.y (steps f t) i }

-- the points below i of a row of points, joined in their order, source 1
abbrev pub dotted : Region → Operation → (ℕ → Point) → ℕ → Picture → Picture
dotted r o at zero p = p
dotted r o at (suc i) p = joined r o true (at i) (dotted r o at i p)

-- the points 0 to n of the line from f to t, or without the last
abbrev pub lined : Region → Operation → Point → Point → Bool → Picture → Picture
lined r o f t last = dotted r o (point f t) (if last then steps f t + 1 else steps f t)
