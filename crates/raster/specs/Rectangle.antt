-- Rectangles by their coordinates.
use Rattle.std.specs.Prelude.{ℕ, min, Bool, ◌&&◌, ℤ, pos, negsuc, ◌+ℤ◌, int_le, int_lt}
use Rattle.raster.specs.declared.rectangle.Rectangle.{Rectangle}

-- whether z lies from a on and before e
abbrev pub before : ℤ → ℤ → ℤ → Bool
before a e z = int_le a z && int_lt z e

-- whether z is one of the n coordinates from a on; there is none where n is negative
abbrev pub spans : ℤ → ℤ → ℤ → Bool
spans a n z = before a (a +ℤ n) z

-- whether the point (a, b) lies in the rectangle
abbrev pub holds : Rectangle → ℤ → ℤ → Bool
holds t a b = spans t.corner.x t.width a && spans t.corner.y t.height b

-- z brought to 0 .. n
abbrev pub cut : ℕ → ℤ → ℕ
cut n (pos a) = min a n
cut n (negsuc _) = 0
