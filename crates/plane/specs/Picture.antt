-- What a plane means: a picture, with (0, 0) lower left.
use Rattle.std.specs.Prelude.{ℕ, ◌-◌, Bool, if◌then◌else◌, ◌&&◌, Ok, Result, ◌==◌, nat_lt, refl}
use Rattle.refusal.specs.declared.Refusal.{Refusal}
use Rattle.refusal.specs.declared.Refusal.TheVariants.{Outside}
use Rattle.refusal.specs.Number.{refused}

-- a size, and a bit for each place
pub record Picture : Type 0 where
  pub wide : ℕ
  pub high : ℕ
  pub at : ℕ → ℕ → Bool

-- whether (x, y) lies in the picture
abbrev pub has : Picture → ℕ → ℕ → Bool
has p x y = nat_lt x p.wide && nat_lt y p.high

-- a picture of the same size with other bits
abbrev pub with_bits : Picture → (ℕ → ℕ → Bool) → Picture
with_bits p f = record { wide = p.wide; high = p.high; at = f }

-- the bit b put at (x, y), if the picture has that place; all others stay
abbrev pub put : ℕ → ℕ → Bool → Picture → Picture
put x y b p = with_bits p (λ u v. if has p x y && (u == x && v == y) then b else p.at u v)

-- what asking for (x, y) answers
abbrev pub asked : Picture → ℕ → ℕ → Result Bool Refusal
asked p x y = if has p x y then Ok (p.at x y) else refused Outside 11 refl

-- what setting (x, y) answers
abbrev pub answered : Picture → ℕ → ℕ → Result (Unit {0}) Refusal
answered p x y = if has p x y then Ok tt else refused Outside 11 refl

-- the picture on its side: (x, y) shows the place (width - 1 - y, x)
abbrev pub turned : Picture → Picture
turned p = record { wide = p.high; high = p.wide; at = λ x y. (nat_lt x p.high && nat_lt y p.wide) && p.at (p.wide - 1 - y) x }
