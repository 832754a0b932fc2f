-- Runs: neighbouring places of one row, and what is done to all of them at once.
use Rattle.std.specs.Prelude.{ℕ, zero, suc, ◌+◌, ◌-◌, Bool, true, false, if◌then◌else◌, not, ◌&&◌, ◌==◌, nat_le, nat_lt}
use Rattle.plane.specs.Picture.{Picture, has, with_bits}

-- whether (u, v) is one of the places of row y from x0 on and before x1
abbrev pub on_run : ℕ → ℕ → ℕ → ℕ → ℕ → Bool
on_run y x0 x1 u v = (nat_le x0 u && nat_lt u x1) && v == y

-- each bit of the run at u becomes g u of it; places that the picture does not have stay
abbrev pub mapped : ℕ → ℕ → ℕ → (ℕ → Bool → Bool) → Picture → Picture
mapped y x0 x1 g p = with_bits p (λ u v. if has p u v && on_run y x0 x1 u v then g u (p.at u v) else p.at u v)

-- the bit b all along the run
abbrev pub filled_run : ℕ → ℕ → ℕ → Bool → Picture → Picture
filled_run y x0 x1 b = mapped y x0 x1 (λ _ _. b)

-- 0 becomes `off` and 1 becomes `on`: every operation with a constant source is one of these
abbrev pub joined_run : ℕ → ℕ → ℕ → Bool → Bool → Picture → Picture
joined_run y x0 x1 off on = mapped y x0 x1 (λ _ old. if old then on else off)

-- what a copy brings to u: the bit of row sy as far from sx as u is from x0, or `old` where p has no such place
abbrev pub from_row : Picture → ℕ → ℕ → ℕ → ℕ → Bool → Bool
from_row p x0 sy sx u old = if has p (u - x0 + sx) sy then p.at (u - x0 + sx) sy else old

-- the run copied from row sy, from sx on; a row is never copied onto itself, so there the picture stays
abbrev pub copied_run : ℕ → ℕ → ℕ → ℕ → ℕ → Picture → Picture
copied_run y x0 x1 sy sx p = if sy == y then p else mapped y x0 x1 (from_row p x0 sy sx) p

abbrev pub differ : Bool → Bool → Bool
differ true b = not b
differ false b = b

-- how many numbers below n pass f
abbrev pub how_many : (ℕ → Bool) → ℕ → ℕ
how_many f zero = 0
how_many f (suc n) = how_many f n + (if f n then 1 else 0)

-- in how many places of row y the picture q differs from p
abbrev pub changes : ℕ → Picture → Picture → ℕ
changes y p q = how_many (λ x. differ (p.at x y) (q.at x y)) p.wide
