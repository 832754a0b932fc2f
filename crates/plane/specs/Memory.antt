-- Which memory a plane of a size has.
use Rattle.std.specs.Prelude.{ℕ, ◌*◌, ◌/◌, ◌%◌, Bool, if◌then◌else◌, ◌&&◌, Ok, Result, ◌==◌, nat_le, refl}
use Rattle.refusal.specs.declared.Refusal.{Refusal}
use Rattle.refusal.specs.declared.Refusal.TheVariants.{Size, Memory}
use Rattle.refusal.specs.Number.{refused}

-- a multiple of 8 from 16 to 1,024
abbrev pub side : ℕ → Bool
side n = nat_le 16 n && (nat_le n 1024 && n % 8 == 0)

abbrev pub sized : ℕ → ℕ → Result (Unit {0}) Refusal
sized w h = if side w && side h then Ok tt else refused Size 1 refl

-- whether len numbers of n bits each are exactly those of a plane of w by h
abbrev pub fits : ℕ → ℕ → ℕ → ℕ → Bool
fits w h n len = (side w && side h) && len == w * h / n

-- what the memory check answers: the size first, then the length
abbrev pub checked : ℕ → ℕ → ℕ → ℕ → Result (Unit {0}) Refusal
checked w h n len = if side w && side h then (if len == w * h / n then Ok tt else refused Memory 2 refl) else refused Size 1 refl
