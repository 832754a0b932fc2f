-- The sizes of planes that a terminal draws on.
use Rattle.std.specs.Prelude.{◌≡◌, ℕ, ◌%◌, ◌≤◌, Bool, true, false, ◌&&◌, Ok, Result, ◌==◌, nat_le, refl}
use Rattle.std.proofs.lemmas.Bool.{and_parts, leb-true}
use Rattle.plane.specs.Memory.{side}
use Rattle.refusal.specs.declared.Refusal.{Refusal}
use Rattle.refusal.specs.declared.Refusal.TheVariants.{Size as NoSize}
use Rattle.refusal.specs.Number.{refused}
use Rattle.regions.specs.declared.size.Size.{Size}

-- what it says of a number that it is a side
pub record Side (n : ℕ) : Type 0 where
  pub least : 16 ≤ n
  pub most : n ≤ 1024

pub a_side : (n : ℕ) → side n ≡ true → Side n
a_side n e =
    let parts = and_parts (nat_le 16 n) (nat_le n 1024 && n % 8 == 0) e in
    record { least = leb-true 16 n parts.0; most = leb-true n 1024 (and_parts (nat_le n 1024) (n % 8 == 0) parts.1).0 }

-- by whether both numbers are sides
abbrev pub measured : (w h : ℕ) (t : Bool) → (side w && side h) ≡ t → Result Size Refusal
measured w h true e =
    let both = and_parts (side w) (side h) e in
    Ok (record {
      width = w;
      height = h;
      wide = (a_side w both.0).least;
      high = (a_side h both.1).least;
      narrow = (a_side w both.0).most;
      low = (a_side h both.1).most;
    })
measured w h false e = refused NoSize 1 refl

-- both sides are multiples of 8 from 16 to 1,024
abbrev pub sized : ℕ → ℕ → Result Size Refusal
sized w h = measured w h (side w && side h) refl
