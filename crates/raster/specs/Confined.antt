-- What it means that drawing keeps to a set of places.
use Rattle.std.specs.Prelude.{◌≡◌, ℕ, Bool, true, false}
use Rattle.plane.specs.Picture.{Picture}

-- two pictures of one size with equal bits at the places of o
pub record Alike (o : ℕ → ℕ → Bool) (p q : Picture) : Type 0 where
  pub wide : p.wide ≡ q.wide
  pub high : p.high ≡ q.high
  pub at : (u v : ℕ) → o u v ≡ true → p.at u v ≡ q.at u v

-- f keeps the size and every bit outside o, and what it makes of o depends on the bits in o alone
pub record Confined (o : ℕ → ℕ → Bool) (f : Picture → Picture) : Type 0 where
  pub wide : (p : Picture) → (f p).wide ≡ p.wide
  pub high : (p : Picture) → (f p).high ≡ p.high
  pub keeps : (p : Picture) (u v : ℕ) → o u v ≡ false → (f p).at u v ≡ p.at u v
  pub reads : (p q : Picture) → Alike o p q → Alike o (f p) (f q)

-- one after the other
abbrev pub Composes : Type 0
Composes = (o : ℕ → ℕ → Bool) (f g : Picture → Picture) → Confined o f → Confined o g → Confined o (λ p. g (f p))
