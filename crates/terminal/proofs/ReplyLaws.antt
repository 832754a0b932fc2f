-- One part of a reply after another.
use Rattle.std.proofs.Common.{◌≡◌, ℕ, List, ◌++◌, ap, ◌∙◌, append_assoc}

-- one part after another
pub parts : (r₀ r₁ r₂ xs ys : List ℕ) → r₁ ≡ r₀ ++ xs → r₂ ≡ r₁ ++ ys → r₂ ≡ r₀ ++ (xs ++ ys)
parts r₀ r₁ r₂ xs ys e f = f ∙ ap (λ r. r ++ ys) e ∙ append_assoc r₀ xs ys
