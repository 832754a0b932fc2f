-- Choices between two ways, and reasons to refuse.
use Rattle.std.proofs.Common.{◌≡◌, ℕ, Bool, true, false, cond, Some, None, arith}
use Rattle.refusal.specs.declared.Refusal.{Refusal}

-- a fact of each way is a fact of whichever is taken
pub whichever : {A : Type 0} (P : A → Type 0) (b : Bool) {x y : A} → P x → P y → P (cond b x y)
whichever P true p q = p
whichever P false p q = q

-- where there is a reason there is not none
pub some_reason : {A : Type 0} (r : Refusal) → Some r ≡ None → A
some_reason r e = let z : ◌≡◌ {A = ℕ} 0 1 = cc in absurd (omega arith)
