-- What a refused memory check tells.
use Rattle.std.proofs.Common.{◌≡◌, ℕ, ◌*◌, ◌/◌, Bool, true, false, cond, ◌&&◌, eqb, ltb, leb, is_err, List, length, get_or, Ok, Err, Result, ◌<◌, ◌≤◌, sym, refl, ap, ap₂, ◌∙◌, arith}
use mathlib.Core.Path.{fun_ext}
use native.Mathlib.Nat.{mul-div-le}
use Rattle.std.proofs.lemmas.Nat.{mul-le, le-div}
use Rattle.std.proofs.lemmas.Bool.{true≢false, eqb-true, and_left, le-ltb}
use Rattle.refusal.specs.declared.Refusal.{Refusal}
use Rattle.refusal.specs.declared.Refusal.TheVariants.{Size, Memory}
use Rattle.plane.specs.Bits.{bit}
use Rattle.plane.specs.Layout.{Layout, held, nothing}
use Rattle.plane.specs.Memory.{side, fits, checked}

pub unfit : (w h n seen len : ℕ) (r : Result (Unit {0}) Refusal) → r ≡ checked w h n seen → true ≡ is_err r → seen ≡ len → fits w h n len ≡ false
unfit w h n seen len r e err all = of (side w && side h) (eqb len (w * h / n)) (err ∙ ap is_err (rw all at e))
  where
    of : (a b : Bool) → true ≡ is_err {T = Unit {0}} {E = Refusal} (cond a (cond b (Ok tt) (Err Memory)) (Err Size)) → (a && b) ≡ false
    of true true e = absurd (true≢false e)
    of true false e = refl
    of false b e = refl

pub fit : (w h n len : ℕ) (r : Result (Unit {0}) Refusal) → r ≡ checked w h n len → false ≡ is_err r → len ≡ w * h / n
fit w h n len r e err = eqb-true len (w * h / n) (of (side w && side h) (eqb len (w * h / n)) (err ∙ ap is_err e))
  where
    of : (a b : Bool) → false ≡ is_err {T = Unit {0}} {E = Refusal} (cond a (cond b (Ok tt) (Err Memory)) (Err Size)) → b ≡ true
    of true true e = refl
    of true false e = absurd (true≢false (sym e))
    of false b e = absurd (true≢false (sym e))

-- as many whole numbers as fit each way have room in what fits in all
pub room_in : (a b h : ℕ) → 0 < h → a / 8 * (b / h) ≤ a * b / (8 * h)
room_in a b h some =
    le-div (a / 8 * (b / h)) (a * b) (8 * h) (omega arith) (rw (regroup (a / 8) (b / h)) (mul-le (8 * (a / 8)) (h * (b / h)) a b (omega arith) (mul-div-le b h)))
  where
    regroup : (p q : ℕ) → p * q * (8 * h) ≡ 8 * p * (h * q)
    regroup p q = omega arith

-- no pixel at all
pub held_nothing : (l : Layout) (m : List ℕ) → l.wide ≡ 0 → l.high ≡ 0 → held l m ≡ nothing
held_nothing l m ew eh = rw (ew, eh) (ap₂ (λ n f. record { wide = n; high = n; at = f }) (none (leb l.cells (length m))) (fun_ext (λ u. fun_ext (λ v. dark (leb l.cells (length m)) u v (bit (get_or m (l.cell u v) 0) (l.nth u v))))))
  where
    none : (t : Bool) → ◌≡◌ {A = ℕ} (cond t 0 0) 0
    none true = refl
    none false = refl

    dark : (t : Bool) (u v : ℕ) (b : Bool) → ((ltb u (cond t 0 0) && ltb v (cond t 0 0)) && b) ≡ false
    dark t u v b = rw (none t) (and_left (ltb u 0 && ltb v 0) b (and_left (ltb u 0) (ltb v 0) (le-ltb u 0 (omega arith))))
