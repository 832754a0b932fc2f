-- A fact about an order has one proof, so values with an invariant are equal where their numbers are.
use Rattle.std.proofs.Common.{◌≡◌, ℕ, ◌+◌, ◌<◌, ◌≤◌, Bool, true, false, cond, ◌&&◌, ltb, ℤ, pos, negsuc, nat_abs, ◌≤ℤ◌, Some, Ok, Err, Result, refl, ap, arith}
use native.Mathlib.Bridge.{le_prop}
use Rattle.std.proofs.lemmas.Int.{ints}
use Rattle.std.proofs.lemmas.Bool.Decides.{nat_tests}
use Rattle.plane.specs.Memory.{side, sized as accepts}
use Rattle.raster.specs.declared.region.Region.{Region}
use Rattle.refusal.specs.declared.Refusal.{Refusal}
use Rattle.refusal.specs.declared.Refusal.TheVariants.{Size as NoSize}
use Rattle.regions.specs.declared.area.Area.{Area}
use Rattle.regions.specs.declared.size.Size.{Size}
use Rattle.regions.specs.declared.slot.Slot.{Slot}
use Rattle.regions.specs.Area.{large, within, laid_if, laid, fitted_to}
use Rattle.regions.specs.Size.{measured, sized}
use Rattle.regions.specs.Slot.{slotted_if}

abbrev pub area : (s : Size) (r : Region) → 16 ≤ r.width → 16 ≤ r.height → r.left + r.width ≤ s.width → r.bottom + r.height ≤ s.height → Area
area s r a b c d = record { plane = s; region = r; wide = a; high = b; across = c; up = d }

module _ (s : Size) (r : Region) (a₁ a₂ : 16 ≤ r.width) (b₁ b₂ : 16 ≤ r.height) (c₁ c₂ : r.left + r.width ≤ s.width) (d₁ d₂ : r.bottom + r.height ≤ s.height) where
  pub one_area : area s r a₁ b₁ c₁ d₁ ≡ area s r a₂ b₂ c₂ d₂
  one_area = rw (le_prop a₁ a₂, le_prop b₁ b₂, le_prop c₁ c₂, le_prop d₁ d₂) refl

-- what fits is laid
pub area_laid : (s : Size) (r : Region) (a : 16 ≤ r.width) (b : 16 ≤ r.height) (c : r.left + r.width ≤ s.width) (d : r.bottom + r.height ≤ s.height) (t : Bool) (e : (large r && within s r) ≡ t) → Some (area s r a b c d) ≡ laid_if s r t e
area_laid s r a b c d true e = ap Some (one_area s r a _ b _ c _ d _)
area_laid s r a b c d false e = absurd (grind (arith, nat_tests))

abbrev pub slot : (n : ℕ) → n < 8 → Slot
slot n h = record { number = n; few = h }

pub slot_found : (n : ℕ) (h : n < 8) (t : Bool) (e : ltb n 8 ≡ t) → Some (slot n h) ≡ slotted_if n t e
slot_found n h true e = ap (λ p. Some (slot n p)) (le_prop h _)
slot_found n h false e = absurd (grind (arith, nat_tests))

abbrev pub size : (w h : ℕ) → 16 ≤ w → 16 ≤ h → w ≤ 1024 → h ≤ 1024 → Size
size w h a b c d = record { width = w; height = h; wide = a; high = b; narrow = c; low = d }

module _ (w h : ℕ) (a₁ a₂ : 16 ≤ w) (b₁ b₂ : 16 ≤ h) (c₁ c₂ : w ≤ 1024) (d₁ d₂ : h ≤ 1024) where
  one_size : size w h a₁ b₁ c₁ d₁ ≡ size w h a₂ b₂ c₂ d₂
  one_size = rw (le_prop a₁ a₂, le_prop b₁ b₂, le_prop c₁ c₂, le_prop d₁ d₂) refl

-- the memory check passed
accepted : (t : Bool) (u : Unit {0}) (r : Refusal) → ◌≡◌ {A = Result (Unit {0}) Refusal} (Ok u) (cond t (Ok tt) (Err r)) → t ≡ true
accepted true u r k = refl
accepted false u r k = let z : ◌≡◌ {A = ℕ} 0 1 = cc in absurd (omega arith)

measured_yes : (w h : ℕ) (a : 16 ≤ w) (b : 16 ≤ h) (c : w ≤ 1024) (d : h ≤ 1024) (t : Bool) (e : (side w && side h) ≡ t) → t ≡ true → ◌≡◌ {A = Result Size Refusal} (Ok (size w h a b c d)) (measured w h t e)
measured_yes w h a b c d true e k = let m : Size → Result Size Refusal = Ok in ap m (one_size w h a _ b _ c _ d _)
measured_yes w h a b c d false e k = absurd (grind arith)

pub size_measured : (w h : ℕ) (a : 16 ≤ w) (b : 16 ≤ h) (c : w ≤ 1024) (d : h ≤ 1024) (u : Unit {0}) → Ok u ≡ accepts w h → ◌≡◌ {A = Result Size Refusal} (Ok (size w h a b c d)) (sized w h)
size_measured w h a b c d u k = measured_yes w h a b c d (side w && side h) refl (accepted (side w && side h) u NoSize k)

-- numbers that are not negative
pub fitted_here : (s : Size) (x y w h : ℤ) → pos 0 ≤ℤ x → pos 0 ≤ℤ y → pos 0 ≤ℤ w → pos 0 ≤ℤ h →
    laid s (record { left = nat_abs x; bottom = nat_abs y; width = nat_abs w; height = nat_abs h }) ≡ fitted_to s x y w h
fitted_here s (pos x) (pos y) (pos w) (pos h) _ _ _ _ = refl
fitted_here s (negsuc x) y w h a b c d = absurd (omega (arith, ints))
fitted_here s (pos x) (negsuc y) w h a b c d = absurd (omega (arith, ints))
fitted_here s (pos x) (pos y) (negsuc w) h a b c d = absurd (omega (arith, ints))
fitted_here s (pos x) (pos y) (pos w) (negsuc h) a b c d = absurd (omega (arith, ints))
