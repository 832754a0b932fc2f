-- The numbers of regions.
use Rattle.std.specs.Prelude.{◌≡◌, ℕ, Bool, true, false, Some, None, Option, nat_lt, refl}
use Rattle.std.proofs.lemmas.Bool.{ltb-true}
use Rattle.regions.specs.declared.slot.Slot.{Slot}

abbrev pub first : Slot
first = record { number = 0; few = ltb-true 0 8 refl }

abbrev pub slotted_if : (n : ℕ) (t : Bool) → nat_lt n 8 ≡ t → Option Slot
slotted_if n true e = Some (record { number = n; few = ltb-true n 8 e })
slotted_if n false e = None

-- 0 to 7
abbrev pub slotted : ℕ → Option Slot
slotted n = slotted_if n (nat_lt n 8) refl
