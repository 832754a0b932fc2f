-- The number of each emulation, and the one with direct cursor addresses.
use Rattle.std.specs.Prelude.{Bool, true, false, ℕ}
use Rattle.parser.specs.declared.emulation.Emulation.{Emulation}
use Rattle.parser.specs.declared.emulation.Emulation.TheVariants.{Native, Vt52, Vt100, Tek4010}

abbrev pub number_of : Emulation → ℕ
number_of Native = 0
number_of Vt52 = 1
number_of Vt100 = 2
number_of Tek4010 = 3

abbrev pub is_vt52 : Emulation → Bool
is_vt52 Vt52 = true
is_vt52 _ = false
