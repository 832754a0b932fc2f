-- The sixteen raster operations: each is the number of its truth table.
use Rattle.std.specs.Prelude.{ℕ, ◌+◌, Bool, if◌then◌else◌}
use Rattle.plane.specs.Bits.{bit}
use Rattle.raster.specs.declared.operation.Operation.{Operation}
use Rattle.raster.specs.declared.operation.Operation.TheVariants.{Clear, And, AndReverse, Copy, AndInverted, Keep, Xor, Or, Nor, Equivalent, Invert, OrReverse, CopyInverted, OrInverted, Nand, Set}

abbrev pub number_of : Operation → ℕ
number_of Clear = 0
number_of And = 1
number_of AndReverse = 2
number_of Copy = 3
number_of AndInverted = 4
number_of Keep = 5
number_of Xor = 6
number_of Or = 7
number_of Nor = 8
number_of Equivalent = 9
number_of Invert = 10
number_of OrReverse = 11
number_of CopyInverted = 12
number_of OrInverted = 13
number_of Nand = 14
number_of Set = 15

-- operation k maps source s and destination d to bit 2 * (1 - s) + (1 - d) of k
abbrev pub combined : ℕ → Bool → Bool → Bool
combined k s d = bit k ((if s then 0 else 2) + (if d then 0 else 1))

abbrev pub applied : Operation → Bool → Bool → Bool
applied o = combined (number_of o)
