use Rattle.std.proofs.Common.{◌/◌, ◌^◌, arith}
use lib.Bits.{xor_lt}
use Rattle.std.proofs.lemmas.Nat.{shr_le}
use Rattle.plane.proofs.MaskLaws.{places_bits}
use Rattle.plane.proofs.cell.places_from_left.Goals as goal

pub overflow_cast-result-3 : goal.overflow_cast-result-3
overflow_cast-result-3 c =
    let lo = c.args.lo in
    let hi = c.args.hi in
    omega (arith, xor_lt 8 (255 / 2 ^ lo) (255 / 2 ^ hi) (omega (arith, shr_le 255 lo)) (omega (arith, shr_le 255 hi)))

pub returns : goal.returns
returns c = places_bits c.args.lo c.args.hi (omega arith) (omega arith)
