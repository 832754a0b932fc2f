use Rattle.std.proofs.Common.{◌≡◌, ◌+◌, ◌*◌, ◌%◌, arith}
use Rattle.plane.proofs.BitLaws.{bit_of_xor}
use Rattle.plane.proofs.packed.U8Cell.flipped.Goals as goal

pub returns-clause-here : goal.returns-clause-here
returns-clause-here c j lt =
    let e : 8 * (c.args._y % 1) + j ≡ j = omega arith in
    rw e (bit_of_xor c.args.self c.args.flips j)
