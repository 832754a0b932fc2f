use Rattle.std.proofs.Common.{◌*◌, ◌%◌}
use Rattle.plane.proofs.BitLaws.{bit_of_part}
use Rattle.plane.proofs.tiled.U64Cell.eight.Goals as goal

pub returns : goal.returns
returns c j lt = bit_of_part c.args.self (8 * (c.args.y % 8)) j lt
