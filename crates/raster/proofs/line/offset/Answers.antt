use Rattle.std.proofs.Common.{refl, arith}
use Rattle.raster.proofs.LineLaws.{offset_le}
use Rattle.raster.proofs.line.offset.Goals as goal

pub returns : goal.returns
returns c = record { value = refl; within = offset_le c.args.i c.args.distance c.args.n (omega arith) (omega arith) }
