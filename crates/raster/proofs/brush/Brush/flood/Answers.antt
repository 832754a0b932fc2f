use Rattle.std.proofs.Common.{rules}
use Rattle.raster.proofs.FillLaws.{clears, confined_flooded}
use Rattle.raster.proofs.brush.Brush.flood.Goals as goal

pub returns : goal.returns
returns g c = record { picture = search rules; clears = clears; confined = confined_flooded c.args.self.region c.args.self.operation }
