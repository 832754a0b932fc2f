use Rattle.std.proofs.Common.{◌≡◌}
use Rattle.raster.specs.Line.{point, dotted}
use Rattle.raster.proofs.brush.Brush.line.Given as goal

abbrev pub invariant-loop-i : goal.invariant-loop-i
invariant-loop-i g l =
    let pic = g.P.Plane.picture in
    pic l.plane ≡ dotted l.self.region l.self.operation (point l.from l.to) l.i (pic l.initial.plane)
