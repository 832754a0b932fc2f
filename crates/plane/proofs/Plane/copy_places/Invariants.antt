use Rattle.std.proofs.Common.{◌+◌, ◌≤◌}
use Rattle.plane.specs.Run.{from_row}
use Rattle.plane.proofs.RunLaws.{Done}
use Rattle.plane.proofs.Plane.copy_places.Given as goal

abbrev pub invariant-loop-i : goal.invariant-loop-i
invariant-loop-i g l =
    let pic = g.Self.Plane.picture in
    (l.i ≤ l.len) × Done l.y l.run.start (l.run.start + l.i) (from_row (pic l.initial.self) l.run.start l.from.y l.from.x) (pic l.initial.self) (pic l.self) l.count
