use Rattle.std.proofs.Common.{◌≤◌, max, cond}
use Rattle.plane.proofs.RunLaws.{Done}
use Rattle.plane.proofs.Plane.join_run.Given as goal

abbrev pub invariant-loop-x : goal.invariant-loop-x
invariant-loop-x g l =
    let pic = g.Self.Plane.picture in
    (l.x ≤ max l.fn.run.start l.x-end) × (l.count ≤ l.x) × Done l.y l.fn.run.start l.x (λ _ old. cond old l.effect.one l.effect.zero) (pic l.initial.self) (pic l.self) l.count
