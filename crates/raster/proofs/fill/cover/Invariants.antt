use Rattle.std.proofs.Common.{◌≡◌, ◌≤◌, if◌then◌else◌}
use Rattle.raster.proofs.FillLaws.{rows_to}
use Rattle.raster.proofs.fill.cover.Given as goal

abbrev pub invariant-loop-v : goal.invariant-loop-v
invariant-loop-v g l =
    let pic = g.P.Plane.picture in
    (l.v ≤ l.v-end) × (pic l.plane ≡ rows_to (λ d. if d then l.effect.one else l.effect.zero) l.columns.start l.columns.count l.bottom l.v (pic l.initial.plane))
