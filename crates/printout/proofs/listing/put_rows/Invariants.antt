use Rattle.std.proofs.Common.{◌≡◌, ◌≤◌, ◌++◌, length, take, drop}
use Rattle.printout.specs.Listing.{rows}
use Rattle.printout.proofs.listing.put_rows.Given as goal

abbrev pub invariant-loop-y : goal.invariant-loop-y
invariant-loop-y g l =
    let p = g.P.Plane.picture l.plane in
    (l.at ≤ length l.buffer) × (take l.at l.buffer ++ rows p l.size.width l.y ≡ rows p l.size.width l.size.height) × (drop l.at l.buffer ≡ drop l.at l.initial.buffer)
