use Rattle.std.proofs.Common.{◌≡◌}
use Rattle.printout.specs.Ink.{row, inked}
use Rattle.printout.proofs.ink.ink_of_row.Given as goal

abbrev pub invariant-loop-x : goal.invariant-loop-x
invariant-loop-x g l = l.ink ≡ inked (row (g.P.Plane.picture l.plane) l.y) l.x
