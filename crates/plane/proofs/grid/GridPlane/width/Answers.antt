use Rattle.std.proofs.Common.{arith}
use Rattle.plane.proofs.RoomLaws.{all_given}
use Rattle.plane.proofs.grid.GridPlane.width.Goals as goal

pub returns : goal.returns
returns g c =
    let s = c.args.self.now in
    let l = g.C.Cell.layout s.across s.up in
    let m = g.C.Cell.numbers s.memory.now in
    let b = g.met.C.Cell.blocks s.across s.up in
    grind (arith, b.wide, all_given l m l.wide (omega (arith, s.room, b.cells, g.met.C.Cell.as_many s.memory.now)))
