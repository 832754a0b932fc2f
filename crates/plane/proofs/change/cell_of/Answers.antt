use Rattle.std.proofs.Common.{◌<◌, length, slice_index, sym, ap, ◌∙◌, arith}
use Rattle.plane.proofs.ByteLaws.{cell_in_room}
use Rattle.plane.proofs.change.cell_of.Goals as goal

pub bounds-memory-index : goal.bounds-memory-index
bounds-memory-index g c =
    let a = c.args in
    let law = g.met.C.Cell in
    let many = law.as_many a.memory.now in
    omega (arith, cell_in_room (law.blocks a.across a.up) (g.C.Cell.numbers a.memory.now) a.y a.k c.index.result (omega arith) c.requires.inside.1 c.requires.inside.0 c.index.ensures)

pub offset_bounds-memory-index : goal.offset_bounds-memory-index
offset_bounds-memory-index g c = let lt = bounds-memory-index g c in omega arith

pub returns : goal.returns
returns g c x ex =
    let a = c.args in
    let law = g.met.C.Cell in
    let n = c.index-memory-index in
    let m = g.C.Cell.numbers a.memory.now in
    let many = law.as_many a.memory.now in
    let lt : c.index.result < length a.memory.now = omega (arith, cell_in_room (law.blocks a.across a.up) m a.y a.k c.index.result (omega arith) c.requires.inside.1 c.requires.inside.0 c.index.ensures) in
    ap g.C.Cell.number n.is ∙ sym (law.read a.memory.now c.index.result n.result lt) ∙ ap (slice_index m) (sym (c.index.ensures x ex))
