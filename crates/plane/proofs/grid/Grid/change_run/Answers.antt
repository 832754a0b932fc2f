use Rattle.std.proofs.Common.{◌≡◌, ◌≤◌, ◌⊎◌, ◌*◌, min, length, ap, ◌∙◌, inl, inr, arith}
use Rattle.std.proofs.lemmas.Bool.{cases_lt}
use Rattle.plane.specs.Layout.{held}
use Rattle.plane.proofs.RoomLaws.{all_given, held_run}
use Rattle.plane.proofs.RunLaws.{empty}
use Rattle.plane.proofs.grid.Grid.change_run.Goals as goal

pub returns-then-y-height : goal.returns-then-y-height
returns-then-y-height g c =
    let a = c.args in
    let s = a.self.now in
    let p = held (g.C.Cell.layout s.across s.up) (g.C.Cell.numbers s.memory.now) in
    let x0 = a.run.start in
    let out : (a.run.end ≤ x0) ⊎ ((p.high ≤ a.y) ⊎ (p.wide ≤ x0)) = elim c.then-y-height.either [
      | inl above ↦ inr (inl (omega arith))
      | inr past ↦ elim (cases_lt x0 a.run.end) [ inl lt ↦ inr (inr (omega arith)) | inr ge ↦ inl ge ]
    ] in
    let d = empty a.y x0 (g.H.Change.becomes a.change.now x0 p) p a.run.end out in
    record { picture = d.picture; count = d.count }

pub change_row-requires : goal.change_row-requires
change_row-requires g c =
    let a = c.args in
    let s = a.self.now in
    let l = g.C.Cell.layout s.across s.up in
    let m = g.C.Cell.numbers s.memory.now in
    let b = g.met.C.Cell.blocks s.across s.up in
    let room : l.cells ≤ length m = omega (arith, s.room, b.cells, g.met.C.Cell.as_many s.memory.now) in
    let w = c.width.ensures ∙ all_given l m l.wide room in
    let h = c.height.ensures ∙ all_given l m l.high room in
    let end : c.min.result ≡ min a.run.end (8 * s.across) = omega (arith, w, b.wide) in
    record { room = s.room; row = omega (arith, h, b.high); run = (omega arith, omega arith); fits = rw end c.requires.fits }

pub returns : goal.returns
returns g c =
    let a = c.args in
    let s = a.self.now in
    let l = g.C.Cell.layout s.across s.up in
    let m = g.C.Cell.numbers s.memory.now in
    let r = g.C.Cell.numbers c.change_row.new.memory in
    let b = g.met.C.Cell.blocks s.across s.up in
    let many = g.met.C.Cell.as_many in
    let room : l.cells ≤ length m = omega (arith, s.room, b.cells, many s.memory.now) in
    let roomy : l.cells ≤ length r = omega (arith, s.room, b.cells, many c.change_row.new.memory, c.change_row.ensures.length) in
    let w = c.width.ensures ∙ all_given l m l.wide room in
    let did = c.change_row.ensures in
    let d = held_run l m r room roomy a.y a.run.start a.run.end c.min.result c.change_row.result (g.H.Change.becomes a.change.now a.run.start) (c.min.ensures ∙ ap (min a.run.end) w) (omega arith) (record { picture = did.picture; count = did.count }) in
    record { picture = d.picture; count = d.count }
