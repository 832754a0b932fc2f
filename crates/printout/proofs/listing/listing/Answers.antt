use Rattle.std.proofs.Common.{◌+◌, ◌≤◌, ◌++◌, length, take, Ok, sym, ap, ◌∙◌, arith}
use Rattle.std.proofs.lemmas.Bool.{leb-true}
use Rattle.columns.specs.Line.{text_of}
use Rattle.printout.proofs.InkLaws.{bounded}
use Rattle.printout.proofs.ListingLaws.{all_written, line_ends, roomy, tight, unlike}
use Rattle.printout.proofs.listing.listing.Goals as goal

pub returns-then-not-matches : goal.returns-then-not-matches
returns-then-not-matches g c =
    let t = c.args.terminal.now in
    let p = g.P.Plane.picture c.args.plane.now in
    let q = unlike t p c.args.buffer.now (sym c.if-not-matches.ensures) in
    record { value = q.0; buffer = q.1; within = tt; bounded = bounded }

pub returns-then-not-has_room : goal.returns-then-not-has_room
returns-then-not-has_room g c =
    let t = c.args.terminal.now in
    let p = g.P.Plane.picture c.args.plane.now in
    let q = tight t p c.args.buffer.now (sym c.if-not-matches.ensures) (sym c.if-not-has_room.ensures) in
    record { value = q.0; buffer = q.1; within = tt; bounded = bounded }

pub returns : goal.returns
returns g c =
    let t = c.args.terminal.now in
    let p = g.P.Plane.picture c.args.plane.now in
    let q = roomy t p c.args.buffer.now (sym c.if-not-matches.ensures) (sym c.if-not-has_room.ensures) in
    let above = c.put_rows-at.ensures in
    let below = c.write.ensures in
    let room : c.put_rows-at.result + 25 ≤ length c.put_rows-at.new.buffer = omega (arith, above.end, leb-true _ _ (sym c.if-not-has_room.ensures)) in
    let ends = line_ends (length c.put_rows-at.new.buffer) c.put_rows-at.result c.write.result below.answer room in
    let all = all_written t p c.args.buffer.now c.put_rows-at.new.buffer c.write.new.buffer c.put_rows-at.result above.end above.text above.rest (below.text room ∙ ap (λ l. take c.put_rows-at.result c.put_rows-at.new.buffer ++ text_of l) c.last_line.ensures) below.rest in
    record { value = ends ∙ ap (λ n. Ok (n + 25)) above.end ∙ q.0; buffer = all ∙ q.1; within = rw ends (omega (arith, above.end, leb-true _ _ (sym c.if-not-has_room.ensures))); bounded = bounded }
