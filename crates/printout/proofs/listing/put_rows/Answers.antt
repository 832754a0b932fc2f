use Rattle.std.proofs.Common.{◌≡◌, ◌+◌, ◌≤◌, [], length, sym, refl, ap, ◌∙◌, append-nil, arith}
use Rattle.columns.specs.Line.{text_of}
use Rattle.printout.specs.Listing.{rows}
use Rattle.printout.proofs.ListingLaws.{row_shown, row_blank, row_fits, row_written, line_ends, line_end, so_far, past}
use Rattle.printout.proofs.listing.put_rows.Goals as goal

-- the line of this row fits behind those written
pub unwrap-at-requires : goal.unwrap-at-requires
unwrap-at-requires g c =
    let a = c.args in
    let l = c.loop-y in
    let p = g.P.Plane.picture a.plane.now in
    let w = a.size.width in
    let room : l.at + 25 ≤ length l.buffer = omega (arith, c.requires, l.auto.buffer, so_far l.buffer (rows p w l.y) (rows p w a.size.height) l.at l.invariant.0 l.invariant.1, row_fits p w l.y c.in-Some.ink c.loop-y-test.true (c.in-Some.ensures {u = tt})) in
    rw (line_ends (length l.buffer) l.at c.write.result c.write.ensures.answer room) refl

pub loop-y-preserved-in-Some : goal.loop-y-preserved-in-Some
loop-y-preserved-in-Some g c =
    let a = c.args in
    let l = c.loop-y in
    let p = g.P.Plane.picture a.plane.now in
    let w = a.size.width in
    let i = c.in-Some.ink in
    let is = c.in-Some.ensures {u = tt} in
    let after = c.write.new.buffer in
    let far = so_far l.buffer (rows p w l.y) (rows p w a.size.height) l.at l.invariant.0 l.invariant.1 in
    let fits = row_fits p w l.y i c.loop-y-test.true is in
    let room : l.at + 25 ≤ length l.buffer = omega (arith, c.requires, l.auto.buffer, far, fits) in
    let end = line_end (length l.buffer) l.at c.unwrap-at.result c.write.result c.write.ensures.answer room c.unwrap-at.ensures in
    let shown = row_shown p w _ i is ∙ ap text_of (sym c.row_line.ensures) in
    let long : length after ≡ length l.buffer = omega arith in
    (omega (arith, end, room, long), rw end (row_written p w _ _ _ _ l.y _ (omega arith) shown (c.write.ensures.text room) l.invariant.1), rw end (past l.buffer after a.buffer.now l.at 25 c.write.ensures.rest l.invariant.2))

pub loop-y-preserved : goal.loop-y-preserved
loop-y-preserved g c =
    let l = c.loop-y in
    let p = g.P.Plane.picture c.args.plane.now in
    let w = c.args.size.width in
    let blank = row_blank p w _ (c.in_default.ensures {u = tt}) in
    (l.invariant.0, row_written p w _ _ _ [] l.y _ (omega arith) blank (sym (append-nil _)) l.invariant.1, l.invariant.2)
