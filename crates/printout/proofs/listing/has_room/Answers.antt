use Rattle.std.proofs.Common.{ℕ, ltb, leb, sym, ap, ◌∙◌, arith}
use Rattle.std.proofs.lemmas.Bool.{le-leb}
use Rattle.printout.specs.Ink.{row}
use Rattle.plane.specs.Run.{how_many as count}
use Rattle.printout.proofs.InkLaws.{count_le}
use Rattle.printout.proofs.ListingLaws.{rows_length}
use Rattle.printout.proofs.listing.has_room.Goals as goal

pub overflow_add-result : goal.overflow_add-result
overflow_add-result g c =
    omega (arith, c.inked_rows.ensures, count_le (λ y. ltb 0 (count (row (g.P.Plane.picture c.args.plane.now) y) c.args.size.width)) c.args.size.height)

pub overflow_mul-result : goal.overflow_mul-result
overflow_mul-result g c =
    omega (arith, c.inked_rows.ensures, count_le (λ y. ltb 0 (count (row (g.P.Plane.picture c.args.plane.now) y) c.args.size.width)) c.args.size.height)

pub returns-then-size-room : goal.returns-then-size-room
returns-then-size-room g c =
    let p = g.P.Plane.picture c.args.plane.now in
    let s = c.args.size in
    le-leb _ _ c.if-size-room.true ∙ sym (le-leb _ _ (omega (arith, c.if-size-room.true, rows_length p s.width s.height, count_le (λ y. ltb 0 (count (row p y) s.width)) s.height)))

pub returns-else-size-room : goal.returns-else-size-room
returns-else-size-room g c =
    let p = g.P.Plane.picture c.args.plane.now in
    let s = c.args.size in
    ap (λ (n : ℕ). leb n c.args.room) (omega (arith, c.inked_rows.ensures, rows_length p s.width s.height))
