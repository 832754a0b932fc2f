use Rattle.std.proofs.Common.{◌≡◌, ◌+◌, sym, ◌∙◌, add-zero, arith}
use Rattle.plane.specs.Run.{from_row}
use Rattle.plane.proofs.CopyLaws.{one_copied, none_copied, copy_cut, copied_apart}
use Rattle.plane.proofs.CountLaws.{no_change, changes_most}
use Rattle.plane.proofs.RunLaws.{not_begun}
use Rattle.plane.proofs.Plane.copy_places.Goals as goal

pub returns-then-from-y-clause-count : goal.returns-then-from-y-clause-count
returns-then-from-y-clause-count g c = sym (no_change c.args.y (g.Self.Plane.picture c.args.self.now))

pub loop-i-init : goal.loop-i-init
loop-i-init g c =
    let a = c.args in
    let p = g.Self.Plane.picture a.self.now in
    (omega arith, rw add-zero (not_begun a.y a.run.start (from_row p a.run.start a.from.y a.from.x) p))

pub overflow_add-count : goal.overflow_add-count
overflow_add-count g c =
    let a = c.args in
    let pic = g.Self.Plane.picture in
    let l = c.loop-i in
    let f = c.fill_run-count in
    let d = one_copied (pic a.self.now) (pic l.self) a.y a.run.start (a.run.start + l.i) a.from.y a.from.x l.count c.if-from-y.false (omega arith) l.invariant.1 c.in-Ok.bit (pic f.new.self) f.result c.in-Ok.ensures (omega arith) f.ensures.picture f.ensures.count in
    omega (arith, d.count, changes_most a.y (pic a.self.now) (pic f.new.self))

pub loop-i-preserved : goal.loop-i-preserved
loop-i-preserved g c =
    let a = c.args in
    let pic = g.Self.Plane.picture in
    let l = c.loop-i in
    let x = a.run.start + l.i in
    let next : x + 1 ≡ a.run.start + (l.i + 1) = omega arith in
    elim c.match-ask.branch [
      | goal.in-Ok w ↦ let f = w.fill_run-count in
          (omega arith, rw (w.self-is, w.count-is, ← next) (one_copied (pic a.self.now) (pic l.self) a.y a.run.start x a.from.y a.from.x l.count c.if-from-y.false (omega arith) l.invariant.1 w.in-Ok.bit (pic f.new.self) f.result w.in-Ok.ensures (omega arith) f.ensures.picture f.ensures.count))
      | goal.in_default w ↦ (omega arith, rw (w.self-is, w.count-is, ← next) (none_copied (pic a.self.now) (pic l.self) a.y a.run.start x a.from.y a.from.x l.count c.if-from-y.false (omega arith) l.invariant.1 _ (sym w.in_default.is ∙ c.ask.ensures) (omega arith)))
    ]

pub returns : goal.returns
returns g c =
    let a = c.args in
    let p = g.Self.Plane.picture a.self.now in
    let l = c.loop-i in
    record {
      picture = l.invariant.1.picture ∙ copy_cut p a.y a.run.start a.from.y a.from.x a.run.end l.i (omega arith) ∙ copied_apart p a.y a.run.start a.from.y a.from.x a.run.end c.if-from-y.false;
      count = l.invariant.1.count;
    }
