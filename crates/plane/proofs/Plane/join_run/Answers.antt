use Rattle.std.proofs.Common.{ℕ, Bool, cond, sym, ◌∙◌, add-zero, arith}
use Rattle.plane.proofs.RunLaws.{not_begun, one_longer, cut, place_set, place_left, place_outside}
use Rattle.plane.proofs.Plane.join_run.Goals as goal

pub loop-x-init : goal.loop-x-init
loop-x-init g c =
    let a = c.args in
    (omega arith, omega arith, not_begun a.y a.run.start (λ _ old. cond old a.effect.one a.effect.zero) (g.Self.Plane.picture a.self.now))

pub loop-x-preserved : goal.loop-x-preserved
loop-x-preserved g c =
    let a = c.args in
    let pic = g.Self.Plane.picture in
    let l = c.loop-x in
    let q = pic l.self in
    let f : ℕ → Bool → Bool = λ _ old. cond old a.effect.one a.effect.zero in
    let step = one_longer a.y a.run.start f (pic a.self.now) l.x q in
    elim c.match-ask.branch [
      | goal.in-Ok+then-new-old w ↦ (omega arith, omega (arith, w.count-is), rw (w.self-is, w.count-is) (step (pic w.set.new.self) l.count 1 l.auto.x l.invariant.2 (place_set q l.x a.y f w.in-Ok.old w.on-new.result w.in-Ok.ensures w.on-new.ensures (pic w.set.new.self) w.if-new-old.true w.set.ensures.picture)))
      | goal.in-Ok+else-new-old w ↦ (omega arith, omega (arith, w.count-is), rw (w.self-is, w.count-is, ← add-zero l.count) (step q l.count 0 l.auto.x l.invariant.2 (place_left q l.x a.y f w.in-Ok.old w.on-new.result w.in-Ok.ensures w.on-new.ensures w.if-new-old.false)))
      | goal.in_default w ↦ (omega arith, omega (arith, w.count-is), rw (w.self-is, w.count-is, ← add-zero l.count) (step q l.count 0 l.auto.x l.invariant.2 (place_outside q l.x a.y f _ (sym w.in_default.is ∙ c.ask.ensures))))
    ]

pub returns : goal.returns
returns g c =
    let a = c.args in
    let l = c.loop-x in
    record {
      picture = l.invariant.2.picture ∙ cut a.y a.run.start (λ _ old. cond old a.effect.one a.effect.zero) (g.Self.Plane.picture a.self.now) l.x a.run.end c.min-x-end.result (omega arith) c.loop-x-test.false l.invariant.0;
      count = l.invariant.2.count;
    }
