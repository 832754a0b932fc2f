use Rattle.std.proofs.Common.{get_or, take, Some, ap, sym, refl, ◌∙◌, subst, arith}
use Rattle.std.proofs.lemmas.List.{take_all}
use Rattle.std.specs.Result.{result_err}
use Rattle.queue.proofs.RingLaws.{waiting_fits}
use Rattle.runs.specs.Calls.{Does, Works, Took}
use Rattle.runs.specs.Set.{Set}
use Rattle.runs.proofs.Sizes.{admitted}
use Rattle.runs.proofs.Steps.{so_far_none, so_far_more, byte_never_holds}
use Rattle.state.specs.declared.reading.Reading.{Reading}
use Rattle.terminal.specs.Session.{seen}
use Rattle.terminal.proofs.WorkLaws.{byte_exceeds, needs_no_place, still}
use Rattle.terminal.proofs.session.Session.feed.Goals as goal

pub loop-taken-init : goal.loop-taken-init
loop-taken-init g c =
    let s = seen g.P.Plane.picture g.L.Line.carried c.args.self.now in
    let admits = sym c.admit.ensures ∙ ap result_err (c.in_ok-admit.was {u = tt}) in
    ((admitted s admits).places, so_far_none s c.args.bytes.now admits, record { terminal = refl; face = refl; plane = refl; line = refl; strokes = refl })

pub work-requires : goal.work-requires
work-requires g c =
    let l = c.loop-taken in
    let byte = get_or c.args.bytes.now l.taken 0 in
    record {
      few = omega (arith, l.invariant.0, waiting_fits l.self.strokes.now);
      place = needs_no_place c.read-reading.result.action _ _ (λ k e. byte_never_holds l.self.terminal.now byte k (sym (ap (λ (r : Reading). r.action) c.read-reading.ensures) ∙ e));
    }

pub loop-taken-preserved : goal.loop-taken-preserved
loop-taken-preserved g c =
    let l = c.loop-taken in
    let set = seen g.P.Plane.picture g.L.Line.carried in
    let before = set l.self in
    let later = set c.work.new.self in
    let done = (c.in_default.ensures {u = tt}).worked in
    let read = subst (λ (r : Reading). Does before r later) c.read-reading.ensures done in
    (omega (arith, done.places, l.invariant.0), so_far_more (set c.args.self.now) before later c.args.bytes.now l.taken c.loop-taken-test.true l.invariant.1 read, still l.invariant.2 c.work.ensures.lent)

pub returns-in-Err : goal.returns-in-Err
returns-in-Err g c =
    let l = c.loop-taken in
    let bytes = c.args.bytes.now in
    let set = seen g.P.Plane.picture g.L.Line.carried in
    let admits = sym c.admit.ensures ∙ ap result_err (c.in_ok-admit.was {u = tt}) in
    let none = (c.in-Err.ensures {u = tt}).worked in
    let worked = subst (λ (t : Set). Works (set c.args.self.now) (take l.taken bytes) t) (sym none.1) l.invariant.1.works in
    let stopped = byte_exceeds (set l.self) (set c.work.new.self) (get_or bytes l.taken 0) c.read-reading.result c.in-Err.shortage c.read-reading.ensures none.0 none.1 in
    record {
      fed = (admits, subst (λ n. Took (set c.args.self.now) bytes n (Some c.in-Err.shortage) (set c.work.new.self)) (omega arith) (c.loop-taken-test.true, worked, stopped));
      lent = still l.invariant.2 c.work.ensures.lent;
      refused = tt;
    }

pub returns : goal.returns
returns g c =
    let l = c.loop-taken in
    let bytes = c.args.bytes.now in
    let set = seen g.P.Plane.picture g.L.Line.carried in
    let admits = sym c.admit.ensures ∙ ap result_err (c.in_ok-admit.was {u = tt}) in
    let all = take_all l.taken bytes (omega arith) in
    record {
      fed = (admits, (omega arith, subst (λ bs. Works (set c.args.self.now) bs (set l.self)) all l.invariant.1.works));
      lent = l.invariant.2;
      refused = tt;
    }
