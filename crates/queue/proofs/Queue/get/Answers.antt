use Rattle.std.proofs.Common.{get_or, Some, sym, ap, ◌∙◌, arith}
use Rattle.std.proofs.lemmas.List.{drop_all}
use Rattle.queue.specs.Nth.{first}
use Rattle.queue.specs.Waiting.{waiting}
use Rattle.queue.proofs.RingLaws.{length_waiting, ring_nth}
use Rattle.queue.proofs.Queue.get.Goals as goal

pub returns-then-i-self : goal.returns-then-i-self
returns-then-i-self g c =
    let q = c.args.self.now in
    sym (ap first (drop_all c.args.i (waiting q) (omega (arith, length_waiting q))))

pub returns : goal.returns
unfolding waiting
returns g c =
    let q = c.args.self.now in
    let xs = q.items.now in
    let x = c.index-items-at.result in
    ap Some (c.index-items-at.is ∙ ap (λ k. get_or xs k x) c.place-at.ensures)
    ∙ sym (ring_nth xs q.head q.waits c.args.i q.fits c.if-i-self.false x)
