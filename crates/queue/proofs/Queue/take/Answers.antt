use Rattle.std.proofs.Common.{◌≡◌, ◌-◌, [], drop, sym, refl, ap, ◌∙◌, arith}
use Rattle.std.proofs.lemmas.List.{nil_from_length}
use Rattle.queue.specs.Nth.{first}
use Rattle.queue.specs.Ring.{ring}
use Rattle.queue.specs.Waiting.{waiting, places}
use Rattle.queue.proofs.RingLaws.{length_waiting, ring_pop}
use Rattle.queue.proofs.Queue.take.Goals as goal

pub returns-then-self-eq0 : goal.returns-then-self-eq0
returns-then-self-eq0 g c =
    let q = c.args.self.now in
    let nothing : waiting q ≡ [] = nil_from_length (waiting q) (omega (arith, length_waiting q)) in
    record { first = sym (ap first nothing); rest = nothing ∙ sym (ap (drop 1) nothing); stays = record { places = refl; memory = refl }; none = λ _. refl }

pub returns : goal.returns
unfolding waiting places
returns g c =
    let q = c.args.self.now in
    let xs = q.items.now in
    let x = c.index-self-self.result in
    let parts = ring_pop xs q.head q.waits x (omega arith) (omega arith) q.fits in
    record {
      first = sym (ap first parts);
      rest = ap (λ h. ring xs h (q.waits - 1)) c.place-self.ensures ∙ sym (ap (drop 1) parts);
      stays = record { places = refl; memory = refl };
      none = λ e. cc;
    }
