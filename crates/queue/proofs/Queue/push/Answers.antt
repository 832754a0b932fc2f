use Rattle.std.proofs.Common.{◌+◌, ◌<◌, ◌≤◌, length, set, sym, refl, ap, ◌∙◌, arith}
use Rattle.std.proofs.lemmas.List.{length-set}
use Rattle.std.proofs.lemmas.Bool.{cond-true, cond-false, lt-ltb, le-ltb}
use Rattle.queue.specs.Ring.{ring}
use Rattle.queue.specs.Waiting.{waiting, places}
use Rattle.queue.proofs.RingLaws.{length_waiting, ring_push}
use Rattle.queue.proofs.Queue.push.Goals as goal

pub returns-then-self-size : goal.returns-then-self-size
unfolding places
returns-then-self-size g c =
    let q = c.args.self.now in
    let full : places q ≤ length (waiting q) = omega (arith, length_waiting q) in
    record {
      answer = sym (cond-false _ _ _ (le-ltb (length (waiting q)) (places q) full));
      joins = refl;
      stays = record { places = refl; memory = refl };
      refused = refl;
    }

pub returns : goal.returns
unfolding waiting places
returns g c =
    let q = c.args.self.now in
    let xs = q.items.now in
    let x = c.args.x in
    let free : length (waiting q) < places q = omega (arith, length_waiting q) in
    record {
      answer = sym (cond-true _ _ _ (lt-ltb (length (waiting q)) (places q) free));
      joins = ap (λ i. ring (set xs i x) q.head (q.waits + 1)) c.place-at.ensures ∙ ring_push xs q.head q.waits x (omega arith) (omega arith);
      stays = record { places = length-set xs c.place-at.result x; memory = refl };
      refused = tt;
    }
