use Rattle.std.proofs.lemmas.List.{take_rest}
use Rattle.queue.specs.Waiting.{waiting}
use Rattle.queue.proofs.RingLaws.{ring_parts}
use Rattle.queue.proofs.Queue.as_slices.Goals as goal

pub returns : goal.returns
unfolding waiting
returns g c = let q = c.args.self.now in let ahead = take_rest q.items.now q.head in rw ahead (ring_parts q.items.now q.head q.waits c.min-near.result (rw ahead at c.min-near.ensures))
