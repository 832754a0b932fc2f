use Rattle.std.proofs.Common.{sym}
use Rattle.queue.proofs.RingLaws.{length_waiting}
use Rattle.queue.proofs.Queue.len.Goals as goal

pub returns : goal.returns
returns g c = sym (length_waiting c.args.self.now)
