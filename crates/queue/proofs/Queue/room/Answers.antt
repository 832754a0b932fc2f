use Rattle.std.proofs.Common.{arith}
use Rattle.queue.proofs.RingLaws.{waiting_fits}
use Rattle.queue.proofs.Queue.room.Goals as goal

pub overflow_sub-result : goal.overflow_sub-result
overflow_sub-result g c = omega (arith, waiting_fits c.args.self.now)
