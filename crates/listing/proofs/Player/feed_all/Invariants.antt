use Rattle.std.proofs.Common.{◌≤◌, length}
use Rattle.listing.proofs.Player.feed_all.Given as goal

abbrev pub invariant-loop : goal.invariant-loop
invariant-loop l = length l.rest ≤ length l.bytes
