use Rattle.std.proofs.Common.{rules}
use borrow.Author.Rules.{get_or_read}
use lib.Seq.{set-get_or}
use Rattle.regions.proofs.regions.Regions.erase.Goals as goal

pub returns : goal.returns
returns g c = record { same = search (rules, set-get_or); picture = search (rules, get_or_read) }
