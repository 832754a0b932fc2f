use Rattle.std.proofs.Common.{sym, ◌∙◌}
use Rattle.regions.proofs.OneProof.{size_measured}
use Rattle.regions.proofs.size.Size.new.Goals as goal

pub returns : goal.returns
returns c = size_measured c.args.width c.args.height _ _ _ _ c.in_ok-check_size.field-0 (sym (c.in_ok-check_size.was {u = tt}) ∙ c.check_size.ensures)
