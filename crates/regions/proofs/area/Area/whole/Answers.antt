use Rattle.regions.proofs.OneProof.{one_area}
use Rattle.regions.proofs.area.Area.whole.Goals as goal

pub returns : goal.returns
returns c = one_area _ _ _ _ _ _ _ _ _ _
