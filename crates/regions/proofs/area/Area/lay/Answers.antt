use Rattle.std.proofs.Common.{refl}
use Rattle.regions.proofs.OneProof.{area_laid}
use Rattle.regions.proofs.area.Area.lay.Goals as goal

pub returns-then-bottom-height : goal.returns-then-bottom-height
returns-then-bottom-height c = area_laid c.args.plane c.args.region _ _ _ _ _ refl
