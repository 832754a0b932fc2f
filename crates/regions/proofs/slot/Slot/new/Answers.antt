use Rattle.std.proofs.Common.{refl}
use Rattle.regions.proofs.OneProof.{slot_found}
use Rattle.regions.proofs.slot.Slot.new.Goals as goal

pub returns-then-number-lt8 : goal.returns-then-number-lt8
returns-then-number-lt8 c = slot_found c.args.number _ _ refl
