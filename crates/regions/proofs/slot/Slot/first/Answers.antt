use Rattle.std.proofs.Common.{ap}
use native.Mathlib.Bridge.{le_prop}
use Rattle.regions.proofs.OneProof.{slot}
use Rattle.regions.proofs.slot.Slot.first.Goals as goal

pub returns : goal.returns
returns c = ap (slot 0) (le_prop _ _)
