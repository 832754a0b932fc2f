use Rattle.std.proofs.Common.{◌∙◌, arith, w16, SFits, rules}
use Rattle.std.proofs.lemmas.Int.{ints, to_z-of_z}
use Rattle.regions.proofs.OneProof.{fitted_here}
use Rattle.regions.proofs.area.Area.new.Goals as goal

pub returns : goal.returns
returns c =
    let q = c.args.rectangle in
    let fx : SFits w16 q.corner.x = search rules in
    let fy : SFits w16 q.corner.y = search rules in
    let fw : SFits w16 q.width = search rules in
    let fh : SFits w16 q.height = search rules in
    (simp to_z-of_z at c.lay.ensures) ∙ fitted_here c.args.plane q.corner.x q.corner.y q.width q.height (omega (arith, ints)) (omega (arith, ints)) (omega (arith, ints)) (omega (arith, ints))
