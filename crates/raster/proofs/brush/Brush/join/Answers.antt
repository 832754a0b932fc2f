use Rattle.std.proofs.Common.{◌∙◌, w16, SFits, rules}
use Rattle.std.proofs.lemmas.Int.{to_z-of_z}
use Rattle.raster.proofs.Confinement.{confined_joined}
use Rattle.raster.proofs.JoinLaws.{joined_at, joined_beside, joined_above}
use Rattle.raster.proofs.brush.Brush.join.Goals as goal

pub returns-in_default : goal.returns-in_default
returns-in_default g c =
    let a = c.args in
    let b = a.self in
    let fx : SFits w16 a.at.x = search rules in
    record { picture = joined_beside _ b.region b.operation a.source a.at (simp to_z-of_z at (rw c.columns.ensures at c.in_default.ensures)); confined = confined_joined b.region b.operation a.source a.at }

pub returns-in_default-place : goal.returns-in_default-place
returns-in_default-place g c =
    let a = c.args in
    let b = a.self in
    let fy : SFits w16 a.at.y = search rules in
    record { picture = joined_above _ b.region b.operation a.source a.at (simp to_z-of_z at (rw c.rows.ensures at c.in_default-place.ensures)); confined = confined_joined b.region b.operation a.source a.at }

pub returns : goal.returns
returns g c =
    let a = c.args in
    let b = a.self in
    let fx : SFits w16 a.at.x = search rules in
    let fy : SFits w16 a.at.y = search rules in
    record {
      picture = c.draw.ensures ∙ joined_at _ b.region b.operation a.source a.at c.in-Some.u c.in-Some-place.v (simp to_z-of_z at (rw c.columns.ensures at c.in-Some.ensures)) (simp to_z-of_z at (rw c.rows.ensures at c.in-Some-place.ensures));
      confined = confined_joined b.region b.operation a.source a.at;
    }
