use Rattle.std.proofs.Common.{true, ◌∙◌, w16, SFits, rules}
use Rattle.std.proofs.lemmas.Int.{to_z-of_z}
use Rattle.raster.specs.Operation.{applied}
use Rattle.raster.specs.Region.{among}
use Rattle.raster.specs.Rectangle.{spans}
use Rattle.raster.proofs.FillLaws.{confined_filled}
use Rattle.raster.proofs.PaintLaws.{picked}
use Rattle.raster.proofs.brush.Brush.fill.Goals as goal

pub returns : goal.returns
returns g c =
    let b = c.args.self in
    let t = c.args.rectangle in
    let x = c.span-columns in
    let y = c.span-rows in
    let f1 : SFits w16 t.corner.x = search rules in
    let f2 : SFits w16 t.corner.y = search rules in
    let f3 : SFits w16 t.width = search rules in
    let f4 : SFits w16 t.height = search rules in
    record {
      picture = c.cover.ensures ∙ picked (g.P.Plane.picture c.args.plane.now) b.region (spans t.corner.x t.width) (spans t.corner.y t.height) (λ _ _. applied b.operation true) (among x.result.start x.result.count) (among y.result.start y.result.count) (simp to_z-of_z at (rw c.columns-columns.ensures at x.ensures.picks)) (simp to_z-of_z at (rw c.rows-rows.ensures at y.ensures.picks));
      confined = confined_filled b.region b.operation t;
    }
