use Rattle.std.proofs.Common.{[], ◌∷◌, ◌++◌, ◌∙◌, ap₂, arith, w16, SFits, rules}
use Rattle.std.proofs.lemmas.Int.{to_z-of_z}
use Rattle.state.specs.Reply.{cut, coordinates, ending}
use Rattle.terminal.specs.Reply.{content}
use Rattle.terminal.proofs.ReplyLaws.{parts}
use Rattle.terminal.proofs.reply.Reply.position.Goals as goal

pub returns : goal.returns
returns c =
    let t = c.args.terminal.now in
    let p = t.window.position in
    let fx : SFits w16 p.x = search rules in
    let fy : SFits w16 p.y = search rules in
    let before = content c.args.self.now in
    let x = simp to_z-of_z at c.cut.ensures in
    let y = simp to_z-of_z at c.cut-2.ensures in
    let status = content c.append.new.self in
    let at = c.coordinates.ensures.content ∙ ap₂ (λ a b. status ++ coordinates a b) x y in
    let report = parts status (content c.coordinates.new.self) (content c.end.new.self) (coordinates (cut p.x) (cut p.y)) (ending t.setup.terminator) at c.end.ensures.content in
    record {
      content = parts before status (content c.end.new.self) (37 ∷ []) (coordinates (cut p.x) (cut p.y) ++ ending t.setup.terminator) c.append.ensures.content report;
      length = omega (arith, c.append.ensures.length, c.coordinates.ensures.length, c.end.ensures.length);
    }
