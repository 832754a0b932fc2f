use Rattle.std.proofs.Common.{min, ◌++◌, ◌∙◌, ap₂, arith}
use Rattle.state.specs.Reply.{coordinates, ending}
use Rattle.terminal.specs.Reply.{content}
use Rattle.terminal.proofs.ReplyLaws.{parts}
use Rattle.terminal.proofs.reply.Reply.pointer.Goals as goal

pub returns : goal.returns
returns c =
    let t = c.args.terminal.now in
    let before = content c.args.self.now in
    let at = c.coordinates.ensures.content ∙ ap₂ (λ x y. before ++ coordinates x y) c.min.ensures c.min-2.ensures in
    record {
      content = parts before (content c.coordinates.new.self) (content c.end.new.self) (coordinates (min t.pointer.x 1023) (min t.pointer.y 1023)) (ending t.setup.terminator) at c.end.ensures.content;
      length = omega (arith, c.coordinates.ensures.length, c.end.ensures.length);
    }
