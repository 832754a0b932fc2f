use Rattle.std.proofs.Common.{sym, ap, ◌∙◌}
use Rattle.queue.specs.Waiting.{waiting}
use Rattle.state.specs.Reply.{reply_of}
use Rattle.terminal.proofs.reply.Reply.of.Goals as goal

pub returns-in-Gin : goal.returns-in-Gin
returns-in-Gin c =
    let ks = waiting c.args.strokes.now in
    let e = c.graphics_input.ensures in
    record { content = e.content ks ∙ ap (reply_of c.args.terminal.now ks) (sym c.in-Gin.is); length = e.length }

pub returns-in-Key : goal.returns-in-Key
returns-in-Key c =
    let ks = waiting c.args.strokes.now in
    let e = c.key.ensures in
    record { content = e.content ks ∙ ap (reply_of c.args.terminal.now ks) (sym c.in-Key.is); length = e.length }
