-- What a reply in the making holds.
use Rattle.std.specs.Prelude.{ℕ, List}
use Rattle.terminal.specs.declared.reply.Reply.{Reply}

abbrev pub content : Reply → List ℕ
content r = r.bytes.items
