-- A queue of bytes as a line.
use Rattle.std.specs.Prelude.{ℕ, ◌-◌, length}
use Rattle.std.proofs.Common.{ap, ◌∙◌}
use Rattle.std.proofs.Math.Nat.{sub-zero}
use Rattle.queue.specs.Waiting.{waiting, places}
use Rattle.queue.specs.declared.Queue.{Queue}
use Rattle.line.specs.Wire.{Wire, Lawful}

abbrev pub byte_wire : Queue ℕ → Wire
byte_wire q = record { waiting = waiting q; room = places q - length (waiting q); capacity = places q }

pub byte_lawful : (q : Queue ℕ) → Lawful (byte_wire q)
byte_lawful q e = ap (λ ws. places q - length ws) e ∙ sub-zero (places q)
