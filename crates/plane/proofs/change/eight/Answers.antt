use Rattle.std.proofs.Common.{◌*◌, ◌%◌, ◌+◌, ap, ◌∙◌, arith}
use Rattle.plane.specs.Bits.{bit}
use Rattle.plane.proofs.ByteLaws.{bit_shown}
use Rattle.plane.proofs.change.eight.Goals as goal

pub returns : goal.returns
returns g c =
    let a = c.args in
    let law = g.met.C.Cell in
    let m = g.C.Cell.numbers a.memory.now in
    let low = 8 * (a.y % g.C.Cell.HIGH) in
    record {
      bits = λ x j ex lt. c.eight.ensures j lt ∙ ap (λ n. bit n (low + j)) (c.cell_of.ensures x ex);
      shown = λ x ex. c.eight.ensures (g.C.Cell.place (x % 8)) (law.order.below (x % 8) (omega arith)) ∙ ap (λ n. bit n (low + g.C.Cell.place (x % 8))) (c.cell_of.ensures x ex) ∙ bit_shown (law.blocks a.across a.up) m x a.y (omega arith) c.requires.inside.1;
    }
