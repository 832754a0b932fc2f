use Rattle.std.proofs.Common.{◌≡◌, ◌*◌, ◌/◌, ◌≤◌, false, length, sym, ◌∙◌, arith}
use Rattle.std.proofs.lemmas.Bool.{cond-false}
use Rattle.plane.specs.Memory.{fits}
use Rattle.plane.proofs.MemoryLaws.{fit, held_nothing, room_in, unfit}
use Rattle.plane.proofs.grid.Grid.new.Goals as goal

pub returns-then-is_err-clause-picture : goal.returns-then-is_err-clause-picture
returns-then-is_err-clause-picture g c =
    let a = c.args in
    let law = g.met.C.Cell in
    let m = g.C.Cell.numbers a.memory.now in
    let b = law.blocks 0 0 in
    let no_fit : fits a.width a.height (8 * g.C.Cell.HIGH) (length m) ≡ false = rw (law.as_many a.memory.now) (unfit a.width a.height (8 * g.C.Cell.HIGH) _ (length a.memory.now) c.check_memory.result c.check_memory.ensures c.if-is_err.ensures.value (grind (arith, law.tall.1))) in
    held_nothing (g.C.Cell.layout 0 0) m (omega (arith, b.wide)) (omega (arith, b.high)) ∙ sym (cond-false _ _ _ no_fit) ∙ sym (law.makes a.width a.height m)

pub invariant_of-result-2 : goal.invariant_of-result-2
invariant_of-result-2 g c =
    let a = c.args in
    let room : a.width / 8 * (a.height / g.C.Cell.HIGH) ≤ length a.memory.now = omega (arith, fit a.width a.height (8 * g.C.Cell.HIGH) _ c.check_memory.result c.check_memory.ensures c.if-is_err.ensures.value, room_in a.width a.height g.C.Cell.HIGH g.met.C.Cell.tall.0) in
    record { room = grind arith }
