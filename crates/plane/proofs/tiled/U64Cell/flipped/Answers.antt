use Rattle.std.proofs.Common.{◌+◌, ◌*◌, ◌%◌, ◌^◌, ap, ◌∙◌, arith}
use Rattle.std.proofs.lemmas.Nat.{shl_whole}
use Rattle.plane.specs.Bits.{bit}
use Rattle.plane.specs.Run.{differ}
use Rattle.plane.proofs.BitLaws.{bit_of_xor, bit_of_shifted, bit_outside, stays}
use Rattle.plane.proofs.tiled.U64Cell.flipped.Goals as goal

pub returns-clause-here : goal.returns-clause-here
returns-clause-here c j lt =
    let n = c.args.self in
    let d = c.args.flips in
    let low = 8 * (c.args.y % 8) in
    rw (shl_whole d 8 low 64 (omega arith) (omega arith)) (bit_of_xor n (d * 2 ^ low) (low + j) ∙ ap (differ (bit n (low + j))) (bit_of_shifted d low j))

pub returns-clause-others : goal.returns-clause-others
returns-clause-others c j lt ne =
    let n = c.args.self in
    let d = c.args.flips in
    let low = 8 * (c.args.y % 8) in
    rw (shl_whole d 8 low 64 (omega arith) (omega arith)) (bit_of_xor n (d * 2 ^ low) j ∙ stays (bit n j) _ (bit_outside d low j (omega arith) (λ a b. ne (omega arith))))
