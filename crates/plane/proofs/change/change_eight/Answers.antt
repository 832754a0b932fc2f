use Rattle.std.proofs.Common.{◌≡◌, ℕ, ◌/◌, ◌*◌, ◌%◌, ◌+◌, ◌<◌, ◌&&◌, cond, leb, ltb, get_or, sym, ap, ◌∙◌, arith}
use lib.Bits.{bit_and, bit_xor, and_le_r}
use Rattle.plane.specs.Bits.{bit}
use Rattle.plane.specs.Layout.{shown}
use Rattle.plane.specs.Run.{differ}
use Rattle.plane.proofs.BitLaws.{flips_bits, flipped_at}
use Rattle.plane.proofs.ByteLaws.{Eight, in_room, eight_changed, eight_changes}
use Rattle.plane.proofs.MaskLaws.{taken_in}
use Rattle.plane.proofs.change.change_eight.Goals as goal

pub flip-requires : goal.flip-requires
flip-requires g c =
    let a = c.args in
    let law = g.met.C.Cell in
    let many = law.as_many a.memory.now in
    let e : Eight g.C.Cell.HIGH g.C.Cell.place a.across a.up (g.C.Cell.layout a.across a.up) (g.C.Cell.numbers a.memory.now) a.y (a.part.start / 8) c.index-at.result = record { blocks = law.blocks a.across a.up; order = law.order; some = law.tall.0; room = omega arith; row = c.requires.row; column = omega arith; is_at = c.index-at.ensures } in
    omega (arith, in_room e)

pub returns : goal.returns
returns g c =
    let a = c.args in
    let law = g.met.C.Cell in
    let l = g.C.Cell.layout a.across a.up in
    let m = g.C.Cell.numbers a.memory.now in
    let many = law.as_many a.memory.now in
    let at = c.index-at.result in
    let k = a.part.start / 8 in
    let e : Eight g.C.Cell.HIGH g.C.Cell.place a.across a.up l m a.y k at = record { blocks = law.blocks a.across a.up; order = law.order; some = law.tall.0; room = omega arith; row = c.requires.row; column = omega arith; is_at = c.index-at.ensures } in
    let low = 8 * (a.y % g.C.Cell.HIGH) in
    let q = c.flip.ensures.number in
    let n = q.0 in
    let d = bit_and (bit_xor c.eight-old.result c.brought.result) c.places-places.result in
    let here = q.2 in
    let others = q.3 in
    let x0 = a.run.now.start in
    let from = a.part.start in
    let to = a.part.end in
    let f = g.H.Change.becomes a.change.now x0 (shown l m) in
    let is : (i : ℕ) → i < 8 → differ (bit (get_or m at 0) (low + g.C.Cell.place i)) (bit d (g.C.Cell.place i)) ≡ cond (leb from (8 * k + i) && ltb (8 * k + i) to) (f (8 * k + i) (bit (get_or m at 0) (low + g.C.Cell.place i))) (bit (get_or m at 0) (low + g.C.Cell.place i)) = λ i lt.
    let j = g.C.Cell.place i in
    let lj = law.order.below i lt in
    let o = bit (get_or m at 0) (low + j) in
    let t = bit c.places-places.result j in
    let b = bit c.brought.result j in
    let first : 8 * k / 8 ≡ k = omega arith in
    let old : bit c.eight-old.result j ≡ o = c.eight-old.ensures.bits (8 * k) j first lj ∙ ap (λ z. bit (get_or m z 0) (low + j)) (c.index-at.ensures (8 * k) first) in
    taken_in from to k _ _ i (differ o (bit d j)) t b (f (8 * k + i) o) o (c.places-places.ensures i lt) (omega arith) (omega arith) (ap (differ o) (flips_bits c.eight-old.result c.brought.result c.places-places.result j ∙ ap (λ z. differ z b && t) old) ∙ flipped_at t o b) (λ le far. c.brought.ensures i lt (omega arith) (omega arith) ∙ ap (f (8 * k + i)) old) in
    rw q.1 (record {
      length = c.flip.ensures.length;
      picture = eight_changed e n d here others from to f (omega arith) (omega arith) is;
      count = sym (eight_changes e n d here others (omega (arith, and_le_r (bit_xor c.eight-old.result c.brought.result) c.places-places.result)));
    })
