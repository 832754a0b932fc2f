use Rattle.std.proofs.Common.{◌≡◌, ℕ, ◌+◌, ◌*◌, ◌/◌, ◌%◌, ◌<◌, true, false, ◌&&◌, cond, leb, ltb, get_or, sym, refl, ap, ◌∙◌, inl, inr, arith}
use Rattle.std.proofs.lemmas.Bool.{cases_eq, cond-false, cond-true}
use Rattle.std.proofs.lemmas.Bool.Decides.{nat_tests}
use Rattle.plane.specs.Bits.{bit}
use Rattle.plane.specs.Run.{differ}
use Rattle.plane.proofs.BitLaws.{stays}
use Rattle.plane.proofs.ByteLaws.{Eight, in_room, eight_changed}
use Rattle.plane.proofs.change.put_bit.Goals as goal

-- the place of x in its eight, and the others
here : (x i : ℕ) → i ≡ x % 8 → (leb x (8 * (x / 8) + i) && ltb (8 * (x / 8) + i) (x + 1)) ≡ true
here x i e = grind (arith, nat_tests)

elsewhere : (x i : ℕ) → i < 8 → (i ≡ x % 8 → ⊥) → (leb x (8 * (x / 8) + i) && ltb (8 * (x / 8) + i) (x + 1)) ≡ false
elsewhere x i lt ne = grind (arith, nat_tests)

pub flip-requires : goal.flip-requires
flip-requires g c =
    let a = c.args in
    let law = g.met.C.Cell in
    let many = law.as_many a.memory.now in
    let e : Eight g.C.Cell.HIGH g.C.Cell.place a.across a.up (g.C.Cell.layout a.across a.up) (g.C.Cell.numbers a.memory.now) a.y (a.x / 8) c.index-at.result = record { blocks = law.blocks a.across a.up; order = law.order; some = law.tall.0; room = omega arith; row = c.requires.inside.1; column = omega arith; is_at = c.index-at.ensures } in
    omega (arith, in_room e)

pub returns : goal.returns
returns g c =
    let a = c.args in
    let law = g.met.C.Cell in
    let l = g.C.Cell.layout a.across a.up in
    let m = g.C.Cell.numbers a.memory.now in
    let many = law.as_many a.memory.now in
    let at = c.index-at.result in
    let k = a.x / 8 in
    let p = g.C.Cell.place (a.x % 8) in
    let e : Eight g.C.Cell.HIGH g.C.Cell.place a.across a.up l m a.y k at = record { blocks = law.blocks a.across a.up; order = law.order; some = law.tall.0; room = omega arith; row = c.requires.inside.1; column = omega arith; is_at = c.index-at.ensures } in
    let low = 8 * (a.y % g.C.Cell.HIGH) in
    let q = c.flip.ensures.number in
    let d = c.flips_to-flips.result in
    let was : c.bit_at-old.result ≡ bit (get_or m at 0) (low + p) = c.bit_at-old.ensures.bit ∙ ap (λ z. bit (get_or m z 0) (low + p)) (c.index-at.ensures a.x refl) in
    let is : (i : ℕ) → i < 8 → differ (bit (get_or m at 0) (low + g.C.Cell.place i)) (bit d (g.C.Cell.place i)) ≡ cond (leb a.x (8 * k + i) && ltb (8 * k + i) (a.x + 1)) a.wanted (bit (get_or m at 0) (low + g.C.Cell.place i)) = λ i lt.
    let o = bit (get_or m at 0) (low + g.C.Cell.place i) in
    elim (cases_eq i (a.x % 8)) [
      | inl same ↦
          let done : differ o (bit d (g.C.Cell.place i)) ≡ a.wanted = rw same (ap (λ z. differ z (bit d p)) (sym was) ∙ (rw c.place.ensures at c.flips_to-flips.ensures.here)) in
          done ∙ sym (cond-true _ a.wanted o (here a.x i same))
      | inr other ↦
          let u = 8 * k + i in
          let eu : u / 8 ≡ k = omega arith in
          let em : u % 8 ≡ i = omega arith in
          let apart : g.C.Cell.place i ≡ p → ⊥ = λ f. other (
          let r = e.blocks.apart u a.y a.x a.y (omega (arith, e.blocks.wide)) (omega (arith, e.blocks.high)) (omega (arith, e.blocks.wide)) (omega (arith, e.blocks.high)) (e.is_at u eu ∙ sym (e.is_at a.x refl)) (e.blocks.nth u a.y ∙ ap (λ t. low + g.C.Cell.place t) em ∙ ap (λ t. low + t) f ∙ sym (e.blocks.nth a.x a.y)) in
          omega (arith, r.0)) in
          stays o _ (c.flips_to-flips.ensures.others (g.C.Cell.place i) (law.order.below i lt) (λ f. apart (f ∙ c.place.ensures))) ∙ sym (cond-false _ a.wanted o (elsewhere a.x i lt other))
    ] in
    rw q.1 (record {
      length = c.flip.ensures.length;
      picture = eight_changed e q.0 d q.2 q.3 a.x (a.x + 1) (λ _ _. a.wanted) (omega arith) (omega arith) is;
    })
