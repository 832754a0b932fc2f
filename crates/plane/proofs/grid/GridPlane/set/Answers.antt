use Rattle.std.proofs.Common.{◌≡◌, Bool, ◌+◌, ◌≤◌, length, refl, sym, ap, ◌∙◌, arith}
use Rattle.std.proofs.lemmas.Bool.Decides.{nat_tests}
use Rattle.plane.specs.Layout.{held, shown}
use Rattle.plane.specs.Picture.{put}
use Rattle.plane.specs.Run.{changes, mapped}
use Rattle.plane.proofs.RoomLaws.{all_given, held_run}
use Rattle.plane.proofs.RunLaws.{one_place}
use Rattle.plane.proofs.grid.GridPlane.set.Goals as goal

pub returns-clause-picture : goal.returns-clause-picture
returns-clause-picture g c =
    let a = c.args in
    let s = a.self.now in
    let law = g.met.C.Cell in
    let l = g.C.Cell.layout s.across s.up in
    let m = g.C.Cell.numbers s.memory.now in
    let r = g.C.Cell.numbers c.put_bit.new.memory in
    let did = c.put_bit.ensures in
    let b = law.blocks s.across s.up in
    let room : l.cells ≤ length m = omega (arith, s.room, b.cells, law.as_many s.memory.now) in
    let roomy : l.cells ≤ length r = omega (arith, s.room, b.cells, law.as_many c.put_bit.new.memory, did.length) in
    let w = c.width-width.ensures ∙ all_given l m l.wide room in
    let done : (b : Bool) → shown l r ≡ mapped a.y a.x (a.x + 1) (λ _ _. b) (shown l m) → b ≡ a.bit → held l r ≡ put a.x a.y a.bit (held l m) = λ b is same.
    let d = held_run l m r room roomy a.y a.x (a.x + 1) (a.x + 1) (changes a.y (shown l m) (shown l r)) (λ _ _ _. b) (omega (arith, w)) (omega arith) (record { picture = is; count = refl }) in
    d.picture ∙ sym (one_place (held l m) a.x a.y (λ _ _. b)) ∙ ap (λ t. put a.x a.y t (held l m)) same in
    done _ did.picture (grind (arith, nat_tests))
