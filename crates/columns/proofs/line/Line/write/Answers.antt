-- The line's text stands at its place, and around it the buffer is as it was.
use Rattle.std.proofs.Common.{◌≡◌, ◌+◌, ◌-◌, ◌≤◌, ◌++◌, length, take, refl, ap, ◌∙◌, arith}
use Rattle.std.proofs.lemmas.Grind.{common_steps}
use Rattle.std.proofs.lemmas.Slice.{take-put_mid, drop-put_mid}
use Rattle.std.proofs.lemmas.Bool.Decides.{nat_tests}
use Rattle.columns.specs.Line.{text_of}
use Rattle.columns.proofs.line.Line.write.Goals as goal

pub returns : goal.returns
returns c =
    let at = c.args.at in
    let before = c.args.buffer.now in
    let part = c.copy_from_slice.new.self in
    let is : part ≡ text_of c.args.self.now = c.copy_from_slice.ensures.after ∙ c.text.ensures in
    let long : length part ≡ 25 = grind (arith, common_steps) in
    let ends : at + 25 ≤ length before = omega arith in
    let width = at + 25 - at in
    record { answer = grind (arith, nat_tests); kept = λ h. let no : ⊥ = omega arith in elim no [ ]; text = λ h. take-put_mid at width before part (at + 25) (omega arith) (omega arith) ∙ ap (λ t. take at before ++ t) is; rest = drop-put_mid at width before part (at + 25) (omega arith) (omega arith) (omega arith); worked = refl }
