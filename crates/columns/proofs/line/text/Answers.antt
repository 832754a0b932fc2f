-- One more field stands behind those that are written, and the LF stays where it is.
use Rattle.std.proofs.Common.{◌≡◌, ℕ, ◌+◌, ◌-◌, ◌*◌, ◌<◌, false, List, ◌++◌, length, get_or, take, sym, refl, ap, ap₂, ◌∙◌, arith}
use Rattle.std.proofs.lemmas.Grind.{flat_map-append}
use Rattle.std.proofs.lemmas.List.{take_more}
use Rattle.std.proofs.lemmas.Slice.{take-put_mid, drop-put_mid}
use Rattle.columns.specs.Line.{fields}
use Rattle.columns.specs.Number.{columns_of}
use Rattle.columns.specs.declared.number.Number.{Number}
use Rattle.columns.proofs.line.text.Goals as goal

-- the fields of one number more
one_more : (xs : List Number) (i : ℕ) (d : Number) → i < length xs → fields (take (i + 1) xs) ≡ fields (take i xs) ++ columns_of (get_or xs i d)
one_more xs i d h = rw (take_more xs i d h, flat_map-append) refl

pub loop-i-preserved : goal.loop-i-preserved
loop-i-preserved c =
    let l = c.loop-i in
    let at = 6 * l.i in
    let text = l.text in
    let width = at + 6 - at in
    let part = c.copy_from_slice.new.self in
    let known : length c.args.numbers.now ≡ 4 = c.told-numbers in
    let is : part ≡ columns_of (get_or c.args.numbers.now l.i (record { negative = false; magnitude = 0 })) = c.copy_from_slice.ensures.after ∙ c.columns.ensures.text in
    let six : length part ≡ 6 = ap length is in
    record {
      written = take-put_mid at width text part (6 * (l.i + 1)) (omega arith) (omega arith) ∙ ap₂ (λ x y. x ++ y) l.invariant.written is ∙ sym (one_more c.args.numbers.now l.i _ (omega arith));
      last = drop-put_mid at width text part 24 (omega arith) (omega arith) (omega arith) ∙ l.invariant.last;
    }
