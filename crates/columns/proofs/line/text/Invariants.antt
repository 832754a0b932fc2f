-- Where the fields end that are written, and the LF behind all four.
use Rattle.std.proofs.Common.{◌≡◌, ◌*◌, [], ◌∷◌, take, drop}
use Rattle.columns.specs.Line.{fields}
use Rattle.columns.proofs.line.text.Given as goal

abbrev pub invariant-loop-i : goal.invariant-loop-i
invariant-loop-i l = record { written : take (6 * l.i) l.text ≡ fields (take l.i l.numbers); last : drop 24 l.text ≡ 10 ∷ [] }
