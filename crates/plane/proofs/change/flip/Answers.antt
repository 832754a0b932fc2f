use Rattle.std.proofs.Common.{◌≡◌, length-set, get_or, sym, ap, ◌∙◌}
use Rattle.plane.proofs.change.flip.Goals as goal

pub returns : goal.returns
returns g c =
    let m = c.args.memory.now in
    let at = c.args.at in
    let law = g.met.C.Cell in
    let read : g.C.Cell.number c.index-memory-at.result ≡ get_or (g.C.Cell.numbers m) at 0 = ap g.C.Cell.number c.index-memory-at.is ∙ sym (law.read m at c.index-memory-at.result c.requires) in
    record {
      length = length-set m at c.flipped.result;
      number = (g.C.Cell.number c.flipped.result, law.written m at c.flipped.result, λ j lt. rw (← read) (c.flipped.ensures.here j lt), λ j lt ne. rw (← read) (c.flipped.ensures.others j lt ne));
    }
