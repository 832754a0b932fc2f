use Rattle.std.proofs.Common.{◌≡◌, [], ◌++◌, sym, refl, ap, ◌∙◌, arith}
use Rattle.std.proofs.lemmas.List.{append-nil, nil_from_length}
use Rattle.std.specs.Slice.Iter.{chunks_rest}
use Rattle.line.specs.Content.{contents}
use Rattle.line.specs.PacketWire.{in_use, packet_lawful}
use Rattle.line.proofs.packets.PacketsLine.offer.Goals as goal

pub returns-clause-answered : goal.returns-clause-answered
returns-clause-answered c =
    let none = c.in-None.ensures.steps.1.0 in
    let packed = contents (in_use c.loop-part.self) in
    let gone : chunks_rest c.loop-part.part-iterator ≡ [] = nil_from_length _ none in
    record {
      fits = omega (arith, none);
      joins = sym (append-nil packed) ∙ ap (λ bs. packed ++ bs) (sym gone) ∙ c.loop-part.invariant.3;
      falls = omega (arith, none);
      capacity = refl;
      lawful = packet_lawful c.loop-part.self;
    }
