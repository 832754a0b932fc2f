-- A plane of the terminal's size.
use Rattle.std.proofs.Common.{◌≡◌, true, eqb}
use Rattle.std.proofs.lemmas.Bool.{and_parts, eqb-true}
use Rattle.plane.specs.Picture.{Picture}
use Rattle.state.specs.declared.terminal.Terminal.{Terminal}
use Rattle.state.specs.Size.{same_size}

pub size_is : (t : Terminal) (p : Picture) → same_size t p ≡ true → (p.wide ≡ t.setup.size.width) × (p.high ≡ t.setup.size.height)
size_is t p e =
    let q = and_parts (eqb p.wide t.setup.size.width) (eqb p.high t.setup.size.height) e in
    (eqb-true _ _ q.0, eqb-true _ _ q.1)
