-- The recall bytes make the same terminal of every one.
use Rattle.std.proofs.Common.{◌≡◌, ℕ, ◌<◌, Bool, true, false, List, [], refl, arith}
use Rattle.std.proofs.lemmas.Bool.Decides.{nat_tests}
use Rattle.keyboard.specs.declared.stroke.Stroke.{Stroke}
use Rattle.parser.specs.declared.emulation.Emulation.{Emulation}
use Rattle.parser.specs.declared.machine.State.{State}
use Rattle.parser.specs.declared.machine.State.TheVariants.{Ground, Escape, EscapeIntermediate, Sequence, AddressRow, AddressColumn}
use Rattle.plane.specs.Picture.{Picture}
use Rattle.raster.specs.Clear.{cleared}
use Rattle.state.specs.declared.setup.Setup.{Setup}
use Rattle.state.specs.declared.terminal.Gin.{Gin}
use Rattle.state.specs.declared.terminal.Gin.TheVariants.{Off, On, AfterEscape}
use Rattle.state.specs.declared.terminal.Modes.{Modes}
use Rattle.state.specs.declared.terminal.Place.{Place}
use Rattle.state.specs.declared.terminal.Terminal.{Terminal}
use Rattle.state.specs.declared.window.Window.{Window}
use Rattle.state.specs.Event.{Seen, sight, after}
use Rattle.state.specs.Terminal.{whole, made}
use Rattle.runs.specs.Laws.{recall}
use Rattle.runs.specs.Set.{}
use Rattle.state.specs.Size.{same_size}

-- unlocked and new but for the pointer, on a blank plane, with no stroke waiting
abbrev pub fresh : Setup → Place → Picture → Seen
fresh setup at p = sight (made setup false at) (cleared (whole setup) p) []

-- by what graphics input and the parser may be in the midst of
recalled_from : (setup : Setup) (e : Emulation) (m : Modes) (w : Window) (l : Bool) (at : Place) (p : Picture) (ks : List Stroke) (g : Gin) (st : State) →
    after (sight (record { setup = setup; emulation = e; modes = m; window = w; locked = l; pointer = at; gin = g; parser = record { state = st } }) p ks) recall ≡ fresh setup at p
recalled_from setup e m w l at p ks Off Ground = refl
recalled_from setup e m w l at p ks Off Escape = refl
recalled_from setup e m w l at p ks Off (EscapeIntermediate b) = refl
recalled_from setup e m w l at p ks Off (Sequence list) = refl
recalled_from setup e m w l at p ks Off AddressRow = refl
recalled_from setup e m w l at p ks Off (AddressColumn b) = refl
recalled_from setup e m w l at p ks On st = refl
recalled_from setup e m w l at p ks AfterEscape st = refl

-- from any terminal
pub recalled : (v : Seen) → after v recall ≡ fresh v.terminal.setup v.terminal.pointer v.picture
recalled v =
    recalled_from v.terminal.setup v.terminal.emulation v.terminal.modes v.terminal.window v.terminal.locked v.terminal.pointer
    v.picture v.strokes v.terminal.gin v.terminal.parser.state

-- on a plane of the terminal's size every pixel is 0
pub blank : (t : Terminal) (p : Picture) → same_size t p ≡ true → (x y : ℕ) → x < p.wide → y < p.high → (cleared (whole t.setup) p).at x y ≡ false
blank t p e x y a b = grind (arith, nat_tests)
