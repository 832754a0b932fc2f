-- What installing answers: the size is looked at first, then the terminator.
use Rattle.std.specs.Prelude.{ℕ, if◌then◌else◌, ◌&&◌, Ok, Err, Result, refl}
use Rattle.plane.specs.Memory.{side}
use Rattle.refusal.specs.declared.Refusal.{Refusal}
use Rattle.refusal.specs.declared.Refusal.TheVariants.{Size}
use Rattle.refusal.specs.Number.{refused}
use Rattle.state.specs.declared.setup.Terminator.{Terminator as Ending}
use Rattle.state.specs.declared.terminal.Terminal.{Terminal}
use Rattle.state.specs.Setup.{numbered}
use Rattle.state.specs.Terminal.{new}

abbrev pub with_terminator : ℕ → ℕ → Result Ending Refusal → Result Terminal Refusal
with_terminator w h (Ok t) = Ok (new (record { size = record { width = w; height = h }; terminator = t }))
with_terminator w h (Err r) = Err r

abbrev pub installed : ℕ → ℕ → ℕ → Result Terminal Refusal
installed w h n = if side w && side h then with_terminator w h (numbered n) else refused Size 1 refl
