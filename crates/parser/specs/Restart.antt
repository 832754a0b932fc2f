-- Two laws of every state and emulation: ESC begins anew, and some bytes count for nothing.
use Rattle.std.specs.Prelude.{◌≡◌, ◌≢◌, ◌⊎◌, ℕ, ◌≤◌}
use Rattle.parser.specs.Machine.{parsed}
use Rattle.parser.specs.declared.emulation.Emulation.{Emulation}
use Rattle.parser.specs.declared.emulation.Emulation.TheVariants.{Vt52}
use Rattle.parser.specs.declared.machine.State.{State}
use Rattle.parser.specs.declared.machine.State.TheVariants.{Ground}
use Rattle.parser.specs.declared.machine.Dispatch.{Dispatch}
use Rattle.parser.specs.declared.machine.Dispatch.TheVariants.{Nothing}

-- a byte that makes a whole sequence with ESC
abbrev pub Alone : Emulation → ℕ → Type 0
Alone e b = (48 ≤ b) × (b ≤ 126) × (b ≢ 91) × (b ≢ 58) × (e ≡ Vt52 → b ≢ 89)

-- ESC dispatches nothing, and such a byte after it ends on the ground with its dispatch
abbrev pub Restarts : Type 0
Restarts =
    (e : Emulation) (s : State) (b : ℕ) →
    Alone e b →
    ((parsed e s 27).1 ≡ Nothing) × (parsed e (parsed e s 27).0 b ≡ (Ground, Dispatch.Escape b))

-- NUL and what has the eighth bit change nothing and dispatch nothing
abbrev pub Ignores : Type 0
Ignores = (e : Emulation) (s : State) (b : ℕ) → (b ≡ 0) ⊎ (128 ≤ b) → parsed e s b ≡ (s, Nothing)
