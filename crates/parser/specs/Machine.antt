-- What one byte does to the machine, by the byte's kind.
use Rattle.std.specs.Prelude.{Bool, true, false, if◌then◌else◌, ◌&&◌, ◌||◌, ℕ, nat_le, nat_lt, ◌==◌}
use Rattle.parser.specs.Emulation.{is_vt52}
use Rattle.parser.specs.Parameters.{fresh, grown, negated, stored, closed, may_negate, may_mark}
use Rattle.parser.specs.declared.emulation.Emulation.{Emulation}
use Rattle.parser.specs.declared.parameters.Introducer.TheVariants.{Bracket, Private, Colon}
use Rattle.parser.specs.declared.parameters.Parameters.{Parameters}
use Rattle.parser.specs.declared.machine.State.{State}
use Rattle.parser.specs.declared.machine.State.TheVariants.{Ground, Escape, EscapeIntermediate, AddressRow, AddressColumn}
use Rattle.parser.specs.declared.machine.Dispatch.{Dispatch}
use Rattle.parser.specs.declared.machine.Dispatch.TheVariants.{Nothing, Print, Execute, Intermediate, Address}

abbrev pub within : ℕ → ℕ → ℕ → Bool
within a b x = nat_le a x && nat_le x b

-- bytes that are no part of any sequence
abbrev pub inert : ℕ → Bool
inert b = b == 0 || nat_le 128 b

abbrev pub is_control : ℕ → Bool
is_control b = nat_lt b 32 || b == 127

abbrev pub is_escape : State → Bool
is_escape Escape = true
is_escape _ = false

-- ENQ, FF and SUB make a whole sequence with ESC
abbrev pub pairs : ℕ → Bool
pairs b = b == 5 || b == 12 || b == 26

-- ESC begins a sequence anew; another control ends the one that is read and acts, but for three after ESC
abbrev pub controlled : State → ℕ → State × Dispatch
controlled s b =
    if b == 27 then (Escape, Nothing) else if is_escape s && pairs b then (Ground, Dispatch.Escape b) else (Ground, Execute b)

abbrev pub escaped : Emulation → ℕ → State × Dispatch
escaped e b =
    if nat_le b 47 then (EscapeIntermediate b, Nothing)
    else if b == 91 then (State.Sequence (fresh Bracket), Nothing)
    else if b == 58 then (State.Sequence (fresh Colon), Nothing)
    else if b == 89 && is_vt52 e then (AddressRow, Nothing)
    else (Ground, Dispatch.Escape b)

-- 64 to 126 end the sequence; what fits nowhere cancels it
abbrev pub parametric : Parameters → ℕ → State × Dispatch
parametric p b =
    if nat_le 64 b then (Ground, Dispatch.Sequence p.introducer (stored p) b)
    else if within 48 57 b then (State.Sequence (grown p b), Nothing)
    else if b == 59 then (State.Sequence (closed p), Nothing)
    else if b == 45 && may_negate p then (State.Sequence (negated p), Nothing)
    else if b == 63 && may_mark p then (State.Sequence (fresh Private), Nothing)
    else (Ground, Nothing)

-- 32 to 126 print, or go on with a sequence
abbrev pub continued : Emulation → State → ℕ → State × Dispatch
continued e Ground b = (Ground, Print b)
continued e Escape b = escaped e b
continued e (EscapeIntermediate first) b = (Ground, Intermediate first b)
continued e (State.Sequence p) b = parametric p b
continued e AddressRow b = (AddressColumn b, Nothing)
continued e (AddressColumn row) b = (Ground, Address row b)

abbrev pub parsed : Emulation → State → ℕ → State × Dispatch
parsed e s b =
    if inert b then (s, Nothing) else if is_control b then controlled s b else continued e s b
