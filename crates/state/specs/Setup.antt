-- Terminators by their numbers.
use Rattle.std.specs.Prelude.{ℕ, if◌then◌else◌, Ok, Result, ◌==◌, refl}
use Rattle.refusal.specs.declared.Refusal.{Refusal}
use Rattle.refusal.specs.declared.Refusal.TheVariants.{Terminator as NoTerminator}
use Rattle.refusal.specs.Number.{refused}
use Rattle.state.specs.declared.setup.Terminator.{Terminator}
use Rattle.state.specs.declared.setup.Terminator.TheVariants.{Nothing, Cr, CrEot}

-- 0 is nothing, 1 is CR, 2 is CR EOT
abbrev pub numbered : ℕ → Result Terminator Refusal
numbered n = if n == 0 then Ok Nothing else (if n == 1 then Ok Cr else (if n == 2 then Ok CrEot else refused NoTerminator 3 refl))
