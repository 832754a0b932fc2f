-- What a parsed byte calls for.
use Rattle.std.specs.Prelude.{ℕ, if◌then◌else◌, List, ℤ, pos, ◌==◌, slice_index_or}
use Rattle.parser.specs.declared.machine.Dispatch.{Dispatch}
use Rattle.parser.specs.declared.machine.Dispatch.TheVariants.{Print, Execute, Intermediate, Address, Sequence}
use Rattle.parser.specs.Parameters.{is_colon}
use Rattle.raster.specs.declared.region.Point.{Point}
use Rattle.state.specs.declared.action.Action.{Action}
use Rattle.state.specs.declared.action.Action.TheVariants.{Nothing, Control, Draw, Gin}
use Rattle.state.specs.declared.action.Control.TheVariants.{Acknowledge, Report, Reset}
use Rattle.state.specs.declared.action.Drawing.TheVariants.{Move, Line}
use Rattle.state.specs.declared.action.GinAction.TheVariants.{Enter}

abbrev pub first_two : List ℤ → Point
first_two values = record { x = slice_index_or values 0 (pos 0); y = slice_index_or values 1 (pos 0) }

-- after ESC : the bytes m and d move and draw to the point of the first two parameters
abbrev pub drawing_of : List ℤ → ℕ → Action
drawing_of values last = if last == 109 then Draw (Move (first_two values)) else (if last == 100 then Draw (Line (first_two values)) else Nothing)

-- ESC ENQ reports, ESC SUB begins graphics input, ESC c makes all new
abbrev pub escaped : ℕ → Action
escaped last = if last == 5 then Control Report else (if last == 26 then Gin Enter else (if last == 99 then Control Reset else Nothing))

-- ETX is acknowledged
abbrev pub executed : ℕ → Action
executed b = if b == 3 then Control Acknowledge else Nothing

-- what is not listed does nothing
abbrev pub called_for : Dispatch → Action
called_for Dispatch.Nothing = Nothing
called_for (Print byte) = Nothing
called_for (Execute byte) = executed byte
called_for (Dispatch.Escape last) = escaped last
called_for (Intermediate first last) = Nothing
called_for (Address row column) = Nothing
called_for (Sequence introducer values last) = if is_colon introducer then drawing_of values last else Nothing
