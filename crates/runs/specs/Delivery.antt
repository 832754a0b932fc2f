-- What a delivery is reported by.
use Rattle.std.specs.Prelude.{ℕ, Some, None, Option}
use Rattle.line.specs.declared.shortage.Shortage.{Shortage}
use Rattle.refusal.specs.Number.{number_of as refusal_number}
use Rattle.refusal.specs.declared.Refusal.TheVariants.{Full}
use Rattle.runs.specs.declared.delivery.Delivery.{Delivery}

-- 0, or the number of a reply without room
abbrev pub number_by : Option Shortage → ℕ
number_by None = 0
number_by (Some e) = refusal_number (Full e.need e.room)

abbrev pub number_of : Delivery → ℕ
number_of d = number_by d.shortage
