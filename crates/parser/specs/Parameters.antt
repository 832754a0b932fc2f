-- What each byte of a parameter does to those that are read.
use Rattle.std.specs.Prelude.{Bool, true, false, if◌then◌else◌, ◌&&◌, Some, None, is_none, List, replicate, ℕ, ◌+◌, ◌-◌, ◌*◌, min, nat_lt, ◌==◌, ℤ, pos, neg_ℤ, set}
use Rattle.std.specs.Option.{unwrap_or}
use Rattle.parser.specs.declared.parameters.Introducer.{Introducer}
use Rattle.parser.specs.declared.parameters.Introducer.TheVariants.{Bracket, Colon}
use Rattle.parser.specs.declared.parameters.Parameter.{Parameter}
use Rattle.parser.specs.declared.parameters.Parameters.{Parameters}

abbrev pub fresh : Introducer → Parameters
fresh i = record { introducer = i; values = replicate 8 (pos 0); index = 0; reading = None }

-- before its sign or first digit a parameter is 0
abbrev pub current : Parameters → Parameter
current p = unwrap_or p.reading (record { negative = false; magnitude = 0 })

-- a digit joins the magnitude, which stops at 4,095
abbrev pub extended : Parameter → ℕ → Parameter
extended r d = record r { magnitude = min 4095 (r.magnitude * 10 + d) }

abbrev pub grown : Parameters → ℕ → Parameters
grown p b = record p { reading = Some (extended (current p) (b - 48)) }

abbrev pub negated : Parameters → Parameters
negated p = record p { reading = Some (record (current p) { negative = true }) }

abbrev pub signed : Bool → ℕ → ℤ
signed true m = neg_ℤ (pos m)
signed false m = pos m

abbrev pub value_of : Parameter → ℤ
value_of r = signed r.negative (min 4095 r.magnitude)

-- the parameter's value
abbrev pub value : Parameters → ℤ
value p = value_of (current p)

-- the parameter is kept, unless eight are
abbrev pub stored : Parameters → List ℤ
stored p = if nat_lt p.index 8 then set p.values p.index (value p) else p.values

abbrev pub closed : Parameters → Parameters
closed p = record p { values = stored p; index = (if nat_lt p.index 8 then p.index + 1 else p.index); reading = None }

abbrev pub is_colon : Introducer → Bool
is_colon Colon = true
is_colon _ = false

abbrev pub is_bracket : Introducer → Bool
is_bracket Bracket = true
is_bracket _ = false

-- '-' stands first in a parameter after ESC ':'
abbrev pub may_negate : Parameters → Bool
may_negate p = is_colon p.introducer && is_none p.reading

-- '?' stands directly after ESC '['
abbrev pub may_mark : Parameters → Bool
may_mark p = is_bracket p.introducer && p.index == 0 && is_none p.reading
