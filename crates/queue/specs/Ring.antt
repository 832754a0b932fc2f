-- Places in a ring: after the last one comes the first.
use Rattle.std.specs.Prelude.{ℕ, ◌+◌, ◌-◌, if◌then◌else◌, List, ◌++◌, take, drop, nat_lt}

-- the place behind i others, if the first of them is at `head` of so many
abbrev pub place : ℕ → ℕ → ℕ → ℕ
place size head i = if nat_lt i (size - head) then head + i else i - (size - head)

-- the n elements from the place `head` on
abbrev pub ring : {X : Type 0} → List X → ℕ → ℕ → List X
ring items head n = take n (drop head items ++ items)
