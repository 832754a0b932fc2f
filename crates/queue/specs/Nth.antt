-- An element of a list, if the list has so many.
use Rattle.std.specs.Prelude.{ℕ, List, [], ◌∷◌, drop, Some, None, Option}

abbrev pub first : {X : Type 0} → List X → Option X
first [] = None
first (x ∷ xs) = Some x

-- the element behind i others
abbrev pub nth : {X : Type 0} → List X → ℕ → Option X
nth xs i = first (drop i xs)
