-- The ink of a row of pixels.
use Rattle.std.specs.Prelude.{◌≡◌, ℕ, zero, suc, ◌+◌, ◌<◌, ◌≤◌, Bool, true, if◌then◌else◌, Some, None, Option, ◌==◌, nat_lt}
use Rattle.plane.specs.Picture.{Picture}
use Rattle.plane.specs.Run.{how_many as count}
use Rattle.state.specs.declared.setup.Size.{Size}
use Rattle.printout.specs.declared.ink.Ink.{Ink}

-- row y of a picture
abbrev pub row : Picture → ℕ → ℕ → Bool
row p y x = p.at x y

-- the first of the n places that is set, and the last
abbrev pub first : (ℕ → Bool) → ℕ → ℕ
first f zero = 0
first f (suc n) = if f n then (if count f n == 0 then n else first f n) else first f n

abbrev pub last : (ℕ → Bool) → ℕ → ℕ
last f zero = 0
last f (suc n) = if f n then n else last f n

-- none where no place is set
abbrev pub inked : (ℕ → Bool) → ℕ → Option Ink
inked f n = if count f n == 0 then None else Some (record { first = first f n; last = last f n; count = count f n })

-- the ink with one place more, right of the others
abbrev pub one_more : ℕ → Option Ink → Ink
one_more x None = record { first = x; last = x; count = 1 }
one_more x (Some i) = record i { last = x; count = i.count + 1 }

-- how many rows have ink
abbrev pub inked_rows : Picture → Size → ℕ
inked_rows p s = count (λ y. nat_lt 0 (count (row p y) s.width)) s.height

-- what the words mean: every place that is set lies from the first to the last and counts, and those two are set
pub record Bounds (f : ℕ → Bool) (n x : ℕ) : Type 0 where
  pub counts : 0 < count f n
  pub after_first : first f n ≤ x
  pub before_last : x ≤ last f n
  pub first_set : f (first f n) ≡ true
  pub last_set : f (last f n) ≡ true

abbrev pub Bounded : Type 0
Bounded = (f : ℕ → Bool) (n x : ℕ) → x < n → f x ≡ true → Bounds f n x
