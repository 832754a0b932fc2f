-- How the pixels of a plane lie in a memory of numbers.
use Rattle.std.specs.Prelude.{◌≡◌, ℕ, ◌+◌, ◌-◌, ◌*◌, ◌/◌, ◌%◌, ◌<◌, Bool, false, if◌then◌else◌, ◌&&◌, List, length, nat_le, nat_lt, slice_index}
use Rattle.std.proofs.Common.{ap}
use Rattle.plane.specs.Bits.{bit}
use Rattle.plane.specs.Memory.{fits}
use Rattle.plane.specs.Picture.{Picture, has}
use Rattle.plane.specs.Run.{how_many}

-- (x, y) is bit `nth x y` of number `cell x y`, and there are `cells` numbers
pub record Layout : Type 0 where
  pub wide : ℕ
  pub high : ℕ
  pub cells : ℕ
  pub cell : ℕ → ℕ → ℕ
  pub nth : ℕ → ℕ → ℕ

-- rows of s bytes each, the top row first, the leftmost pixel in bit 7
abbrev pub rows : ℕ → ℕ → Layout
rows s h = record { wide = 8 * s; high = h; cells = s * h; cell = λ x y. (h - 1 - y) * s + x / 8; nth = λ x y. 7 - x % 8 }

-- tiles of 8 by 8 pixels, s side by side, r of these rows, the lowest first
abbrev pub tiles : ℕ → ℕ → Layout
tiles s r = record { wide = 8 * s; high = 8 * r; cells = s * r; cell = λ x y. y / 8 * s + x / 8; nth = λ x y. 8 * (y % 8) + x % 8 }

-- an order of the eight pixels that lie side by side in a number: each has a bit of eight
pub record Order (place : ℕ → ℕ) : Type 0 where
  pub below : (i : ℕ) → i < 8 → place i < 8
  pub as_many : (f : ℕ → Bool) → how_many (λ i. f (place i)) 8 ≡ how_many f 8

-- a layout of s numbers side by side and r rows of them, each of h rows of eight pixels: every pixel lies in one of the numbers, and no two are the same bit
pub record Blocks (h : ℕ) (place : ℕ → ℕ) (s r : ℕ) (l : Layout) : Type 0 where
  pub wide : l.wide ≡ 8 * s
  pub high : l.high ≡ h * r
  pub cells : l.cells ≡ s * r
  pub nth : (x y : ℕ) → l.nth x y ≡ 8 * (y % h) + place (x % 8)
  pub inside : (x y : ℕ) → x < l.wide → y < l.high → l.cell x y < l.cells
  pub apart : (u v x y : ℕ) → u < l.wide → v < l.high → x < l.wide → y < l.high → l.cell u v ≡ l.cell x y → l.nth u v ≡ l.nth x y → (u ≡ x) × (v ≡ y)

-- n where the memory has room for the layout, else 0
abbrev pub given : Layout → List ℕ → ℕ → ℕ
given l m n = if nat_le l.cells (length m) then n else 0

-- the picture that a memory holds, of size 0 by 0 where it has no room
abbrev pub held : Layout → List ℕ → Picture
held l m = record {
  wide = given l m l.wide;
  high = given l m l.high;
  at = λ x y. (nat_lt x (given l m l.wide) && nat_lt y (given l m l.high)) && bit (slice_index m (l.cell x y)) (l.nth x y);
}

-- the picture that a memory with room holds
abbrev pub shown : Layout → List ℕ → Picture
shown l m = record {
  wide = l.wide;
  high = l.high;
  at = λ x y. (nat_lt x l.wide && nat_lt y l.high) && bit (slice_index m (l.cell x y)) (l.nth x y);
}

pub held_dark : (l : Layout) (m : List ℕ) (x y : ℕ) → has (held l m) x y ≡ false → (held l m).at x y ≡ false
held_dark l m x y out = ap (λ t. t && bit (slice_index m (l.cell x y)) (l.nth x y)) out

abbrev pub nothing : Picture
nothing = record { wide = 0; high = 0; at = λ _ _. false }

-- the plane of w by h that is made on memory of bytes, or of tiles: of size 0 by 0 where the memory fails the check
abbrev pub made_of_bytes : ℕ → ℕ → List ℕ → Picture
made_of_bytes w h m = if fits w h 8 (length m) then held (rows (w / 8) h) m else nothing

abbrev pub made_of_tiles : ℕ → ℕ → List ℕ → Picture
made_of_tiles w h m = if fits w h 64 (length m) then held (tiles (w / 8) (h / 8)) m else nothing
