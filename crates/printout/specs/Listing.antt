-- The listing: a line for each row with ink, top first, and a last line.
use Rattle.std.specs.Prelude.{ℕ, zero, suc, if◌then◌else◌, ◌&&◌, List, [], ◌∷◌, ◌++◌, length, drop, Some, None, Ok, Option, Result, nat_le, refl}
use Rattle.columns.specs.declared.line.Line.{Line}
use Rattle.columns.specs.Line.{text_of, small}
use Rattle.columns.specs.Number.{signed, unsigned}
use Rattle.parser.specs.Emulation.{number_of}
use Rattle.plane.specs.Picture.{Picture}
use Rattle.refusal.specs.declared.Refusal.{Refusal}
use Rattle.refusal.specs.declared.Refusal.TheVariants.{PlaneSize, Buffer}
use Rattle.refusal.specs.Number.{refused}
use Rattle.state.specs.declared.terminal.Terminal.{Terminal}
use Rattle.state.specs.Size.{same_size}
use Rattle.printout.specs.declared.ink.Ink.{Ink}
use Rattle.printout.specs.Ink.{row, inked}

-- y, first x, last x, count
abbrev pub row_line : ℕ → Ink → Line
row_line y i = small y i.first i.last i.count

-- the text of a row by its ink
abbrev pub ink_text : ℕ → Option Ink → List ℕ
ink_text y None = []
ink_text y (Some i) = text_of (row_line y i)

-- the text of row y of w pixels: none where it has no ink
abbrev pub row_text : Picture → ℕ → ℕ → List ℕ
row_text p w y = ink_text y (inked (row p y) w)

-- the text of the rows below n, the highest first
abbrev pub rows : Picture → ℕ → ℕ → List ℕ
rows p w zero = []
rows p w (suc y) = row_text p w y ++ rows p w y

-- x, y, emulation, region
abbrev pub last_line : Terminal → Line
last_line t = record { numbers = signed t.window.position.x ∷ signed t.window.position.y ∷ unsigned (number_of t.emulation) ∷ unsigned t.window.number ∷ [] }

abbrev pub text : Terminal → Picture → List ℕ
text t p = rows p t.setup.size.width t.setup.size.height ++ text_of (last_line t)

-- the length of the text; another size is refused first, then a buffer of too few bytes
abbrev pub answer : Terminal → Picture → ℕ → Result ℕ Refusal
answer t p room =
    if same_size t p
    then (if nat_le (length (text t p)) room then Ok (length (text t p)) else refused Buffer 12 refl)
    else refused PlaneSize 4 refl

-- the buffer begins with the text, and its rest stays; where the call is refused all of it does
abbrev pub written : Terminal → Picture → List ℕ → List ℕ
written t p buffer =
    if same_size t p && nat_le (length (text t p)) (length buffer) then text t p ++ drop (length (text t p)) buffer else buffer
