-- What the loop of feed needs, turn by turn.
use Rattle.std.proofs.Common.{◌≡◌, ℕ, ◌+◌, ◌<◌, true, List, [], ◌∷◌, ◌++◌, length, get_or, take, None, ap, ◌∙◌, add-one, arith, take-suc}
use Rattle.keyboard.specs.declared.stroke.Stroke.{Stroke}
use Rattle.state.specs.declared.action.Action.TheVariants.{Key}
use Rattle.state.specs.declared.action.KeyAction.TheVariants.{Hold}
use Rattle.state.specs.declared.terminal.Terminal.{Terminal}
use Rattle.state.specs.Event.{byte, Seen, reading}
use Rattle.state.specs.Reading.{read}
use Rattle.state.specs.Step.{strokes_after}
use Rattle.runs.specs.Calls.{Acts, Works, none, more}
use Rattle.runs.specs.Set.{Set, view, refusal}
use Rattle.state.specs.Size.{same_size}
use Rattle.runs.proofs.Sizes.{admitted, size_performed}
use Rattle.runs.proofs.Sound.{byte_adds_none}

-- a byte after those that have worked
pub works_then : (u : Set) (b : ℕ) {s t : Set} {bs : List ℕ} → Works s bs t → Acts t (byte b) u → Works s (bs ++ (b ∷ [])) u
works_then u b none a = more a none
works_then u b (more c w) a = more c (works_then u b w a)

-- the first n bytes have worked, and the plane still has the terminal's size
pub record SoFar (s : Set) (bs : List ℕ) (n : ℕ) (t : Set) : Type 0 where
  pub works : Works s (take n bs) t
  pub size : same_size t.terminal t.picture ≡ true

-- before the first byte
pub so_far_none : (s : Set) (bs : List ℕ) → refusal s ≡ None → SoFar s bs 0 s
so_far_none s bs e = record { works = none; size = (admitted s e).size }

-- after the next one
pub so_far_more : (s t u : Set) (bs : List ℕ) (n : ℕ) → n < length bs → SoFar s bs n t → Acts t (byte (get_or bs n 0)) u → SoFar s bs (n + 1) u
so_far_more s t u bs n h f a = record {
  works = rw (add-one, take-suc bs n 0) (works_then u (get_or bs n 0) f.works a);
  size =
      ap (λ (v : Seen). same_size v.terminal v.picture) a.sees
      ∙ size_performed (view t) (reading t.terminal (byte (get_or bs n 0)))
      ∙ f.size;
}

-- what a byte calls for never makes a stroke wait
pub byte_never_holds : (t : Terminal) (b : ℕ) (k : Stroke) → (read t b).action ≡ Key (Hold k) → ⊥
byte_never_holds t b k e = omega (arith, byte_adds_none t b [], ap (λ a. length (strokes_after [] a)) e)
