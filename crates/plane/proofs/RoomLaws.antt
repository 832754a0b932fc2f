-- From numbers that have room in a memory to the plane that they are.
use Rattle.std.proofs.Common.{◌≡◌, ℕ, ◌<◌, ◌≤◌, min, Bool, List, length, sym, ap, ◌∙◌, ap₂, arith}
use Rattle.std.proofs.lemmas.Bool.{le-leb, cond-true}
use Rattle.plane.specs.Layout.{Layout, given, held, shown}
use Rattle.plane.specs.Picture.{Picture}
use Rattle.plane.specs.Run.{mapped, changes}
use Rattle.plane.proofs.RunLaws.{Done, cut}

module _ (l : Layout) where
  pub all_given : (m : List ℕ) (n : ℕ) → l.cells ≤ length m → given l m n ≡ n
  all_given m n room = cond-true _ _ _ (le-leb l.cells (length m) room)

  held_shown : (m : List ℕ) → l.cells ≤ length m → held l m ≡ shown l m
  held_shown m room = rw (le-leb l.cells (length m) room)

  -- a run done in the numbers, as far as the width, is done in the plane
  pub held_run : (m r : List ℕ) → l.cells ≤ length m → l.cells ≤ length r → (y x0 x1 e n : ℕ) (b : Picture → ℕ → Bool → Bool) → e ≡ min x1 l.wide → x0 < e → Done y x0 e (b (shown l m)) (shown l m) (shown l r) n → Done y x0 x1 (b (held l m)) (held l m) (held l r) n
  held_run m r room roomy y x0 x1 e n b ee lt d =
      let was = sym (held_shown m room) in
      record {
        picture = held_shown r roomy ∙ d.picture ∙ cut y x0 (b (shown l m)) (shown l m) e x1 e ee (omega arith) (omega arith) ∙ ap (λ p. mapped y x0 x1 (b p) p) was;
        count = d.count ∙ ap₂ (changes y) was (sym (held_shown r roomy));
      }
