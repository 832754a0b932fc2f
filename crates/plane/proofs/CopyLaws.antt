-- A run copied from another row.
use Rattle.std.proofs.Common.{◌≡◌, ℕ, ◌+◌, ◌-◌, ◌<◌, ◌≤◌, min, Bool, false, cond, ◌&&◌, Ok, Err, sym, ap, ◌∙◌, inl, inr, add-zero, arith}
use Rattle.std.proofs.lemmas.Bool.{cases_lt, cond-false, cond-true, ne_eqb}
use Rattle.std.proofs.lemmas.Bool.Decides.{nat_tests}
use Rattle.refusal.specs.declared.Refusal.{Refusal}
use Rattle.plane.specs.Laws.{other_row}
use Rattle.plane.specs.Picture.{Picture, has, asked}
use Rattle.plane.specs.Run.{on_run, mapped, filled_run, from_row, copied_run, changes}
use Rattle.plane.proofs.CountLaws.{no_change}
use Rattle.plane.proofs.RunLaws.{Done, agree, either, one_longer, was_there, was_outside}

-- only what is done to the places of the run matters
pub same_along : (p : Picture) (f g : ℕ → Bool → Bool) (y x0 x1 : ℕ) → ((u : ℕ) → x0 ≤ u → u < x1 → (old : Bool) → f u old ≡ g u old) → mapped y x0 x1 f p ≡ mapped y x0 x1 g p
same_along p f g y x0 x1 same = agree p (mapped y x0 x1 f p).at (mapped y x0 x1 g p).at point
  where
    off : (u v : ℕ) (h : ℕ → Bool → Bool) → on_run y x0 x1 u v ≡ false → (mapped y x0 x1 h p).at u v ≡ p.at u v
    off u v h e = grind (arith, nat_tests)

    point : (u v : ℕ) → (mapped y x0 x1 f p).at u v ≡ (mapped y x0 x1 g p).at u v
    point u v =
        elim (cases_lt u x0) [
          | inl lt ↦ let e : on_run y x0 x1 u v ≡ false = grind (arith, nat_tests) in off u v f e ∙ sym (off u v g e)
          | inr ge ↦ elim (cases_lt u x1) [
            | inl lt ↦ ap (λ t. cond (has p u v && on_run y x0 x1 u v) t (p.at u v)) (same u ge lt (p.at u v))
            | inr far ↦ let e : on_run y x0 x1 u v ≡ false = grind (arith, nat_tests) in off u v f e ∙ sym (off u v g e)
          ]
        ]

-- q is p copied as far as x, and the next place is asked; the answer comes first, so that what is to be shown is where it was asked
module _ (p q : Picture) (y x0 x sy sx m : ℕ) (ne : sy ≡ y → ⊥) (le : x0 ≤ x) (d : Done y x0 x (from_row p x0 sy sx) p q m) where
  source : (s : ℕ) → asked q s sy ≡ asked p s sy
  source s = rw (d.picture, other_row p (from_row p x0 sy sx) y x0 x s sy ne)

  pub one_copied : {s : ℕ} (b : Bool) (r : Picture) (n : ℕ) → Ok b ≡ asked q s sy → s ≡ x - x0 + sx → r ≡ filled_run y x (x + 1) b q → n ≡ changes y q r → Done y x0 (x + 1) (from_row p x0 sy sx) p r (m + n)
  one_copied {s} b r n e es er en =
      one_longer y x0 (from_row p x0 sy sx) p x q r m n le d (record { picture = er ∙ same_along q (λ _ _. b) (from_row p x0 sy sx) y x (x + 1) same; count = en })
    where
      same : (u : ℕ) → x ≤ u → u < x + 1 → (old : Bool) → b ≡ from_row p x0 sy sx u old
      same u ge lt old =
          let f = was_there (has p s sy) b (p.at s sy) (e ∙ source s) in
          let z : u - x0 + sx ≡ s = omega arith in
          f.1 ∙ sym (rw z (cond-true _ _ _ f.0))

  pub none_copied : {s : ℕ} (f : Refusal) → Err f ≡ asked q s sy → s ≡ x - x0 + sx → Done y x0 (x + 1) (from_row p x0 sy sx) p q m
  none_copied {s} f e es =
      rw (← add-zero m)
      (one_longer y x0 (from_row p x0 sy sx) p x q q m 0 le d (record {
        picture = agree q q.at (mapped y x (x + 1) (λ _ old. old) q).at (λ u v. sym (either (has q u v && on_run y x (x + 1) u v) (q.at u v))) ∙ same_along q (λ _ old. old) (from_row p x0 sy sx) y x (x + 1) same;
        count = sym (no_change y q);
      }))
    where
      same : (u : ℕ) → x ≤ u → u < x + 1 → (old : Bool) → old ≡ from_row p x0 sy sx u old
      same u ge lt old =
          let z : u - x0 + sx ≡ s = omega arith in
          sym (rw z (cond-false _ _ _ (was_outside (has p s sy) (p.at s sy) f (e ∙ source s))))

module _ (p : Picture) (y x0 sy sx : ℕ) where
  -- past n places there is none to change, or none to copy from
  pub copy_cut : (x1 n : ℕ) → n ≡ min (p.wide - sx) (min x1 p.wide - x0) → mapped y x0 (x0 + n) (from_row p x0 sy sx) p ≡ mapped y x0 x1 (from_row p x0 sy sx) p
  copy_cut x1 n en = agree p (mapped y x0 (x0 + n) (from_row p x0 sy sx) p).at (mapped y x0 x1 (from_row p x0 sy sx) p).at (λ u v. point u v)
    where
      point : (u v : ℕ) → (mapped y x0 (x0 + n) (from_row p x0 sy sx) p).at u v ≡ (mapped y x0 x1 (from_row p x0 sy sx) p).at u v
      point u v = grind (arith, nat_tests)

  pub copied_apart : (x1 : ℕ) → (sy ≡ y → ⊥) → mapped y x0 x1 (from_row p x0 sy sx) p ≡ copied_run y x0 x1 sy sx p
  copied_apart x1 ne = sym (cond-false _ _ _ (ne_eqb sy y ne))
