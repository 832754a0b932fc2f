-- The text of a listing, row by row, and how it comes into a buffer.
use Rattle.std.proofs.Common.{◌≡◌, ℕ, zero, suc, ◌+◌, ◌-◌, ◌*◌, ◌<◌, ◌≤◌, true, false, cond, ltb, leb, List, [], ◌++◌, length, take, drop, Some, None, Ok, Result, sym, refl, ap, ◌∙◌, ap₂, inl, inr, append_assoc, arith, length-append, take-append-drop, length-take-le, drop-drop}
use Rattle.std.proofs.lemmas.Bool.{cases_eq, eq-eqb, ne_eqb, cond-true, cond-false, lt-ltb, le-ltb, le-leb, and_from, and_left, and_right}
use Rattle.std.specs.Result.{result_unwrap_or}
use Rattle.refusal.specs.declared.Refusal.{Refusal}
use Rattle.refusal.specs.declared.Refusal.TheVariants.{PlaneSize, Buffer}
use Rattle.refusal.specs.Number.{refused}
use Rattle.columns.specs.Line.{text_of, answer as line_answer}
use Rattle.plane.specs.Picture.{Picture}
use Rattle.printout.specs.declared.ink.Ink.{Ink}
use Rattle.printout.specs.Ink.{row, inked}
use Rattle.plane.specs.Run.{how_many as count}
use Rattle.state.specs.declared.terminal.Terminal.{Terminal}
use Rattle.state.specs.Size.{same_size}
use Rattle.printout.specs.Listing.{row_line, ink_text, row_text, rows, last_line, text, answer, written}

module _ (p : Picture) (w : ℕ) where
  -- row n - 1 stands before those below
  pub rows_down : (n : ℕ) → 0 < n → rows p w n ≡ row_text p w (n - 1) ++ rows p w (n - 1)
  rows_down zero h = absurd (omega arith)
  rows_down (suc n) h = let e : suc n - 1 ≡ n = omega arith in rw e refl

  pub row_shown : (y : ℕ) (i : Ink) → Some i ≡ inked (row p y) w → row_text p w y ≡ text_of (row_line y i)
  row_shown y i e = ap (ink_text y) (sym e)

  pub row_blank : (y : ℕ) → None ≡ inked (row p y) w → row_text p w y ≡ []
  row_blank y e = ap (ink_text y) (sym e)

  -- there is room for the line of a row that is to come
  pub row_fits : (n : ℕ) (i : Ink) → 0 < n → Some i ≡ inked (row p (n - 1)) w → 25 ≤ length (rows p w n)
  row_fits n i h e =
      omega (arith, ap length (rows_down n h), length-append (row_text p w (n - 1)) (rows p w (n - 1)), ap length (row_shown (n - 1) i e))

  -- every line has 25 bytes
  row_length : (y : ℕ) → length (row_text p w y) ≡ 25 * cond (ltb 0 (count (row p y) w)) 1 0
  row_length y =
      elim (cases_eq (count (row p y) w) 0) [
        | inl e ↦ rw (eq-eqb _ _ e, le-ltb 0 (count (row p y) w) (omega arith)) refl
        | inr e ↦ rw (ne_eqb _ _ e, lt-ltb 0 (count (row p y) w) (omega arith)) refl
      ]

  pub rows_length : (n : ℕ) → length (rows p w n) ≡ 25 * count (λ y. ltb 0 (count (row p y) w)) n
  rows_length zero = refl
  rows_length (suc n) = length-append (row_text p w n) (rows p w n) ∙ omega (arith, row_length n, rows_length n)

  -- the rows that are written, and those to come
  pub row_written : (whole before later line : List ℕ) (n y : ℕ) → n ≡ y + 1 → row_text p w y ≡ line → later ≡ before ++ line → before ++ rows p w n ≡ whole → later ++ rows p w y ≡ whole
  row_written whole before later line n y en el eb e =
      let down : rows p w n ≡ line ++ rows p w y =
      let z : n - 1 ≡ y = omega arith in rows_down n (omega arith) ∙ ap (λ k. row_text p w k ++ rows p w k) z ∙ ap (λ t. t ++ rows p w y) el in
      ap (λ t. t ++ rows p w y) eb ∙ append_assoc before line (rows p w y) ∙ ap (λ t. before ++ t) (sym down) ∙ e

-- a line that fits ends 25 bytes on
pub line_ends : (n at : ℕ) (r : Result ℕ Refusal) → r ≡ line_answer n at → at + 25 ≤ n → r ≡ Ok (at + 25)
line_ends n at r e le = e ∙ cond-true _ _ _ (le-leb (at + 25) n le)

pub line_end : (n at end : ℕ) (r : Result ℕ Refusal) → r ≡ line_answer n at → at + 25 ≤ n → r ≡ Ok end → end ≡ at + 25
line_end n at end r e le is = ap (λ (q : Result ℕ Refusal). result_unwrap_or q 0) (sym is ∙ line_ends n at r e le)

-- where a written part ends
pub so_far : (buffer rest whole : List ℕ) (at : ℕ) → at ≤ length buffer → take at buffer ++ rest ≡ whole → at + length rest ≡ length whole
so_far buffer rest whole at le e = omega (arith, length-take-le at buffer le, length-append (take at buffer) rest, ap length e)

-- what lies past it stays
pub past : (b c e : List ℕ) (at n : ℕ) → drop (at + n) c ≡ drop (at + n) b → drop at b ≡ drop at e → drop (at + n) c ≡ drop (at + n) e
past b c e at n p q = p ∙ sym (drop-drop n at b) ∙ ap (drop n) q ∙ drop-drop n at e

-- the rows and then the last line
module _ (t : Terminal) (p : Picture) where
  abbrev above : List ℕ
  above = rows p t.setup.size.width t.setup.size.height

  abbrev closing : List ℕ
  closing = text_of (last_line t)

  pub text_length : length above + 25 ≡ length (text t p)
  text_length = sym (length-append above closing)

  -- b0 is the buffer at first, b1 with the rows, b2 with all
  pub all_written : (b0 b1 b2 : List ℕ) (at : ℕ) → at ≡ length above → take at b1 ≡ above → drop at b1 ≡ drop at b0 → take (at + 25) b2 ≡ take at b1 ++ closing → drop (at + 25) b2 ≡ drop (at + 25) b1 → b2 ≡ text t p ++ drop (length (text t p)) b0
  all_written b0 b1 b2 at ea et ed ft fd =
      let end : at + 25 ≡ length (text t p) = ap (λ n. n + 25) ea ∙ text_length in
      sym (take-append-drop (at + 25) b2) ∙ ap₂ (λ x y. x ++ y) (ft ∙ ap (λ x. x ++ closing) et) (past b1 b2 b0 at 25 fd ed ∙ ap (λ n. drop n b0) end)

  -- a call that goes through, and one that does not
  module _ (buffer : List ℕ) (fits : same_size t p ≡ true) where
    pub roomy : leb (length above + 25) (length buffer) ≡ true → (Ok (length above + 25) ≡ answer t p (length buffer)) × (text t p ++ drop (length (text t p)) buffer ≡ written t p buffer)
    roomy room =
        let enough : leb (length (text t p)) (length buffer) ≡ true = ap (λ n. leb n (length buffer)) (sym text_length) ∙ room in
        (ap Ok text_length ∙ sym (cond-true _ _ _ enough) ∙ sym (cond-true _ _ _ fits), sym (cond-true _ _ _ (and_from _ _ fits enough)))

    pub tight : leb (length above + 25) (length buffer) ≡ false → (refused Buffer 12 refl ≡ answer t p (length buffer)) × (buffer ≡ written t p buffer)
    tight room =
        let short : leb (length (text t p)) (length buffer) ≡ false = ap (λ n. leb n (length buffer)) (sym text_length) ∙ room in
        (sym (cond-false _ _ _ short) ∙ sym (cond-true _ _ _ fits), sym (cond-false _ _ _ (and_right _ _ short)))

  pub unlike : (buffer : List ℕ) → same_size t p ≡ false → (refused PlaneSize 4 refl ≡ answer t p (length buffer)) × (buffer ≡ written t p buffer)
  unlike buffer other = (sym (cond-false _ _ _ other), sym (cond-false _ _ _ (and_left _ _ other)))
