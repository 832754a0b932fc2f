-- What a stroke that is not refused has.
use Rattle.std.proofs.Common.{◌≡◌, ℕ, Bool, true, false, cond, not, ◌&&◌, ◌||◌, ltb, leb, Some, None, Option, sym, refl, arith}
use Rattle.std.proofs.lemmas.Bool.{leb-false}
use Rattle.keyboard.specs.declared.stroke.Stroke.{Stroke}
use Rattle.refusal.specs.declared.Refusal.{Refusal}
use Rattle.refusal.specs.declared.Refusal.TheVariants.{Key, QueueFull}
use Rattle.runs.specs.Calls.{in_gin, own_refusal}
use Rattle.state.specs.declared.terminal.Gin.{Gin}
use Rattle.state.specs.declared.terminal.Gin.TheVariants.{Off, On, AfterEscape}
use Rattle.state.specs.declared.terminal.Terminal.{Terminal}
use Rattle.state.specs.Reading.{stroke_action}
use Rattle.terminal.specs.Work.{Holds}

-- a refusal is none
some_none : {X : Type 0} {r : Refusal} → ◌≡◌ {A = Option Refusal} (Some r) None → X
some_none e = absurd (let z : ◌≡◌ {A = ℕ} 0 1 = cc in omega arith)

holds : (gin : Gin) (locked high : Bool) (k : Stroke) (waits places : ℕ) → cond high (Some Key) (cond ((locked && not (in_gin gin)) && leb places waits) (Some QueueFull) None) ≡ None → Holds (stroke_action gin locked k) waits places
holds Off false high k waits places e = tt
holds Off true true k waits places e = some_none e
holds Off true false k waits places e = leb-false places waits (free (leb places waits) e)
  where
    free : (full : Bool) → ◌≡◌ {A = Option Refusal} (cond full (Some QueueFull) None) None → full ≡ false
    free true e = some_none e
    free false e = refl
holds On locked high k waits places e = tt
holds AfterEscape locked high k waits places e = tt

pub stroke_holds : (t : Terminal) (k : Stroke) (number waits places : ℕ) → None ≡ own_refusal t number waits places → Holds (stroke_action t.gin t.locked k) waits places
stroke_holds t k number waits places e = holds t.gin t.locked (ltb 149 number || (in_gin t.gin && ltb 127 number)) k waits places (sym e)
