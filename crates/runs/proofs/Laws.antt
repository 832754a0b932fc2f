-- The three laws over whole runs of calls.
use Rattle.std.proofs.Common.{◌≡◌, ℕ, zero, suc, ◌+◌, ◌<◌, Bool, false, ltb, List, [], ◌∷◌, ◌++◌, map, length, Some, None, Ok, Option, Err, Result, sym, refl, ap, ◌∙◌, ap₂, ⊎_elim, arith, length-append}
use mathlib.Core.Path.{fun_ext}
use mathlib.Core.List.{cons-ne-nil}
use Rattle.std.proofs.lemmas.Bool.{cases_Bool, and_parts, ltb-true}
use Rattle.plane.specs.Picture.{Picture, has}
use Rattle.raster.specs.Confined.{Alike}
use Rattle.refusal.specs.declared.Refusal.{Refusal}
use Rattle.state.specs.declared.setup.Setup.{Setup}
use Rattle.state.specs.declared.terminal.Terminal.{Terminal}
use Rattle.state.specs.Event.{Event, byte, Seen, sight, reading, reply, after, replies}
use Rattle.state.specs.Terminal.{made}
use Rattle.runs.specs.declared.delivery.Delivery.{Delivery}
use Rattle.line.specs.declared.shortage.Shortage.{Shortage}
use Rattle.runs.specs.Calls.{Works, none, more, Took, Fed}
use Rattle.runs.specs.Laws.{from_new, ByRules, SameStart, Agree, TakesFirst, recall, LikeNew, Recall, counted, DifferOnly, AddEqual, Spared, Cut}
use Rattle.runs.specs.Run.{Run, Installed}
use Rattle.runs.specs.Set.{Set, view, refusal}
use Rattle.runs.proofs.Confine.{unchanged, stay_alike, unseen_terminal, unseen_strokes, unseen_replies}
use Rattle.runs.proofs.Recalling.{fresh, recalled, blank}
use Rattle.runs.proofs.ReplyBound.{reply_fits}
use Rattle.runs.proofs.Sizes.{Sized, admitted, never_for_room, setup_over, size_over, sized_run}
use Rattle.runs.proofs.Sound.{Sound, sound, sound_installed}
use Rattle.runs.proofs.Tracks.{tracks, after_append}

-- what the rules see of an installed set
seen_new : (setup : Setup) (s : Set) → Installed setup s → view s ≡ from_new setup s.picture
seen_new setup s i = ap₂ (λ t ks. sight t s.picture ks) i.terminal i.strokes

-- any run from an installed set
obeys : (setup : Setup) (s s' : Set) (es : List Event) (ds : List ℕ) → Installed setup s → Run s es ds s' → ByRules setup s.picture es s' ds
obeys setup s s' es ds i r =
    let sees : view s' ≡ after (from_new setup s.picture) es = (tracks r).sees ∙ ap (λ v. after v es) (seen_new setup s i) in
    record {
      terminal = ap (λ (v : Seen). v.terminal) sees;
      strokes = ap (λ (v : Seen). v.strokes) sees;
      picture = ap (λ (v : Seen). v.picture) sees;
      bytes = (tracks r).adds ∙ ap₂ (λ (w : List ℕ) (v : Seen). w ++ replies v es) i.nothing_waits (seen_new setup s i);
    }

-- a picture by its parts
abbrev sheet : ℕ → ℕ → (ℕ → ℕ → Bool) → Picture
sheet w h f = record { wide = w; high = h; at = f }

-- beyond the size both pictures are dark
same_bits : (setup : Setup) (s t : Set) → Installed setup s → Installed setup t → SameStart s t → (x y : ℕ) → s.picture.at x y ≡ t.picture.at x y
same_bits setup s t i j e x y =
    let p = s.picture in
    let q = t.picture in
    ⊎_elim
    (λ on. let both = and_parts (ltb x p.wide) (ltb y p.high) on in e.pixels x y (ltb-true x p.wide both.0) (ltb-true y p.high both.1))
    (λ off. let beyond : has q x y ≡ false = rw (← e.wide, ← e.high) off in i.dark x y off ∙ sym (j.dark x y beyond))
    (cases_Bool (has p x y))

one_picture : (setup : Setup) (s t : Set) → Installed setup s → Installed setup t → SameStart s t → s.picture ≡ t.picture
one_picture setup s t i j e =
    ap₂ (λ w h. sheet w h s.picture.at) e.wide e.high
    ∙ ap (λ f. sheet t.picture.wide t.picture.high f) (fun_ext (λ x. fun_ext (λ y. same_bits setup s t i j e x y)))

-- equal events give equal terminals
pub agree : Agree
agree setup s s' t t' es ds gs i j same r q =
    let a = obeys setup s s' es ds i r in
    let b : ByRules setup s.picture es t' gs = rw (one_picture setup s t i j same) (obeys setup t t' es gs j q) in (
      record {
        terminal = a.terminal ∙ sym b.terminal;
        strokes = a.strokes ∙ sym b.strokes;
        picture = a.picture ∙ sym b.picture;
        bytes = a.bytes ∙ sym b.bytes;
      },
      a,
    )

-- no byte, no change
no_byte : {s t : Set} {bs : List ℕ} → Works s bs t → bs ≡ [] → t ≡ s
no_byte none e = refl
no_byte (more {b = b} {bs = bs} a w) e = absurd (cons-ne-nil b bs e)

-- an idle line of 64 places has room for any reply
first_taken : (s u : Set) (b : ℕ) (bs : List ℕ) (n : ℕ) (o : Option Shortage) → Sound s → s.line.waiting ≡ [] → refusal s ≡ None → Took s (b ∷ bs) n o u → 0 < n
first_taken s u b bs n None h e free f = omega (arith, f.0)
first_taken s u b bs (suc n) (Some short) h e free f = omega arith
first_taken s u b bs zero (Some short) h e free f =
    let same : u ≡ s = no_byte f.1 refl in
    let ok = admitted s free in
    let fits = reply_fits s.terminal s.strokes (reading s.terminal (byte b)).action (omega (arith, ok.places, h.fit)) in
    let idle = h.lawful e in
    let need_is : short.need ≡ length (reply (view s) (byte b)) = f.2.0 ∙ ap (λ (x : Set). length (reply (view x) (byte b))) same in
    let room_is : short.room ≡ s.line.room = f.2.1 ∙ ap (λ (x : Set). x.line.room) same in
    absurd (omega (arith, fits, ok.capacity, idle, need_is, room_is, f.2.2))

first_fits : (s u : Set) (b : ℕ) (bs : List ℕ) (a : Result Delivery Refusal) → Sound s → s.line.waiting ≡ [] → Fed s (b ∷ bs) a u → TakesFirst a
first_fits s u b bs (Err r) h e f = never_for_room s r f.0
first_fits s u b bs (Ok d) h e f = first_taken s u b bs d.taken d.shortage h e f.0 f.1

-- a run that ends with the recall bytes
after_recall : (setup : Setup) (s s' : Set) (es : List Event) (ds : List ℕ) → Installed setup s → Run s es ds s' → (before : List Event) → es ≡ before ++ recall → LikeNew setup s'
after_recall setup s s' es ds i r before e =
    let v = after (view s) before in
    let some : es ≡ [] → ⊥ = λ n. let z : ◌≡◌ {A = ℕ} (length before + 6) 0 = sym (length-append before recall) ∙ ap length (sym e ∙ n) in omega arith in
    let sized : Sized s = ⊎_elim (λ n. absurd (some n)) (λ x. x) (sized_run r) in
    let sees : view s' ≡ fresh v.terminal.setup v.terminal.pointer v.picture = (tracks r).sees ∙ ap (after (view s)) e ∙ after_append (view s) before recall ∙ recalled v in
    let is : v.terminal.setup ≡ setup = setup_over (view s) before ∙ ap (λ (t : Terminal). t.setup) i.terminal in
    let wide : s'.picture.wide ≡ v.picture.wide = ap (λ (u : Seen). u.picture.wide) sees in
    let high : s'.picture.high ≡ v.picture.high = ap (λ (u : Seen). u.picture.high) sees in
    record {
      pixels = λ x y a b.
          ap (λ (u : Seen). u.picture.at x y) sees
          ∙ blank v.terminal v.picture (size_over (view s) before ∙ sized) x y (omega arith) (omega arith);
      strokes = ap (λ (u : Seen). u.strokes) sees;
      terminal = ap (λ (u : Seen). u.terminal) sees ∙ ap₂ (λ m at. made m false at) is (sym (ap (λ (u : Seen). u.terminal.pointer) sees));
    }

-- a first byte is taken, and recall restores
pub recalls : Recall
recalls setup s s' es ds i r =
    (λ b bs a u e f. first_fits s' u b bs a (sound r (sound_installed setup s i)) e f, λ before e. after_recall setup s s' es ds i r before e)

-- two runs of the same events on sets that differ in pixels that do not count
compared : (s s' t t' : Set) (es : List Event) (ds gs : List ℕ) → Run s es ds s' → Run t es gs t' → DifferOnly (counted (view s) es) s t →
    AddEqual s s' ds t t' gs × DifferOnly (counted (view s) es) s' t'
compared s s' t t' es ds gs r q d =
    let ours = (tracks r).sees in
    let other : view t ≡ sight s.terminal t.picture s.strokes = ap₂ (λ a b. sight a t.picture b) (sym d.terminal) (sym d.strokes) in
    let theirs : view t' ≡ after (sight s.terminal t.picture s.strokes) es = (tracks q).sees ∙ ap (λ v. after v es) other in
    let start : Alike (counted (view s) es) s.picture t.picture = record { wide = d.wide; high = d.high; at = d.pixels } in
    let alike = stay_alike (counted (view s) es) s.terminal s.strokes es s.picture t.picture (λ _ _ i. i) start in (
      record {
        added = replies (view s) es;
        first = (tracks r).adds;
        second =
            (tracks q).adds
            ∙ ap (λ (v : Seen). t.line.waiting ++ replies v es) other
            ∙ ap (λ b. t.line.waiting ++ b) (unseen_replies s.terminal s.strokes es t.picture s.picture);
      },
      record {
        terminal = ap (λ (v : Seen). v.terminal) ours ∙ unseen_terminal s.terminal s.strokes es _ _ ∙ sym (ap (λ (v : Seen). v.terminal) theirs);
        face = (tracks r).face ∙ d.face ∙ sym (tracks q).face;
        strokes = ap (λ (v : Seen). v.strokes) ours ∙ unseen_strokes s.terminal s.strokes es _ _ ∙ sym (ap (λ (v : Seen). v.strokes) theirs);
        wide = ap (λ (v : Seen). v.picture.wide) ours ∙ alike.wide ∙ sym (ap (λ (v : Seen). v.picture.wide) theirs);
        high = ap (λ (v : Seen). v.picture.high) ours ∙ alike.high ∙ sym (ap (λ (v : Seen). v.picture.high) theirs);
        pixels = λ x y c. ap (λ (v : Seen). v.picture.at x y) ours ∙ alike.at x y c ∙ sym (ap (λ (v : Seen). v.picture.at x y) theirs);
      },
    )

-- what does not count is neither changed nor read
pub spared : Spared
spared setup s₀ s s' es₀ es ds₀ ds i r₀ r = (
  λ x y c. ap (λ (v : Seen). v.picture.at x y) (tracks r).sees ∙ unchanged (view s) es x y c,
  λ other t₀ t t' fs₀ gs₀ gs j q₀ q d. compared s s' t t' es ds gs r q d,
)

-- deliveries of the same bytes are the same events
pub cut : Cut
cut setup s s' t t' bytes ds gs i j same r q = (agree setup s s' t t' (map byte bytes) ds gs i j same r q).0
