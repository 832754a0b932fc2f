-- A point of a region by the place that it has in the plane.
use Rattle.std.proofs.Common.{◌≡◌, ℕ, Bool, false, cond, ◌&&◌, eqb, sym, refl, ◌∙◌, arith}
use Rattle.std.proofs.lemmas.Bool.Decides.{nat_tests}
use Rattle.plane.specs.Picture.{Picture, has, with_bits}
use Rattle.raster.specs.declared.operation.Operation.{Operation}
use Rattle.raster.specs.declared.region.Region.{Region}
use Rattle.raster.specs.declared.region.Point.{Point}
use Rattle.raster.specs.Operation.{applied}
use Rattle.raster.specs.Region.{among, position, same}
use Rattle.raster.specs.Join.{drawn, joined}
use Rattle.plane.proofs.RunLaws.{agree}

pub regroup : (h i j e f F d : Bool) → cond (h && (i && j)) (cond (e && f) F d) d ≡ cond (h && ((i && e) && (j && f))) F d
regroup h i j e f F d = grind arith

module _ (p : Picture) (r : Region) (o : Operation) (s : Bool) (t : Point) where
  -- the point is at the places that pass both tests
  picked : (sx sy : ℕ → Bool) → ((u : ℕ) → (among r.left r.width u && same (position r.left u) t.x) ≡ sx u) → ((v : ℕ) → (among r.bottom r.height v && same (position r.bottom v) t.y) ≡ sy v) → with_bits p (λ u v. cond (has p u v && (sx u && sy v)) (applied o s (p.at u v)) (p.at u v)) ≡ joined r o s t p
  picked sx sy hx hy =
      agree p _ _ (λ u v. sym (regroup (has p u v) (among r.left r.width u) (among r.bottom r.height v) (same (position r.left u) t.x) (same (position r.bottom v) t.y) (applied o s (p.at u v)) (p.at u v) ∙ rw (hx u, hy v) refl))

  pub joined_at : (x y : ℕ) → ((u : ℕ) → (among r.left r.width u && same (position r.left u) t.x) ≡ eqb u x) → ((v : ℕ) → (among r.bottom r.height v && same (position r.bottom v) t.y) ≡ eqb v y) → drawn o s x y p ≡ joined r o s t p
  joined_at x y hx hy = agree p _ _ (λ a b. grind (arith, nat_tests)) ∙ picked (λ a. eqb a x) (λ b. eqb b y) hx hy

  pub joined_beside : ((u : ℕ) → (among r.left r.width u && same (position r.left u) t.x) ≡ false) → p ≡ joined r o s t p
  joined_beside hx = agree p _ _ (λ a b. grind arith) ∙ picked (λ _. false) _ hx (λ _. refl)

  pub joined_above : ((v : ℕ) → (among r.bottom r.height v && same (position r.bottom v) t.y) ≡ false) → p ≡ joined r o s t p
  joined_above hy = agree p _ _ (λ a b. grind arith) ∙ picked _ (λ _. false) (λ _. refl) hy
