-- What is painted in a region, by the places of the plane.
use Rattle.std.proofs.Common.{◌≡◌, ℕ, Bool, cond, ◌&&◌, ℤ, sym, refl, ap, ◌∙◌}
use Rattle.plane.specs.Picture.{Picture, has, with_bits}
use Rattle.plane.proofs.RunLaws.{agree}
use Rattle.raster.specs.declared.region.Region.{Region}
use Rattle.raster.specs.Region.{among, position, inside, painted}
use Rattle.raster.proofs.JoinLaws.{regroup}

-- painted where both coordinates pass a test: these are the places that pass sx and sy
module _ (p : Picture) (r : Region) (ex ey : ℤ → Bool) (f : ℤ → ℤ → Bool → Bool) where
  pub picked : (sx sy : ℕ → Bool) → ((u : ℕ) → (among r.left r.width u && ex (position r.left u)) ≡ sx u) → ((v : ℕ) → (among r.bottom r.height v && ey (position r.bottom v)) ≡ sy v) → with_bits p (λ u v. cond (has p u v && (sx u && sy v)) (f (position r.left u) (position r.bottom v) (p.at u v)) (p.at u v)) ≡ painted r (λ a b d. cond (ex a && ey b) (f a b d) d) p
  picked sx sy hx hy =
      agree p _ _ (λ u v. sym (regroup (has p u v) (among r.left r.width u) (among r.bottom r.height v) (ex (position r.left u)) (ey (position r.bottom v)) (f (position r.left u) (position r.bottom v) (p.at u v)) (p.at u v) ∙ rw (hx u, hy v) refl))

module _ (p : Picture) (r : Region) where
  pub painted_same : (f g : ℤ → ℤ → Bool → Bool) → ((a b : ℤ) (d : Bool) → f a b d ≡ g a b d) → painted r f p ≡ painted r g p
  painted_same f g e = agree p _ _ (λ u v. ap (λ t. cond (has p u v && inside r u v) t (p.at u v)) (e (position r.left u) (position r.bottom v) (p.at u v)))
