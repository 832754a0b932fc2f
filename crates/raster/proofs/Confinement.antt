-- What paints in a region is confined to it, and so is one such drawing after another.
use Rattle.std.proofs.Common.{ℕ, zero, suc, ◌+◌, Bool, true, cond, ℤ, refl, ◌∙◌}
use Rattle.std.proofs.lemmas.Bool.{cond-false, and_right}
use Rattle.plane.specs.Picture.{has}
use Rattle.raster.specs.declared.operation.Operation.{Operation}
use Rattle.raster.specs.declared.region.Region.{Region}
use Rattle.raster.specs.declared.region.Point.{Point}
use Rattle.raster.specs.Region.{inside, painted}
use Rattle.raster.specs.Confined.{Confined, Composes}
use Rattle.raster.specs.Join.{dot, joined}
use Rattle.raster.specs.Line.{steps, point, dotted, lined}

pub confined_same : (o : ℕ → ℕ → Bool) → Confined o (λ p. p)
confined_same o = record { wide = λ p. refl; high = λ p. refl; keeps = λ p u v h. refl; reads = λ p q a. a }

pub composes : Composes
composes o f g cf cg = record {
  wide = λ p. cg.wide (f p) ∙ cf.wide p;
  high = λ p. cg.high (f p) ∙ cf.high p;
  keeps = λ p u v h. cg.keeps (f p) u v h ∙ cf.keeps p u v h;
  reads = λ p q a. cg.reads (f p) (f q) (cf.reads p q a);
}

pub confined_painted : (r : Region) (f : ℤ → ℤ → Bool → Bool) → Confined (inside r) (painted r f)
confined_painted r f = record {
  wide = λ p. refl;
  high = λ p. refl;
  keeps = λ p u v h. cond-false _ _ _ (and_right (has p u v) (inside r u v) h);
  reads = λ p q a. record { wide = a.wide; high = a.high; at = λ u v h. rw (a.wide, a.high, a.at u v h) refl };
}

pub confined_joined : (r : Region) (o : Operation) (s : Bool) (t : Point) → Confined (inside r) (joined r o s t)
confined_joined r o s t = confined_painted r (dot o s t)

confined_dotted : (r : Region) (o : Operation) (at : ℕ → Point) (n : ℕ) → Confined (inside r) (dotted r o at n)
confined_dotted r o at zero = confined_same (inside r)
confined_dotted r o at (suc i) = composes (inside r) (dotted r o at i) (joined r o true (at i)) (confined_dotted r o at i) (confined_joined r o true (at i))

pub confined_lined : (r : Region) (o : Operation) (f t : Point) (last : Bool) → Confined (inside r) (lined r o f t last)
confined_lined r o f t last = confined_dotted r o (point f t) (cond last (steps f t + 1) (steps f t))
