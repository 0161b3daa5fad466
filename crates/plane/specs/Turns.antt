-- Points that are told the same are the same. The laws of the exact test stand in proofs/Turns.
use Rattle.std.specs.Prelude.{◌≡◌, refl, Bool, true, ℤ}
use Rattle.std.proofs.Math.Path.{ap₂}
use Rattle.std.proofs.Math.Bool.{false, ◌&&◌}
use Rattle.std.proofs.lemmas.Bool.{false≢true}
use Rattle.plane.specs.declared.I32Point.{I32Point}
use Rattle.plane.specs.Segment.{same_point}
use Rattle.basics.specs.Whole.{eq_z, eq_z_true}

pub same_true : (a b : I32Point) → same_point a b ≡ true → a ≡ b
unfolding same_point
same_true a b h = go (eq_z a.x b.x) (eq_z a.y b.y) refl refl h
  where
    go : (s t : Bool) → eq_z a.x b.x ≡ s → eq_z a.y b.y ≡ t → s && t ≡ true → a ≡ b
    go true true e f h = ap₂ (λ (u v : ℤ). record { x = u; y = v }) (eq_z_true a.x b.x e) (eq_z_true a.y b.y f)
    go true false e f h = absurd (false≢true h)
    go false t e f h = absurd (false≢true h)
