-- THE THEOREM of document 01's "Exact geometry" for one segment: with ends and point in the domain, the ray test in floats (specs/Ray) says what the exact test in whole numbers (plane/specs/Segment, Domain) says.
-- Assumes nothing.
use mathlib.Core.Path.{◌≡◌, sym, ap₂, ◌∙◌}
use mathlib.Core.Bool.{Bool, true, cond}
use Prim.Native.Nat.{◌≤◌}
use native.Mathlib.Nat.{le_trans}
use native.Mathlib.Omega.{arith}
use lib.Dec.{lit≤}
use lib.IntN.{ℤ, pos, negsuc, nat_abs}
use lib.Ieee.{Float, binary64, of_int}
use Rattle.rounding.specs.Ints.{dist}
use Rattle.plane.specs.declared.I32Point.{I32Point}
use Rattle.plane.specs.Sight.{On, Off}
use Rattle.plane.specs.Segment.{seg}
use Rattle.plane.specs.Domain.{in_domain}
use Rattle.rays.specs.Ray.{ray_at, ray_of}
use Rattle.rays.proofs.Floats.{at, ray_naturals}
use Rattle.rays.proofs.Order.{nat, nat_in, nat_at}
use Rattle.rays.proofs.Whole.{Near, on_nat, counts_nat}
use Rattle.plane.specs.Places.{point_of}
use Rattle.plane.proofs.DomainLaws.{domain_x, domain_y}

-- the nudge wants a y that is not too large
low : (z : ℤ) → nat_abs z ≤ 9_000_000 → dist (nat z) 18_000_000 ≤ 0x100_0000
low (pos n) h = omega arith
low (negsuc n) h = omega arith

pub ray_exact : (a b q : I32Point) → in_domain a ≡ true → in_domain b ≡ true → in_domain q ≡ true → ray_of a b (point_of q) ≡ seg q a b
unfolding ray_of seg
ray_exact a b q h k m =
    ap₂ (λ (x y : Float). ray_at x y (of_int binary64 b.x) (of_int binary64 b.y) (of_int binary64 q.x) (of_int binary64 q.y)) (nat_at a.x ax) (nat_at a.y ay)
    ∙ ap₂ (λ (x y : Float). ray_at (at (nat a.x)) (at (nat a.y)) x y (of_int binary64 q.x) (of_int binary64 q.y)) (nat_at b.x bx) (nat_at b.y by)
    ∙ ap₂ (λ (x y : Float). ray_at (at (nat a.x)) (at (nat a.y)) (at (nat b.x)) (at (nat b.y)) x y) (nat_at q.x qx) (nat_at q.y qy)
    ∙ ray_naturals (nat a.x) (nat a.y) (nat b.x) (nat b.y) (nat q.x) (nat q.y) (nat_in a.x ax) (nat_in a.y ay) (nat_in b.x bx) (nat_in b.y by) (nat_in q.x qx) (nat_in q.y qy) (low q.y (domain_y q m))
    ∙ sym (ap₂ (λ (u v : Bool). cond u On (Off v))
    (on_nat a.x a.y b.x b.y q.x q.y ax ay bx by qx qy)
    (counts_nat a.x a.y b.x b.y q.x q.y ax ay bx by qx qy))
  where
    wide : (p : I32Point) → in_domain p ≡ true → Near p.y
    wide p g = le_trans (domain_y p g) (lit≤ tt)

    ax : Near a.x
    ax = domain_x a h

    ay : Near a.y
    ay = wide a h

    bx : Near b.x
    bx = domain_x b k

    by : Near b.y
    by = wide b k

    qx : Near q.x
    qx = domain_x q m

    qy : Near q.y
    qy = wide q m
