-- The doubled area, as the loop adds it up: what is added, and what is left to add, is the whole, and fits 64 bits.
-- Assumes nothing.
use Prim.Native.Nat.{ℕ, zero, suc, ◌+◌, ◌-◌, ◌*◌, ◌≤◌, ◌<◌, ◌^◌}
use native.Mathlib.Omega.{arith}
use mathlib.Core.Path.{◌≡◌, refl, sym, ap, ap₂, ◌∙◌}
use mathlib.Core.Bool.{true}
use mathlib.Core.List.{List, [], ◌∷◌}
use lib.ListN.{length, take, drop, get_or, drop_of_length-le}
use lib.Seq.{drop-cons, get_or-take, length-take-le}
use lib.IntN.{ℤ, pos, nat_abs, ◌+ℤ◌, ◌-ℤ◌, ◌*ℤ◌, +ℤ_idl, +ℤ_idr, +ℤ_assoc}
use mir.Syntax.{w64}
use mir.Val.{SFits, to_z, of_z}
use mir.ValLaws.{to_z-of_z}
use Rattle.basics.specs.Truth.{and_l, and_r}
use Rattle.basics.specs.Signed.{sum_abs, mag_le}
use Rattle.plane.specs.declared.I32Point.{I32Point}
use Rattle.plane.specs.Domain.{in_domain}
use Rattle.plane.proofs.DomainLaws.{domain_x, domain_y}
use Rattle.plane.specs.Lines.{every, origin}
use Rattle.shapes.specs.Outline.{swept, area_from, doubled_area}
use Rattle.shapes.proofs.Outline.{swept_fits}
use Rattle.reader_outline.specs.Held.{spots, points_in}
use Rattle.reader_outline.proofs.Spots.{spots_room}

pub near : (z : ℤ) → nat_abs z < 2 ^ 63 → SFits w64 z
near z h = record { sfits = omega (arith, mag_le z) }

swept_near : (a b : I32Point) → in_domain a ≡ true → in_domain b ≡ true → SFits w64 (swept a b)
swept_near a b h k = near (swept a b) (omega (arith, swept_fits a b h k))

-- a point's numbers, as they are held
module _ (q : I32Point) (h : in_domain q ≡ true) (z : ℤ) where
  pub size_x : z ≡ q.x → nat_abs z ≤ 18_000_000
  size_x e = rw e (domain_x q h)

  pub size_y : z ≡ q.y → nat_abs z ≤ 9_000_000
  size_y e = rw e (domain_y q h)

-- two products, as they are held, and their difference
module _ (a b : I32Point) (h : in_domain a ≡ true) (k : in_domain b ≡ true) (u v : ℤ) (e : u ≡ a.x *ℤ b.y) (f : v ≡ b.x *ℤ a.y) where
  pub sweep_is : u -ℤ v ≡ swept a b
  unfolding swept
  sweep_is = ap₂ (λ (x y : ℤ). x -ℤ y) e f

  pub sweep_near : SFits w64 (u -ℤ v)
  sweep_near = rw sweep_is (swept_near a b h k)

-- each of the first k points is in the domain
pub domain_at : (m : List ℤ) (k : ℕ) → every in_domain (points_in m k) ≡ true → 2 * k ≤ length m → (i : ℕ) → i < k → in_domain (get_or (spots m) i origin) ≡ true
unfolding points_in
domain_at m k h n i g = go (spots m) k i h g (spots_room k m n)
  where
    go : (l : List I32Point) (k i : ℕ) → every in_domain (take k l) ≡ true → i < k → k ≤ length l → in_domain (get_or l i origin) ≡ true
    go l zero i h g n = absurd (omega arith)
    go [] (suc k) i h g n = absurd (omega arith)
    go (a ∷ l) (suc k) zero h g n = and_l (in_domain a) (every in_domain (take k l)) h
    go (a ∷ l) (suc k) (suc i) h g n = go l k i (and_r (in_domain a) (every in_domain (take k l)) h) (omega arith) (omega arith)

-- ---- the loop
pub record Summing (m : List ℤ) (k : ℕ) (sum : ℤ) (i : ℕ) : Type 0 where
  pub up : 0 < i
  pub size : nat_abs sum ≤ 324_000_000_000_000 * i
  pub all : sum +ℤ area_from (get_or (spots m) (i - 1) origin) (drop i (points_in m k)) ≡ doubled_area (points_in m k)

from_first : (l : List I32Point) (k : ℕ) → area_from (get_or l 0 origin) (drop 1 (take k l)) ≡ doubled_area (take k l)
unfolding doubled_area
from_first l zero = refl
from_first [] (suc k) = refl
from_first (a ∷ l) (suc k) = refl

pub sum_start : (m : List ℤ) (k : ℕ) → Summing m k (pos 0) 1
unfolding points_in
sum_start m k = record {
  up = omega arith;
  size = omega arith;
  all = +ℤ_idl (area_from (get_or (spots m) 0 origin) (drop 1 (points_in m k))) ∙ from_first (spots m) k;
}

module _ (m : List ℤ) (k : ℕ) (sum : ℤ) (i : ℕ) (w : Summing m k sum i) where
  pub sum_end : k ≤ i → sum ≡ doubled_area (points_in m k)
  unfolding points_in
  sum_end h =
      let e : drop i (take k (spots m)) ≡ [] = drop_of_length-le (take k (spots m)) {i = i} (short (spots m) k h) in
      sym (+ℤ_idr sum) ∙ ap (λ (l : List I32Point). sum +ℤ area_from (get_or (spots m) (i - 1) origin) l) (sym e) ∙ w.all
    where
      short : (l : List I32Point) (k : ℕ) → k ≤ i → length (take k l) ≤ i
      short l zero h = omega arith
      short [] (suc k) h = omega arith
      short (a ∷ l) (suc k) h = omega (arith, brief l k)
        where
          brief : (l : List I32Point) (k : ℕ) → length (take k l) ≤ k
          brief l zero = omega arith
          brief [] (suc k) = omega arith
          brief (a ∷ l) (suc k) = omega (arith, brief l k)

  module _ (h : i < k) (n : 2 * k ≤ length m) (small : k ≤ 10_000) (a b : I32Point) (f : a ≡ get_or (spots m) (i - 1) origin) (g : b ≡ get_or (spots m) i origin) (d : every in_domain (points_in m k) ≡ true) where
    pub first_in_law : in_domain a ≡ true
    first_in_law = ap in_domain f ∙ domain_at m k d n (i - 1) (omega (arith, h, w.up))

    pub second_in : in_domain b ≡ true
    second_in = ap in_domain g ∙ domain_at m k d n i h

    -- what is added leaves the sum within 64 bits
    more : nat_abs (sum +ℤ swept a b) ≤ 324_000_000_000_000 * (i + 1)
    more = omega (arith, w.size, sum_abs sum (swept a b), swept_fits a b first_in_law second_in)

    pub sum_near : (y : ℤ) → y ≡ swept a b → SFits w64 (sum +ℤ y)
    sum_near y e = rw e (near (sum +ℤ swept a b) (omega (arith, more, h, small)))

    on : (z : ℤ) → z ≡ sum +ℤ swept a b → Summing m k z (i + 1)
    unfolding points_in
    on z e =
        let l = spots m in
        let c : drop i (take k l) ≡ get_or l i origin ∷ drop (i + 1) (take k l) =
        drop-cons (take k l) i origin (omega (arith, h, length-take-le k l (spots_room k m n)))
        ∙ ap₂ (λ (x : I32Point) (j : ℕ). x ∷ drop j (take k l)) (get_or-take k l i origin h) (one i) in
        record {
          up = omega arith;
          size = omega (arith, more, ap nat_abs e);
          all =
              ap₂ (λ (x : ℤ) (j : ℕ). x +ℤ area_from (get_or l j origin) (drop (i + 1) (take k l))) e (back_one i)
              ∙ +ℤ_assoc sum (swept a b) (area_from (get_or l i origin) (drop (i + 1) (take k l)))
              ∙ ap₂ (λ (x y : I32Point). sum +ℤ (swept x y +ℤ area_from (get_or l i origin) (drop (i + 1) (take k l)))) f g
              ∙ ap (λ (r : List I32Point). sum +ℤ area_from (get_or l (i - 1) origin) r) (sym c)
              ∙ w.all;
        }
      where
        one : (j : ℕ) → suc j ≡ j + 1
        one j = omega arith

        back_one : (j : ℕ) → j + 1 - 1 ≡ j
        back_one j = omega arith

    pub sum_on : (y : ℤ) → y ≡ swept a b → Summing m k (to_z w64 (of_z w64 (sum +ℤ y))) (i + 1)
    sum_on y e = on (to_z w64 (of_z w64 (sum +ℤ y))) (to_z-of_z w64 (sum +ℤ y) (sum_near y e) ∙ ap (λ (x : ℤ). sum +ℤ x) e)
