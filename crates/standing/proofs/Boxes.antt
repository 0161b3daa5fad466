-- Of an ordered box the least x, the greatest x, the least y and the greatest y, each held to one bound, put both corners into the domain. Two i32 have the same bits exactly where they are the same number.
-- Assumes nothing.
use Prim.Native.Nat.{ℕ}
use mathlib.Core.Path.{◌≡◌, refl, sym, ap, ap₂, ◌∙◌}
use mathlib.Core.Bool.{Bool, true, false, ◌&&◌}
use borrow.Author.Tests.{eqb-true, eqb-false, eq-eqb}
use lib.Dec.{eqb}
use lib.IntN.{ℤ, pos, negsuc, neg_ℤ}
use lib.Signed.{le_z}
use mir.Syntax.{w32}
use mir.Val.{SFits, to_z, of_z}
use mir.ValLaws.{to_z-of_z}
use Rattle.basics.specs.Truth.{and_l, and_r}
use Rattle.basics.specs.Whole.{le_le, eq_z, eq_z_true}
use Rattle.plane.specs.Domain.{within, in_domain}
use Rattle.boxes.specs.declared.BBox.{BBox}
use Rattle.boxes.specs.Box.{ordered, least, greatest, box_in_domain}

-- ---- the corners
-- a gives c, and d gives b
squeeze : (a b c d : Bool) → (a ≡ true → c ≡ true) → (d ≡ true → b ≡ true) → a && d ≡ (a && b) && (c && d)
squeeze false b c d f g = refl
squeeze true b c true f g = rw (f refl, g refl)
squeeze true false c false f g = refl
squeeze true true false false f g = refl
squeeze true true true false f g = refl

swap : (a b c d : Bool) → (a && b) && (c && d) ≡ (a && c) && (b && d)
swap false b c d = refl
swap true true c d = refl
swap true false true d = refl
swap true false false d = refl

axis : (n : ℕ) (lo hi : ℤ) → le_z lo hi ≡ true → le_z (neg_ℤ (pos n)) lo && le_z hi (pos n) ≡ within n lo && within n hi
axis n lo hi h =
    squeeze (le_z (neg_ℤ (pos n)) lo) (le_z lo (pos n)) (le_z (neg_ℤ (pos n)) hi) (le_z hi (pos n))
    (λ l. le_le (neg_ℤ (pos n)) lo hi l h) (λ l. le_le lo hi (pos n) h l)

-- the four bounds of an ordered box
abbrev pub bounded : BBox → Bool
bounded b =
    (le_z (neg_ℤ (pos 18_000_000)) b.minx && le_z b.maxx (pos 18_000_000))
    && (le_z (neg_ℤ (pos 9_000_000)) b.miny && le_z b.maxy (pos 9_000_000))

pub corners : (b : BBox) → ordered b && bounded b ≡ box_in_domain b
unfolding box_in_domain ordered in_domain
corners b = go (ordered b) refl
  where
    go : (t : Bool) → ordered b ≡ t → t && bounded b ≡ t && (in_domain (least b) && in_domain (greatest b))
    go false e = refl
    go true e =
        ap₂ ◌&&◌
        (axis 18_000_000 b.minx b.maxx (and_l (le_z b.minx b.maxx) (le_z b.miny b.maxy) e))
        (axis 9_000_000 b.miny b.maxy (and_r (le_z b.minx b.maxx) (le_z b.miny b.maxy) e))
        ∙ swap (within 18_000_000 b.minx) (within 18_000_000 b.maxx) (within 9_000_000 b.miny) (within 9_000_000 b.maxy)

-- ---- equal numbers
eq_z_refl : (z : ℤ) → eq_z z z ≡ true
eq_z_refl (pos n) = eq-eqb n n refl
eq_z_refl (negsuc n) = eq-eqb n n refl

module _ (a b : ℤ) (h : SFits w32 a) (k : SFits w32 b) where
  pub same_bits : eqb (of_z w32 a) (of_z w32 b) ≡ eq_z a b
  same_bits = go (eqb (of_z w32 a) (of_z w32 b)) (eq_z a b) refl refl
    where
      go : (t u : Bool) → eqb (of_z w32 a) (of_z w32 b) ≡ t → eq_z a b ≡ u → t ≡ u
      go true u e f =
          let s : a ≡ b = sym (to_z-of_z w32 a h) ∙ ap (to_z w32) (eqb-true (of_z w32 a) (of_z w32 b) e) ∙ to_z-of_z w32 b k in
          sym (ap (eq_z a) (sym s) ∙ eq_z_refl a) ∙ f
      go false true e f = absurd (eqb-false (of_z w32 a) (of_z w32 b) e (ap (of_z w32) (eq_z_true a b f)))
      go false false e f = refl
