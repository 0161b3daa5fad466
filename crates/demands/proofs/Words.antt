-- A position lies in document 01's domain. A zone's exact meaning as a test (shapes, `zone_in`) and in words (specs/Words, `InZone`): the one says yes exactly when the other holds.
-- Assumes nothing.
use Prim.Native.Nat.{ℕ, zero, suc, ◌≤◌}
use native.Mathlib.Omega.{arith}
use mathlib.Core.Path.{◌≡◌, refl, sym, ap, ◌∙◌}
use mathlib.Core.Bool.{Bool, true, false, not, ◌&&◌, ◌||◌, cond, false≢true}
use mathlib.Core.List.Memᴰ
use mathlib.Core.List.{List, [], ◌∷◌, Memᴰ}
use mathlib.Core.Logic.{◌↔◌, ◌⊎◌, inl, inr}
use borrow.Author.Tests.{le-leb}
use lib.Dec.{leb}
use lib.IntN.{ℤ, pos, negsuc, nat_abs}
use Rattle.basics.specs.Truth.{and_i, and_l, and_r}
use Rattle.plane.specs.declared.I32Point.{I32Point}
use Rattle.plane.specs.Segment.{seg}
use Rattle.plane.specs.Domain.{within, in_domain}
use Rattle.plane.specs.Lines.{some}
use Rattle.shapes.specs.Shapes.{Ring, Polygon, Zone, ring_in, polygon_in, zone_in}
use Rattle.shapes.specs.Words.{ring_sides, on_any, counted, odd}
use Rattle.shapes.proofs.Words.{ring_in_words}
use Rattle.demands.specs.Words.{Position, OnRing, Inside, InPolygon, InZone}

-- ---- a position lies in the domain
in_span_law : (n : ℕ) (z : ℤ) → nat_abs z ≤ n → within n z ≡ true
in_span_law zero (pos m) h = and_i (leb zero m) (leb m zero) (le-leb zero m (omega arith)) (le-leb m zero h)
in_span_law zero (negsuc m) h = absurd (omega arith)
in_span_law (suc n) (pos m) h = le-leb m (suc n) h
in_span_law (suc n) (negsuc m) h = rw (le-leb m n (omega arith))

pub position_in : (p : Position) → in_domain p.at ≡ true
unfolding in_domain
position_in p =
    let q = p.at in
    and_i (within 18_000_000 q.x) (within 9_000_000 q.y) (in_span_law 18_000_000 q.x p.longitude) (in_span_law 9_000_000 q.y p.latitude)

-- ---- some element of a list
module _ {A : Type 0} (P : A → Bool) where
  pub some_is : (l : List A) → some P l ≡ true → (a : A) × Memᴰ a l × (P a ≡ true)
  some_is [] h = absurd (false≢true h)
  some_is (a ∷ r) h = either (P a) refl h (some_is r)
    where
      either : (b : Bool) → P a ≡ b → b || some P r ≡ true → (some P r ≡ true → (x : A) × Memᴰ x r × (P x ≡ true)) → (x : A) × Memᴰ x (a ∷ r) × (P x ≡ true)
      either true e k later = (a, Memᴰ.head refl, e)
      either false e k later = let t = later k in (t.0, Memᴰ.tail t.1, t.2)

  pub is_some : (l : List A) (a : A) → Memᴰ a l → P a ≡ true → some P l ≡ true
  is_some [] a m h = absurd (Memᴰ.not-nil m)
  is_some (b ∷ r) a m h = either (Memᴰ.cases_cons m) (λ n. is_some r a n h)
    where
      or_right : (x y : Bool) → y ≡ true → x || y ≡ true
      or_right true y k = refl
      or_right false y k = k

      either : (a ≡ b) ⊎ Memᴰ a r → (Memᴰ a r → some P r ≡ true) → P b || some P r ≡ true
      either (inl e) later = ap (λ (t : Bool). t || some P r) (ap P (sym e) ∙ h)
      either (inr n) later = or_right (P b) (some P r) (later n)

  -- none does
  pub none_is : (l : List A) → not (some P l) ≡ true → (a : A) → Memᴰ a l → P a ≡ true → ⊥
  none_is l h a m k = false≢true (ap not (sym (is_some l a m k)) ∙ h)

  pub is_none : (l : List A) → ((a : A) → Memᴰ a l → P a ≡ true → ⊥) → not (some P l) ≡ true
  is_none l f = either (some P l) refl
    where
      either : (b : Bool) → some P l ≡ b → not b ≡ true
      either true e = let t = some_is l e in absurd (f t.0 t.1 t.2)
      either false e = refl

module _ (q : I32Point) where
  -- ---- a ring
  module _ (r : Ring) where
    abbrev on : Bool
    on = on_any (seg q) (ring_sides r)

    abbrev odds : Bool
    odds = odd (counted (seg q) (ring_sides r))

    pub outer_in_words : (ring_in (seg q) true r ≡ true) ↔ (OnRing q r ⊎ Inside q r)
    outer_in_words = (λ h. go on refl (sym (ring_in_words (seg q) true r) ∙ h), λ w. ring_in_words (seg q) true r ∙ back w)
      where
        go : (b : Bool) → on ≡ b → cond b true odds ≡ true → OnRing q r ⊎ Inside q r
        go true e h = inl e
        go false e h = inr (record { off = e; odd_counted = h })

        back : OnRing q r ⊎ Inside q r → cond on true odds ≡ true
        back (inl e) = rw e
        back (inr i) = rw i.off i.odd_counted

    pub hole_in_words : (ring_in (seg q) false r ≡ true) ↔ Inside q r
    hole_in_words = (λ h. go on refl (sym (ring_in_words (seg q) false r) ∙ h), λ i. ring_in_words (seg q) false r ∙ rw i.off i.odd_counted)
      where
        go : (b : Bool) → on ≡ b → cond b false odds ≡ true → Inside q r
        go true e h = absurd (false≢true h)
        go false e h = record { off = e; odd_counted = h }

  -- ---- a polygon
  module _ (g : Polygon) where
    abbrev outer : Bool
    outer = ring_in (seg q) true g.outer

    abbrev no_hole : Bool
    no_hole = not (some (ring_in (seg q) false) g.holes)

    pub polygon_in_words : (polygon_in (seg q) g ≡ true) ↔ InPolygon q g
    unfolding polygon_in
    polygon_in_words = (go, back)
      where
        go : outer && no_hole ≡ true → InPolygon q g
        go h =
            record {
              outer = (outer_in_words g.outer).0 (and_l outer no_hole h);
              holes = λ r m i. none_is (ring_in (seg q) false) g.holes (and_r outer no_hole h) r m ((hole_in_words r).1 i);
            }

        back : InPolygon q g → outer && no_hole ≡ true
        back w = and_i outer no_hole ((outer_in_words g.outer).1 w.outer) (is_none (ring_in (seg q) false) g.holes (λ r m h. w.holes r m ((hole_in_words r).0 h)))

  -- ---- a zone
  pub zone_in_words : (z : Zone) → (zone_in (seg q) z ≡ true) ↔ InZone q z
  unfolding zone_in
  zone_in_words z = (go, back)
    where
      go : some (polygon_in (seg q)) z.polygons ≡ true → InZone q z
      go h =
          let t = some_is (polygon_in (seg q)) z.polygons h in
          record { polygon = t.0; its_own = t.1; within = (polygon_in_words t.0).0 t.2 }

      back : InZone q z → some (polygon_in (seg q)) z.polygons ≡ true
      back w = is_some (polygon_in (seg q)) z.polygons w.polygon w.its_own ((polygon_in_words w.polygon).1 w.within)
