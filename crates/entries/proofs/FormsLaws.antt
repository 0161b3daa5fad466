-- Laws of specs/Forms and of the tests of specs/Reading, as proofs cite them. Nothing here need be believed.
-- Assumes nothing.
use Prim.Native.Nat.{ℕ, ◌-◌, ◌≤◌, ◌<◌}
use native.Mathlib.Omega.{arith}
use mathlib.Core.Path.{◌≡◌, refl, sym, ap, ◌∙◌}
use mathlib.Core.Bool.{Bool, true, false, not, ◌&&◌, cond}
use mathlib.Core.List.{List, [], ◌∷◌}
use lib.Dec.{eqb, leb}
use lib.ListN.{length, take, drop, length-drop}
use lib.Seq.{take_all}
use Rattle.std.specs.List.{list_any}
use Rattle.basics.specs.Picked.{and_yes, and_no, or_yes, or_no, yes_is, no_is}
use Rattle.basics.specs.Truth.{and_l}
use Rattle.plane.specs.declared.I32Point.{I32Point}
use Rattle.plane.specs.Domain.{in_domain}
use Rattle.answer.specs.Checks.{at_most, same}
use Rattle.answer.proofs.CheckLaws.{le_at, gt_at, eq_same, ne_same, not_yes, not_no, at_le, same_eq}
use Rattle.entries.specs.Entry.{Entry}
use Rattle.entries.specs.Forms.{all_below, among, all_different, placed, zones_form, refusal_form, formed}

-- what is lent from place i on
pub part_is : {A : Type 0} (l : List A) (i : ℕ) → take (length l - i) (drop i l) ≡ drop i l
part_is l i = take_all (length l - i) (drop i l) (omega (arith, length-drop i l))

-- ---- a zone and those behind it, by what `contains` answered; what is left answers as all of it did, m
module _ (z : ℕ) (rest behind : List ℕ) (m b : Bool) (c : rest ≡ z ∷ behind) (v : all_different rest ≡ m) (e : b ≡ list_any (λ y. eqb y z) behind) where
  among_is : b ≡ among z behind
  unfolding among same
  among_is = e

  at_front : not (among z behind) && all_different behind ≡ m
  unfolding all_different
  at_front = ap all_different (sym c) ∙ v

  pub different_no : b ≡ true → false ≡ m
  different_no g = and_no _ _ (not_no _ (sym among_is ∙ g)) ∙ at_front

  pub different_on : b ≡ false → all_different behind ≡ m
  different_on g = and_yes _ _ _ (not_yes _ (sym among_is ∙ g)) refl ∙ at_front

pub different_end : (rest : List ℕ) (m : Bool) → length rest ≡ 0 → all_different rest ≡ m → true ≡ m
unfolding all_different
different_end [] m h v = v
different_end (z ∷ l) m h v = absurd (omega arith)

-- ---- a position, where there are zones
module _ (q : I32Point) (zones : List ℕ) where
  pub placed_none : length zones ≡ 0 → true ≡ placed q zones
  unfolding placed
  placed_none h = or_yes _ _ (eq_same _ _ h)

  pub placed_some : (length zones ≡ 0 → ⊥) → (b : Bool) → b ≡ in_domain q → b ≡ placed q zones
  unfolding placed
  placed_some h b e = or_no _ _ _ (ne_same _ _ h) e

  -- ---- the form of an answer, test by test
  module _ (places : ℕ) where
    pub zones_many : places < length zones → false ≡ zones_form places q zones
    unfolding zones_form
    zones_many h = and_no _ _ (gt_at _ _ h)

    module _ (h : length zones ≤ places) where
      pub zones_far : placed q zones ≡ false → false ≡ zones_form places q zones
      unfolding zones_form
      zones_far e = and_yes _ _ _ (le_at _ _ h) (and_no _ _ e)

      module _ (p : placed q zones ≡ true) where
        pub zones_above : all_below zones ≡ false → false ≡ zones_form places q zones
        unfolding zones_form
        zones_above e = and_yes _ _ _ (le_at _ _ h) (and_yes _ _ _ p (and_no _ _ e))

        pub zones_all : all_below zones ≡ true → (b : Bool) → b ≡ all_different zones → b ≡ zones_form places q zones
        unfolding zones_form
        zones_all e b d = and_yes _ _ _ (le_at _ _ h) (and_yes _ _ _ p (and_yes _ _ _ e d))

-- ---- the forms, by the reason
module _ (places : ℕ) (e : Entry) where
  pub formed_answer : e.reason ≡ 0 → (b : Bool) → b ≡ zones_form places e.at e.zones → b ≡ formed places e
  unfolding formed
  formed_answer h b z = yes_is _ _ _ _ (eq_same _ _ h) z

  -- b is whether there are no zones
  module _ (h : e.reason ≡ 0 → ⊥) (b : Bool) (z : b ≡ eqb (length e.zones) 0) where
    pub formed_none : b ≡ true → leb e.reason 46 ≡ formed places e
    unfolding formed refusal_form same at_most
    formed_none g = no_is _ _ _ _ (ne_same _ _ h) (and_yes _ _ _ (sym z ∙ g) refl)

    pub formed_some : b ≡ false → b ≡ formed places e
    unfolding formed refusal_form same at_most
    formed_some g = no_is _ _ _ _ (ne_same _ _ h) (g ∙ and_no _ _ (sym z ∙ g))

  -- a form has no more zones than places
  pub formed_few : formed places e ≡ true → length e.zones ≤ places
  unfolding formed zones_form refusal_form
  formed_few h = go (same e.reason 0) h
    where
      go : (b : Bool) → cond b (zones_form places e.at e.zones) (refusal_form e.zones e.reason) ≡ true → length e.zones ≤ places
      go true g = at_le _ _ (and_l _ _ g)
      go false g = omega (arith, same_eq (length e.zones) 0 (and_l _ _ g))
