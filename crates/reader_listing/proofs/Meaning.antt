-- What the two questions mean, for any record, any bytes and either way: the list is in the order of the names and has the very zones that contain the point; lookup gives the first of them; at ±179 and ±89 no candidate goes unlooked-at.
-- Assumes nothing.
use Prim.Native.Nat.{ℕ, zero, suc, ◌+◌, ◌/◌, ◌%◌, ◌≤◌}
use mathlib.Core.Path.{◌≡◌, refl, sym, ap, ◌∙◌}
use mathlib.Core.Bool.{Bool, true, false, ◌&&◌, true≢false}
use mathlib.Core.List.{List, [], ◌∷◌}
use lib.IntN.{pos, neg_ℤ}
use lib.Ieee.{Float, binary64, of_int, lt}
use lib.ListN.{length}
use Rattle.answer.specs.Answers.{Answer, ok, ◌then◌}
use Rattle.answer.specs.Checks.{same, at_most}
use Rattle.answer.proofs.CheckLaws.{at_le}
use Rattle.opened.specs.declared.Opened.{Opened}
use Rattle.reader_named.specs.Asked.{name_or}
use Rattle.reader_order.specs.Order.{ordered, in_order, called, times}
use Rattle.reader_order.proofs.Sorted.{is_ordered, same_times, as_they_came}
use Rattle.reader_ways.specs.Ways.{Way}
use Rattle.reader_lookup.specs.Asking.{or_else, first_hit, strictly, unlooked}
use Rattle.reader_listing.proofs.Placed.{before_inv}
use Rattle.replies.specs.Replies.{Sought, nowhere, in_zone}
use Rattle.answer.proofs.AnswersLaws.{then_inv, need_inv, ok_inv}
use Rattle.reader_listing.specs.All.{also, all_hits, hits_of, names_read, placed, list_for, list_by}

-- ---- the list
-- whatever was asked: it is made of the zones that contain the point, which were not too many, put in the order of their names
pub listed_of_law : (o : Opened) (s : List ℕ) (places : ℕ) (hits : Answer (List ℕ)) (l : List ℕ) → ok l ≡ (hits then list_for o s places) → (m : List ℕ) × (ok m ≡ hits) × (length m ≤ places) × (l ≡ ordered (name_or o s) m)
unfolding list_for placed
listed_of_law o s places hits l h =
    let t = then_inv hits (list_for o s places) l h in
    let b = before_inv (names_read o s t.0) (placed o s places t.0) l t.2 in
    let n = need_inv 46 (at_most (length t.0) places) (ok (ordered (name_or o s) t.0)) l b.1 in
    (t.0, t.1, at_le _ _ n.0, ok_inv _ _ n.1)

module _ (w : Way) (o : Opened) (s : List ℕ) (lng lat : Float) (places : ℕ) (l : List ℕ) (h : ok l ≡ list_by w o s lng lat places) where
  list_of : (m : List ℕ) × (ok m ≡ hits_of w o s lng lat) × (length m ≤ places) × (l ≡ ordered (name_or o s) m)
  unfolding list_by
  list_of = listed_of_law o s places (hits_of w o s lng lat) l h

  pub list_in_order : in_order (name_or o s) l ≡ true
  list_in_order = ap (in_order (name_or o s)) list_of.3 ∙ is_ordered (name_or o s) list_of.0

  module _ (m : List ℕ) (g : ok m ≡ hits_of w o s lng lat) where
    same_list : list_of.0 ≡ m
    same_list = ok_inv _ _ (list_of.1 ∙ sym g)

    -- each zone as often as it is a candidate that contains the point
    pub list_times : (z : ℕ) → times z l ≡ times z m
    list_times z = ap (times z) list_of.3 ∙ same_times (name_or o s) z list_of.0 ∙ ap (times z) same_list

    -- zones of one name in candidate order
    pub list_stable : (n : List ℕ) → called (name_or o s) n l ≡ called (name_or o s) n m
    list_stable n = ap (called (name_or o s) n) list_of.3 ∙ as_they_came (name_or o s) n list_of.0 ∙ ap (called (name_or o s) n) same_list

-- ---- lookup among the same candidates: the first of the list, where there is one
abbrev pub first_of : List ℕ → Sought
first_of [] = nowhere
first_of (zone ∷ l) = in_zone zone

module _ (hit : ℕ → Answer Sought) where
  pub first_of_all : (n i : ℕ) (l : List ℕ) → ok l ≡ all_hits hit n i → ok (first_of l) ≡ first_hit hit n i
  unfolding all_hits first_hit
  first_of_all zero i l h = ap (λ (m : List ℕ). ok (first_of m)) (ok_inv _ _ h)
  first_of_all (suc n) i l h =
      let t = then_inv (hit i) (λ z. all_hits hit n (i + 1) then λ m. ok (also z m)) l h in
      let g = then_inv (all_hits hit n (i + 1)) (λ m. ok (also t.0 m)) l t.2 in
      ap (λ (m : List ℕ). ok (first_of m)) (ok_inv _ _ g.2)
      ∙ one t.0 g.0 (first_of_all n (i + 1) g.0 g.1)
      ∙ ap (λ (x : Answer Sought). x then λ z. or_else z (first_hit hit n (i + 1))) t.1
    where
      one : (z : Sought) (m : List ℕ) → ok (first_of m) ≡ first_hit hit n (i + 1) → ok (first_of (also z m)) ≡ or_else z (first_hit hit n (i + 1))
      one nowhere m e = e
      one (in_zone zone) m e = refl

-- ---- at the very edge no candidate goes unlooked-at
module _ (o : Opened) (n : ℕ) where
  and_false : (a b c d : Bool) → d ≡ false → a && (b && (c && d)) ≡ false
  and_false true true true d h = h
  and_false true true false d h = refl
  and_false true false c d h = refl
  and_false false b c d h = refl

  and_false_l : (a b c d : Bool) → c ≡ false → a && (b && (c && d)) ≡ false
  and_false_l true true true d h = absurd (true≢false h)
  and_false_l true true false d h = refl
  and_false_l true false c d h = refl
  and_false_l false b c d h = refl

  pub looked_at_east : (lat : Float) → unlooked o n (of_int binary64 (pos 179)) lat ≡ false
  unfolding unlooked of_int lt
  looked_at_east lat = and_false_l (same n 1) (same (o.flags / 2 % 2) 0) (strictly 179 (of_int binary64 (pos 179))) (strictly 89 lat) refl

  pub looked_at_west : (lat : Float) → unlooked o n (of_int binary64 (neg_ℤ (pos 179))) lat ≡ false
  unfolding unlooked of_int lt
  looked_at_west lat = and_false_l (same n 1) (same (o.flags / 2 % 2) 0) (strictly 179 (of_int binary64 (neg_ℤ (pos 179)))) (strictly 89 lat) refl

  pub looked_at_north : (lng : Float) → unlooked o n lng (of_int binary64 (pos 89)) ≡ false
  unfolding unlooked of_int lt
  looked_at_north lng = and_false (same n 1) (same (o.flags / 2 % 2) 0) (strictly 179 lng) (strictly 89 (of_int binary64 (pos 89))) refl

  pub looked_at_south : (lng : Float) → unlooked o n lng (of_int binary64 (neg_ℤ (pos 89))) ≡ false
  unfolding unlooked of_int lt
  looked_at_south lng = and_false (same n 1) (same (o.flags / 2 % 2) 0) (strictly 179 lng) (strictly 89 (of_int binary64 (neg_ℤ (pos 89)))) refl
