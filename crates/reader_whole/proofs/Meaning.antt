-- What the whole-number list means, for any record and any bytes: outside the domain there is no zone; every zone is listed at most once, and no more are listed than there are places.
-- Assumes nothing.
use Prim.Native.Nat.{ℕ, zero, suc, ◌+◌, ◌≤◌, ◌<◌}
use native.Mathlib.Omega.{arith}
use mathlib.Core.Path.{◌≡◌, refl, ap, ◌∙◌}
use mathlib.Core.Bool.{Bool, true, false, cond}
use mathlib.Core.List.{List, []}
use lib.Dec.{eqb}
use lib.ListN.{length}
use borrow.Author.Tests.{eqb-true}
use Rattle.plane.specs.declared.I32Point.{I32Point}
use Rattle.plane.specs.Domain.{in_domain}
use Rattle.answer.specs.Answers.{Answer, ok, ◌then◌}
use Rattle.answer.proofs.AnswersLaws.{then_inv, ok_inv, zero_one}
use Rattle.opened.specs.declared.Opened.{Opened}
use Rattle.replies.specs.Replies.{Sought, nowhere, in_zone}
use Rattle.reader_named.specs.Asked.{name_or}
use Rattle.reader_order.specs.Order.{ordered, times}
use Rattle.reader_order.proofs.Sorted.{same_times, same_length}
use Rattle.reader_zones.specs.Zones.{contains_at}
use Rattle.reader_listing.specs.All.{also, all_hits}
use Rattle.reader_listing.proofs.AllLaws.{none_listed}
use Rattle.reader_listing.proofs.Meaning.{listed_of_law}
use Rattle.reader_whole.specs.Whole.{whole_hit, whole_hits, whole_list}
use Rattle.reader_whole.proofs.WholeLaws.{hits_off}

-- ---- each zone at most once, where a zone is found under its own number only
module _ (f : ℕ → Answer Sought) (own : (zone y : ℕ) → ok (in_zone y) ≡ f zone → y ≡ zone) (z : ℕ) where
  -- of the zones from i on; a zone below i not at all
  once : (n i : ℕ) (l : List ℕ) → ok l ≡ all_hits f n i → (times z l ≤ 1) × (z < i → times z l ≡ 0)
  unfolding all_hits times
  once zero i l h = let e = ap (times z) (ok_inv _ _ h) in (omega arith, λ g. e)
  once (suc n) i l h =
      let t = then_inv (f i) (λ y. all_hits f n (i + 1) then λ m. ok (also y m)) l h in
      let g = then_inv (all_hits f n (i + 1)) (λ m. ok (also t.0 m)) l t.2 in
      rw (ok_inv _ _ g.2) (step t.0 g.0 t.1 (once n (i + 1) g.0 g.1))
    where
      tell : (y : ℕ) (m : List ℕ) → y ≡ i → (times z m ≤ 1) × (z < i + 1 → times z m ≡ 0) → (b : Bool) → eqb z y ≡ b
          → (cond b 1 0 + times z m ≤ 1) × (z < i → cond b 1 0 + times z m ≡ 0)
      tell y m e k true g = let u = eqb-true z y g in let v = k.1 (omega arith) in (omega arith, λ a. omega arith)
      tell y m e k false g = (omega arith, λ a. omega (arith, k.1 (omega arith)))

      step : (y : Sought) (m : List ℕ) → ok y ≡ f i → (times z m ≤ 1) × (z < i + 1 → times z m ≡ 0) → (times z (also y m) ≤ 1) × (z < i → times z (also y m) ≡ 0)
      step nowhere m e k = (k.0, λ a. k.1 (omega arith))
      step (in_zone y) m e k = tell y m (own i y e) k (eqb z y) refl

module _ (o : Opened) (s : List ℕ) (q : I32Point) where
  -- `contains` of a zone tells of that zone alone
  hit_own : (zone y : ℕ) → ok (in_zone y) ≡ whole_hit o s q zone → y ≡ zone
  unfolding whole_hit
  hit_own zone y h =
      let t = then_inv (contains_at o s zone q) (λ b. ok (cond b (in_zone zone) nowhere)) (in_zone y) h in
      go t.0 (ok_inv _ _ t.2)
    where
      go : (b : Bool) → in_zone y ≡ cond b (in_zone zone) nowhere → y ≡ zone
      go true e = cc
      go false e = let n : ◌≡◌ {A = ℕ} 0 1 = cc in absurd (zero_one n)

  -- of the zones that contain the point, before they are put in order
  pub whole_different : (l : List ℕ) → ok l ≡ whole_hits o s q → (z : ℕ) → times z l ≤ 1
  unfolding whole_hits
  whole_different l h z = (once (whole_hit o s q) hit_own z _ 0 l h).0

  module _ (places : ℕ) where
    -- a point outside the domain has no zone
    pub outside : in_domain q ≡ false → ok [] ≡ whole_list o s q places
    unfolding whole_list
    outside e = rw (← (hits_off o s q e)) (none_listed o s places)

    -- the list
    module _ (l : List ℕ) (h : ok l ≡ whole_list o s q places) where
      list_of : (m : List ℕ) × (ok m ≡ whole_hits o s q) × (length m ≤ places) × (l ≡ ordered (name_or o s) m)
      unfolding whole_list
      list_of = listed_of_law o s places (whole_hits o s q) l h

      pub list_different : (z : ℕ) → times z l ≤ 1
      list_different z =
          let e = ap (times z) list_of.3 ∙ same_times (name_or o s) z list_of.0 in
          omega (arith, e, whole_different list_of.0 list_of.1 z)

      pub list_fits : length l ≤ places
      list_fits =
          let e = ap length list_of.3 ∙ same_length (name_or o s) list_of.0 in
          omega (arith, e, list_of.2)
