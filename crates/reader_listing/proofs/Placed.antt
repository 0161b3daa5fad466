-- From the count to the list: what was counted is what is written, in the order of the names.
-- Assumes nothing.
use Prim.Native.Nat.{ℕ, zero, suc, ◌+◌, ◌≤◌, ◌<◌}
use native.Mathlib.Omega.{arith}
use mathlib.Core.Path.{◌≡◌, refl, sym, ap, ap₂, ◌∙◌}
use mathlib.Core.List.{List, ◌++◌, append-nil}
use lib.ListN.{length, take, drop, drop_of_length-le}
use lib.Seq.{sets, sets-eq, length-sets, take_at}
use Rattle.answer.specs.declared.Refusal.{Refusal}
use Rattle.answer.specs.Answers.{Answer, ok, refused, no, ◌then◌, ◌before◌, Check, fine, how_many, left}
use Rattle.answer.specs.Refusals.{refusal}
use Rattle.answer.specs.Checks.{and_then, claim}
use Rattle.answer.proofs.CheckLaws.{le_at, gt_at, fine_claim}
use borrow.Author.Tests.{leb-true, leb-false}
use lib.Dec.{leb}
use mathlib.Core.Bool.{Bool, true, false}
use Rattle.opened.specs.declared.Opened.{Opened}
use Rattle.reader_named.specs.Asked.{name_or}
use Rattle.reader_order.specs.Order.{ordered}
use Rattle.reader_order.proofs.Sorted.{same_length}
use Rattle.replies.specs.Replies.{Sought}
use Rattle.answer.proofs.AnswersLaws.{need_met, need_not, then_inv, ok_inv, zero_one}
use Rattle.reader_listing.specs.Steps.{seen, seen_on, tally, Kept}
use Rattle.reader_listing.specs.All.{also, all_hits, names_read, placed, list_for}

-- what an answer after a check was made of
pub before_inv : {A : Type 0} (c : Check) (x : Answer A) (a : A) → ok a ≡ (c before x) → (c ≡ fine) × (ok a ≡ x)
before_inv (ok u) x a e = (refl, e)
before_inv (refused k) x a e = let z : ◌≡◌ {A = ℕ} 0 1 = cc in absurd (zero_one z)

-- where no test is refused, all zones were seen
seen_all : (hit : ℕ → Answer Sought) (n i : ℕ) (l : List ℕ) → ok l ≡ all_hits hit n i → seen hit n i ≡ l
unfolding all_hits seen
seen_all hit zero i l e = sym (ok_inv _ _ e)
seen_all hit (suc n) i l e =
    let h = then_inv (hit i) (λ z. all_hits hit n (i + 1) then λ l. ok (also z l)) l e in
    let g = then_inv (all_hits hit n (i + 1)) (λ m. ok (also h.0 m)) l h.2 in
    ap (λ (x : Answer Sought). seen_on x (seen hit n (i + 1))) (sym h.1)
    ∙ ap (also h.0) (seen_all hit n (i + 1) g.0 g.1)
    ∙ sym (ok_inv _ _ g.2)

-- ---- the places
-- what a claim of a test says
pub claim_yes : (n a b : ℕ) → fine ≡ claim n (leb a b) → a ≤ b
claim_yes n a b e = leb-true a b (fine_claim n (leb a b) (sym e))

pub claim_no : (n a b : ℕ) (r : Refusal) → ◌≡◌ {A = Check} (refused r) (claim n (leb a b)) → (b < a) × (r ≡ refusal n)
unfolding claim
claim_no n a b r e = go (leb a b) refl e
  where
    go : (t : Bool) → leb a b ≡ t → ◌≡◌ {A = Check} (refused r) (claim n t) → (b < a) × (r ≡ refusal n)
    go true h e = let z : ◌≡◌ {A = ℕ} 0 1 = cc in absurd (zero_one z)
    go false h e = (leb-false a b h, inside e)
      where
        inside : ◌≡◌ {A = Check} (refused r) (refused (refusal n)) → r ≡ refusal n
        inside e = cc

pub kept_by : (zones held : List ℕ) (k m : ℕ) → Kept zones held k → m ≡ k → Kept zones held m
kept_by zones held k m h e = record { count = e ∙ h.count; kept = λ g. ap (λ (j : ℕ). take j held) e ∙ h.kept (omega arith) }

pub from_again : (zones held out next : List ℕ) → Kept zones held (length out) → next ≡ sets out 0 zones → next ≡ zones
from_again zones held out next h e =
    let n : 0 + length zones ≡ length out = omega (arith, h.count) in
    e ∙ sets-eq zones out 0 (omega (arith, h.count)) ∙ ap (λ (l : List ℕ). zones ++ l) (drop_of_length-le out (omega (arith, n))) ∙ append-nil zones

-- 46, or as many as there are, into that many places
module _ (zones : List ℕ) (k : ℕ) (h : k ≡ length zones) (o : Opened) (s : List ℕ) (places : ℕ) where
  pub place_short : places < k → no 46 ≡ placed o s places zones
  unfolding placed
  place_short g = need_not 46 _ _ (gt_at (length zones) places (omega arith))

  module _ (g : k ≤ places) where
    pub place_done : ok (ordered (name_or o s) zones) ≡ placed o s places zones
    unfolding placed
    place_done = need_met 46 _ _ (le_at (length zones) places (omega arith))

    pub place_count : ok k ≡ how_many (placed o s places zones)
    place_count = ap ok (h ∙ sym (same_length (name_or o s) zones)) ∙ ap how_many place_done

-- in the order of the names, in front of what lies behind
pub place_memory : (zones : List ℕ) (k : ℕ) → k ≡ length zones → (o : Opened) (s out : List ℕ) → k ≤ length out
    → (next front : List ℕ) → next ≡ zones → front ≡ ordered (name_or o s) next → front ++ drop k out ≡ left out (placed o s (length out) zones)
place_memory zones k h o s out g next front w f =
    let name = name_or o s in
    ap₂ (λ (a : List ℕ) (j : ℕ). a ++ drop j out) (f ∙ ap (ordered name) w) (h ∙ sym (same_length name zones))
    ∙ ap (left out) (place_done zones k h o s (length out) g)

-- ---- the list
module _ (o : Opened) (s : List ℕ) (hit : ℕ → Answer Sought) (n from : ℕ) where
  pub list_no : (places : ℕ) (r : Refusal) → refused r ≡ tally o s fine 0 (all_hits hit n from) → refused r ≡ (all_hits hit n from then list_for o s places)
  unfolding tally list_for and_then
  list_no places r e = go (all_hits hit n from) e
    where
      named : (c : Check) (x : Answer ℕ) (y : Answer (List ℕ)) (m : ℕ) → ok m ≡ x → refused r ≡ (c before x) → refused r ≡ (c before y)
      named (ok u) x y m g e = let z : ◌≡◌ {A = ℕ} 0 1 = cc in absurd (zero_one z)
      named (refused k) x y m g e = ap refused (inside e)
        where
          inside : ◌≡◌ {A = Answer ℕ} (refused r) (refused k) → r ≡ k
          inside e = cc

      go : (x : Answer (List ℕ)) → refused r ≡ (x then λ l. and_then fine (names_read o s l) before ok (0 + length l)) → refused r ≡ (x then λ l. names_read o s l before placed o s places l)
      go (ok l) e = named (names_read o s l) (ok (0 + length l)) (placed o s places l) (0 + length l) refl e
      go (refused k) e = ap refused (inside e)
        where
          inside : ◌≡◌ {A = Answer ℕ} (refused r) (refused k) → r ≡ k
          inside e = cc

  module _ (k : ℕ) (h : ok k ≡ tally o s fine 0 (all_hits hit n from)) where
    -- the zones: all tests fine, all names read, and as many as were counted
    tally_inv : (l : List ℕ) × (ok l ≡ all_hits hit n from) × (names_read o s l ≡ fine) × (k ≡ length l)
    unfolding tally and_then
    tally_inv =
        let t = then_inv (all_hits hit n from) (λ l. names_read o s l before ok (0 + length l)) k h in
        let b = before_inv (names_read o s t.0) (ok (0 + length t.0)) k t.2 in
        (t.0, t.1, b.0, omega (arith, ok_inv _ _ b.1))

    zones_are : (ok (seen hit n from) ≡ all_hits hit n from) × (names_read o s (seen hit n from) ≡ fine) × (k ≡ length (seen hit n from))
    zones_are =
        let t = tally_inv in
        let e = seen_all hit n from t.0 t.1 in
        (ap ok e ∙ t.1, ap (names_read o s) e ∙ t.2, t.3 ∙ ap length (sym e))

    pub list_is : (places : ℕ) → placed o s places (seen hit n from) ≡ (all_hits hit n from then list_for o s places)
    unfolding list_for
    list_is places = rw (← zones_are.0, zones_are.1)

    -- how many they are, in that many places
    module _ (places : ℕ) where
      pub list_short : places < k → no 46 ≡ how_many (all_hits hit n from then list_for o s places)
      list_short g = ap how_many (place_short (seen hit n from) k zones_are.2 o s places g ∙ list_is places)

      pub list_count : k ≤ places → ok k ≡ how_many (all_hits hit n from then list_for o s places)
      list_count g = place_count (seen hit n from) k zones_are.2 o s places g ∙ ap how_many (list_is places)

    pub list_kept : (held₀ held : List ℕ) → held ≡ sets held₀ 0 (seen hit n from) → Kept (seen hit n from) held k
    list_kept held₀ held e = record { count = zones_are.2; kept = kept }
      where
        kept : k ≤ length held → take k held ≡ seen hit n from
        kept g =
            let c = zones_are.2 in
            let m : length held ≡ length held₀ = ap length e ∙ length-sets held₀ 0 (seen hit n from) in
            ap (take k) (e ∙ sets-eq (seen hit n from) held₀ 0 (omega arith)) ∙ take_at (seen hit n from) (drop (0 + length (seen hit n from)) held₀) k (sym c)
