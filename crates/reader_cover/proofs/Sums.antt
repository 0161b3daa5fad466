-- A ring's point counts, added one by one: the sum so far and what is left to add are the whole.
-- Assumes nothing.
use Prim.Native.Nat.{ℕ, zero, suc, ◌+◌, ◌-◌, ◌≤◌, ◌<◌}
use native.Mathlib.Omega.{arith}
use mathlib.Core.Path.{◌≡◌, refl, sym, ap, ◌∙◌}
use mathlib.Core.Bool.{Bool, true, false}
use mathlib.Core.List.{List}
use mathlib.Core.Logic.{◌≢◌}
use lib.Dec.{eqb}
use borrow.Author.Tests.{eqb-true, eqb-false}
use Rattle.answer.specs.declared.Refusal.{Refusal}
use Rattle.answer.specs.Answers.{Answer, ok, refused, ◌then◌}
use Rattle.opened.specs.declared.Opened.{Opened}
use Rattle.reader_records.specs.declared.GroupRecord.{GroupRecord}
use Rattle.answer.proofs.AnswersLaws.{then_inv}
use Rattle.reader_cover.specs.Cover.{group_of_op, sum_of_ops}

-- with `sum` counted so far, and what is left to add
unfoldable pub added : ℕ → Answer ℕ → Answer ℕ
added sum x = x then λ t. ok (sum + t)

module _ (o : Opened) (s : List ℕ) where
  pub adds_start : (m n j : ℕ) → m ≡ n → added 0 (sum_of_ops o s m j) ≡ sum_of_ops o s n j
  unfolding added
  adds_start m n j e = rw e (go (sum_of_ops o s n j))
    where
      go : (x : Answer ℕ) → added 0 x ≡ x
      go (ok t) = let z : 0 + t ≡ t = omega arith in ap ok z
      go (refused r) = refl

  module _ (n j : ℕ) (h : 0 < n) where
    one_no : (r : Refusal) → refused r ≡ group_of_op o s j → sum_of_ops o s n j ≡ refused r
    unfolding sum_of_ops
    one_no r e =
        let m : n ≡ suc (n - 1) = omega arith in
        rw (m, ← e)

    one_more : (g : GroupRecord) → ok g ≡ group_of_op o s j → sum_of_ops o s n j ≡ added g.points (sum_of_ops o s (n - 1) (j + 1))
    unfolding sum_of_ops added
    one_more g e = ap (λ (k : ℕ). sum_of_ops o s k j) m ∙ ap (λ (y : Answer GroupRecord). y then λ g. sum_of_ops o s (n - 1) (j + 1) then λ t. ok (g.points + t)) (sym e)
      where
        m : n ≡ suc (n - 1)
        m = omega arith

  module _ (to j sum : ℕ) (whole : Answer ℕ) (inv : added sum (sum_of_ops o s (to - j) j) ≡ whole) where
    pub adds_no : j < to → (r : Refusal) → refused r ≡ group_of_op o s j → refused r ≡ whole
    unfolding added
    adds_no h r e = ap (added sum) (sym (one_no (to - j) j (omega arith) r e)) ∙ inv

    pub adds_on : j < to → (g : GroupRecord) → ok g ≡ group_of_op o s j → added (sum + g.points) (sum_of_ops o s (to - (j + 1)) (j + 1)) ≡ whole
    unfolding added
    adds_on h g e = rw m (step (sum_of_ops o s (to - j - 1) (j + 1)) ∙ ap (added sum) (sym (one_more (to - j) j (omega arith) g e)) ∙ inv)
      where
        m : to - (j + 1) ≡ to - j - 1
        m = omega arith

        step : (y : Answer ℕ) → added (sum + g.points) y ≡ added sum (added g.points y)
        step (ok t) = let z : sum + g.points + t ≡ sum + (g.points + t) = omega arith in ap ok z
        step (refused r) = refl

    pub adds_end : to ≤ j → ok sum ≡ whole
    unfolding added sum_of_ops
    adds_end h =
        let n : to - j ≡ 0 = omega arith in
        let i : ok (sum + 0) ≡ whole = rw n at inv in
        let z : sum ≡ sum + 0 = omega arith in
        ap ok z ∙ i

-- where a sum is answered, so is every group that it adds
pub sum_each : (o : Opened) (s : List ℕ) (n j t : ℕ) → ok t ≡ sum_of_ops o s n j → (i : ℕ) → j ≤ i → i < j + n → (g : GroupRecord) × (ok g ≡ group_of_op o s i)
unfolding sum_of_ops
sum_each o s zero j t e i l m = absurd (omega arith)
sum_each o s (suc n) j t e i l m =
    let a = then_inv (group_of_op o s j) (λ g. sum_of_ops o s n (j + 1) then λ t. ok (g.points + t)) t e in
    let b = then_inv (sum_of_ops o s n (j + 1)) (λ t. ok (a.0.points + t)) t a.2 in
    go (eqb j i) refl a.0 a.1 (sum_each o s n (j + 1) b.0 b.1 i)
  where
    go : (c : Bool) → eqb j i ≡ c → (g : GroupRecord) → ok g ≡ group_of_op o s j → (j + 1 ≤ i → i < j + 1 + n → (g : GroupRecord) × (ok g ≡ group_of_op o s i)) → (g : GroupRecord) × (ok g ≡ group_of_op o s i)
    go true c g f later = (g, f ∙ ap (group_of_op o s) (eqb-true j i c))
    go false c g f later = let ne : j ≢ i = eqb-false j i c in later (omega arith) (omega arith)
