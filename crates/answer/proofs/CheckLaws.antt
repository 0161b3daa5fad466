-- Laws of the checks, stated as a proof of code wants them.
-- Assumes nothing.
use Prim.Native.Nat.{ℕ, zero, suc, ◌+◌, ◌-◌, ◌<◌, ◌≤◌}
use native.Mathlib.Omega.{arith}
use mathlib.Core.Bool.{Bool, true, false, not}
use borrow.Author.Tests.{lt-ltb, le-ltb, ltb-true, le-leb, lt-leb, eq-eqb, ne_eqb, not-true, not-false, leb-true, eqb-true}
use lib.Dec.{eqb, leb, ltb}
use mathlib.Core.List.{List, [], ◌∷◌}
use mathlib.Core.Path.{◌≡◌, refl, sym, ◌∙◌}
use Rattle.answer.specs.declared.Refusal.{Refusal}
use Rattle.answer.specs.Answers.{ok, refused, Check, fine}
use Rattle.answer.specs.Checks.{failed, claim, deny, and_then, first, each, seek, at_most, below, same, both, either}

pub yes : (n : ℕ) (b : Bool) → b ≡ true → claim n b ≡ fine
unfolding claim
yes n b e = rw e

pub nay : (n : ℕ) (b : Bool) → b ≡ false → claim n b ≡ failed n
unfolding claim
nay n b e = rw e

-- past a check that is fine
pub past : (a : Check) (l : List Check) → a ≡ fine → first (a ∷ l) ≡ first l
unfolding first and_then
past a l e = rw e

pub stop : (a : Check) (l : List Check) (k : Refusal) → a ≡ refused k → first (a ∷ l) ≡ refused k
unfolding first and_then
stop a l k e = rw e

-- the end
pub done : first [] ≡ fine
unfolding first
done = refl

pub last : (a : Check) → first (a ∷ []) ≡ a
unfolding first and_then
last (ok u) = refl
last (refused k) = refl

-- the same for a claim
pub past_claim : (n : ℕ) (b : Bool) (l : List Check) → b ≡ true → first (claim n b ∷ l) ≡ first l
past_claim n b l e = past _ _ (yes n b e)

pub stop_claim : (n : ℕ) (b : Bool) (l : List Check) → b ≡ false → first (claim n b ∷ l) ≡ failed n
stop_claim n b l e = stop _ _ _ (nay n b e)

-- what a chain that is fine tells
pub fine_one : (a : Check) (l : List Check) → first (a ∷ l) ≡ fine → a ≡ fine
unfolding first and_then
fine_one (ok u) l e = refl
fine_one (refused k) l e = e

pub fine_rest : (a : Check) (l : List Check) → first (a ∷ l) ≡ fine → first l ≡ fine
unfolding first and_then
fine_rest (ok u) l e = e
fine_rest (refused k) l e = let z : ◌≡◌ {A = ℕ} 0 1 = cc in absurd (omega arith)

pub fine_claim : (n : ℕ) (b : Bool) → claim n b ≡ fine → b ≡ true
unfolding claim
fine_claim n true e = refl
fine_claim n false e = let z : ◌≡◌ {A = ℕ} 0 1 = cc in absurd (omega arith)

-- A loop over `each`: what is left from i on answers as the whole did, m
pub each_start : (f : ℕ → Check) (n : ℕ) → each f (n - 0) 0 ≡ each f n 0
each_start f n =
    let e : n - 0 ≡ n = omega arith in
    rw e

pub each_from : (f : ℕ → Check) (n m : ℕ) → n ≡ m → each f (n - 0) 0 ≡ each f m 0
each_from f n m h =
    let e : n - 0 ≡ m = omega arith in
    rw e

pub each_end : (f : ℕ → Check) (n i : ℕ) (m : Check) → each f (n - i) i ≡ m → n ≤ i → fine ≡ m
unfolding each
each_end f n i m v h =
    let e : n - i ≡ 0 = omega arith in
    rw e at v

module _ (f : ℕ → Check) (n i : ℕ) (m : Check) (v : each f (n - i) i ≡ m) (h : i < n) where
  pub each_fine : f i ≡ fine → each f (n - (i + 1)) (i + 1) ≡ m
  unfolding each and_then
  each_fine e =
      let g : n - i ≡ suc (n - (i + 1)) = omega arith in
      rw (g, e) at v

  pub each_stop : (k : Refusal) → f i ≡ refused k → refused k ≡ m
  unfolding each and_then
  each_stop k e =
      let g : n - i ≡ suc (n - (i + 1)) = omega arith in
      rw (g, e) at v

-- each of a row of checks that is fine
and_one : (a b : Check) → and_then a b ≡ fine → a ≡ fine
unfolding and_then
and_one (ok u) b e = refl
and_one (refused k) b e = e

and_rest : (a b : Check) → and_then a b ≡ fine → b ≡ fine
unfolding and_then
and_rest (ok u) b e = e
and_rest (refused k) b e = let z : ◌≡◌ {A = ℕ} 0 1 = cc in absurd (omega arith)

each_all : (f : ℕ → Check) (n i j : ℕ) → each f n i ≡ fine → j < n → f (i + j) ≡ fine
unfolding each
each_all f zero i j e h = absurd (omega arith)
each_all f (suc n) i zero e h = let q : i + 0 ≡ i = omega arith in rw q (and_one (f i) _ e)
each_all f (suc n) i (suc j) e h =
    let q : i + suc j ≡ i + 1 + j = omega arith in
    rw q (each_all f n (i + 1) j (and_rest (f i) _ e) (omega arith))

pub each_at : (f : ℕ → Check) (n k : ℕ) → each f n 0 ≡ fine → k < n → f k ≡ fine
each_at f n k e h = let q : 0 + k ≡ k = omega arith in rw q at (each_all f n 0 k e h)

-- A loop over `seek`, likewise
pub seek_start : (p : ℕ → Bool) (n : ℕ) → seek p (n - 0) 0 ≡ seek p n 0
seek_start p n =
    let e : n - 0 ≡ n = omega arith in
    rw e

pub seek_end : (p : ℕ → Bool) (n i m : ℕ) → seek p (n - i) i ≡ m → n ≤ i → i ≡ m
unfolding seek
seek_end p n i m v h =
    let e : n - i ≡ 0 = omega arith in
    rw e at v

module _ (p : ℕ → Bool) (n i m : ℕ) (v : seek p (n - i) i ≡ m) (h : i < n) where
  pub seek_yes : p i ≡ true → i ≡ m
  unfolding seek
  seek_yes e =
      let g : n - i ≡ suc (n - (i + 1)) = omega arith in
      rw (g, e) at v

  pub seek_no : p i ≡ false → seek p (n - (i + 1)) (i + 1) ≡ m
  unfolding seek
  seek_no e =
      let g : n - i ≡ suc (n - (i + 1)) = omega arith in
      rw (g, e) at v

-- the chain, backwards, as `search` takes it
pub met : (n : ℕ) (b : Bool) (l : List Check) (x : Check) → b ≡ true → x ≡ first l → x ≡ first (claim n b ∷ l)
met n b l x e f = f ∙ sym (past_claim n b l e)

pub unmet : (n : ℕ) (b : Bool) (l : List Check) → b ≡ false → failed n ≡ first (claim n b ∷ l)
unmet n b l e = sym (stop_claim n b l e)

pub clear : (n : ℕ) (b : Bool) (l : List Check) (x : Check) → b ≡ false → x ≡ first l → x ≡ first (deny n b ∷ l)
unfolding deny
clear n b l x e f = met n (not b) l x (rw e) f

pub barred : (n : ℕ) (b : Bool) (l : List Check) → b ≡ true → failed n ≡ first (deny n b ∷ l)
unfolding deny
barred n b l e = unmet n (not b) l (rw e)

pub met_by : (a : Check) (l : List Check) (x : Check) → a ≡ fine → x ≡ first l → x ≡ first (a ∷ l)
met_by a l x e f = f ∙ sym (past a l e)

pub unmet_by : (a : Check) (l : List Check) (k : Refusal) → a ≡ refused k → refused k ≡ first (a ∷ l)
unmet_by a l k e = sym (stop a l k e)

pub end : fine ≡ first []
end = sym done

pub none_left : (a : Check) → a ≡ first (a ∷ [])
none_left a = sym (last a)

-- tests from facts
pub le_at : (a b : ℕ) → a ≤ b → at_most a b ≡ true
unfolding at_most
le_at a b h = le-leb a b h

pub gt_at : (a b : ℕ) → b < a → at_most a b ≡ false
unfolding at_most
gt_at a b h = lt-leb a b h

pub eq_same : (a b : ℕ) → a ≡ b → same a b ≡ true
unfolding same
eq_same a b h = eq-eqb a b h

pub ne_same : (a b : ℕ) → (a ≡ b → ⊥) → same a b ≡ false
unfolding same
ne_same a b h = ne_eqb a b h

pub not_yes : (b : Bool) → b ≡ false → not b ≡ true
not_yes b e = rw e

pub not_no : (b : Bool) → b ≡ true → not b ≡ false
not_no b e = rw e

-- and back
pub at_le : (a b : ℕ) → at_most a b ≡ true → a ≤ b
unfolding at_most
at_le a b e = leb-true a b e

pub same_eq : (a b : ℕ) → same a b ≡ true → a ≡ b
unfolding same
same_eq a b e = eqb-true a b e

pub at_is : (a b : ℕ) → leb a b ≡ at_most a b
unfolding at_most
at_is a b = refl

pub below_is : (r x n : ℕ) → r ≡ x → ltb r n ≡ below x n
unfolding below
below_is r x n e = rw e

pub lt_below : (a b : ℕ) → a < b → below a b ≡ true
unfolding below
lt_below a b h = lt-ltb a b h

pub ge_below : (a b : ℕ) → b ≤ a → below a b ≡ false
unfolding below
ge_below a b h = le-ltb a b h

pub below_lt : (a b : ℕ) → below a b ≡ true → a < b
unfolding below
below_lt a b e = ltb-true a b e

pub same_is : (a b : ℕ) → eqb a b ≡ same a b
unfolding same
same_is a b = refl

pub both_yes : (a b x : Bool) → a ≡ true → x ≡ b → x ≡ both a b
unfolding both
both_yes a b x e f = rw e f

pub both_no : (a b : Bool) → a ≡ false → false ≡ both a b
unfolding both
both_no a b e = rw e

pub either_yes : (a b : Bool) → a ≡ true → true ≡ either a b
unfolding either
either_yes a b e = rw e

pub either_no : (a b x : Bool) → a ≡ false → x ≡ b → x ≡ either a b
unfolding either
either_no a b x e f = rw e f

pub so : (b : Bool) → b ≡ true → true ≡ b
so b e = sym e

pub not_so : (b : Bool) → b ≡ false → false ≡ b
not_so b e = sym e

pub ruleset truths = (so, not_so, lt_below, ge_below, both_yes, both_no, either_yes, either_no, at_is, same_is, le_at, gt_at, eq_same, ne_same, not_yes, not_no)

-- what a test of a called function's answer tells
pub told_yes : (r b : Bool) → r ≡ b → not r ≡ false → b ≡ true
told_yes r b e f = sym e ∙ not-false r f

pub told_no : (r b : Bool) → r ≡ b → not r ≡ true → b ≡ false
told_no r b e f = sym e ∙ not-true r f

pub told_so : (r b : Bool) → r ≡ b → r ≡ true → not b ≡ false
told_so r b e f = not_no b (sym e ∙ f)

pub told_not : (r b : Bool) → r ≡ b → r ≡ false → not b ≡ true
told_not r b e f = not_yes b (sym e ∙ f)

pub told_eq : (r x n : ℕ) → r ≡ x → r ≡ n → same x n ≡ true
told_eq r x n e f = eq_same x n (sym e ∙ f)

pub told_ne : (r x n : ℕ) → r ≡ x → (r ≡ n → ⊥) → same x n ≡ false
told_ne r x n e f = ne_same x n (λ g. f (e ∙ g))

pub told_le : (r x n : ℕ) → r ≡ x → r ≤ n → at_most x n ≡ true
told_le r x n e f = le_at x n (rw (← e) f)

pub told_above : (r x n : ℕ) → r ≡ x → n < r → at_most x n ≡ false
told_above r x n e f = gt_at x n (rw (← e) f)

pub told_ge : (r x n : ℕ) → r ≡ x → n ≤ r → at_most n x ≡ true
told_ge r x n e f = le_at n x (rw (← e) f)

pub told_below : (r x n : ℕ) → r ≡ x → r < n → at_most n x ≡ false
told_below r x n e f = gt_at n x (rw (← e) f)

pub ruleset checks = (clear, barred, told_so, told_not, lt_below, ge_below, met, unmet, met_by, unmet_by, end, none_left, le_at, gt_at, eq_same, ne_same, not_yes, not_no, told_yes, told_no, told_eq, told_ne, told_le, told_above, told_ge, told_below)
