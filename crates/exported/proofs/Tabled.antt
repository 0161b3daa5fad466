-- Answers, walks and checks whose refusals all are of a kind, and that whatever is put together of such gives no other. One kind are those whose numbers go from 1 up to a top.
-- Assumes nothing.
use Prim.Native.Nat.{ℕ, zero, suc, ◌+◌, ◌≤◌}
use native.Mathlib.Omega.{arith}
use mathlib.Core.Path.{◌≡◌, refl, sym, subst}
use mathlib.Core.Bool.{Bool, true, false, ◌&&◌, not, cond}
use mathlib.Core.List.{List, [], ◌∷◌}
use lib.Dec.{leb}
use borrow.Author.Tests.{leb-true}
use Rattle.basics.specs.Truth.{and_l, and_r}
use Rattle.plane.specs.Sight.{Sight, On, Off}
use Rattle.answer.specs.declared.Refusal.{Refusal}
use Rattle.answer.specs.Refusals.{no_place, refusal}
use Rattle.answer.specs.Answers.{Answer, ok, refused, need, Check, fine, ◌then◌, ◌before◌, outcome}
use Rattle.answer.specs.Walks.{Walk, broken, on, off, add, ◌go◌, ◌yields◌, must, verdict}
use Rattle.answer.specs.Checks.{claim, deny, and_then, first, each}
use Rattle.chunks.specs.Scan.{past}

-- the number goes from 1 up to top
pub record Numbered (top : ℕ) (k : Refusal) : Type 0 where
  pub least : 1 ≤ k.number
  pub greatest : k.number ≤ top

-- a number that stands in the text, by a test
abbrev pub Fit : ℕ → ℕ → Type 0
Fit top n = leb 1 n && leb n top ≡ true

pub numbered : (top n : ℕ) → Fit top n → Numbered top (refusal n)
numbered top n h =
    record {
      least = leb-true 1 n (and_l (leb 1 n) (leb n top) h);
      greatest = leb-true n top (and_r (leb 1 n) (leb n top) h);
    }

-- such a refusal that has no place
pub record Unplaced (top : ℕ) (k : Refusal) : Type 0 where
  pub numbered : Numbered top k
  pub nowhere : k.place ≡ no_place

-- of one of two
pub either_way : {A : Type 0} (P : A → Type 0) (b : Bool) (x y : A) → P x → P y → P (cond b x y)
either_way P true x y p q = p
either_way P false x y p q = q

-- ---- answers whose refusals all are of the kind P
abbrev pub AnswerBy : (Refusal → Type 0) → {A : Type 0} → Answer A → Type 0
AnswerBy P (ok a) = Unit {0}
AnswerBy P (refused k) = P k

pub record Only (P : Refusal → Type 0) {A : Type 0} (x : Answer A) : Type 0 where
  pub by : AnswerBy P x

-- the numbers go from 1 up to top
abbrev pub Tabled : ℕ → {A : Type 0} → Answer A → Type 0
Tabled top x = Only (Numbered top) x

pub kind_of : {P : Refusal → Type 0} {A : Type 0} (x : Answer A) (k : Refusal) → refused k ≡ x → Only P x → P k
kind_of {P} {A} x k e h = subst (λ (y : Answer A). AnswerBy P y) (sym e) h.by

module _ {P : Refusal → Type 0} {A : Type 0} where
  pub given : (a : A) → Only P (ok a)
  given a = record { by = tt }

  pub need_o : (n : ℕ) (b : Bool) (x : Answer A) → P (refusal n) → Only P x → Only P (need n b x)
  need_o n true x f h = h
  need_o n false x f h = record { by = f }

pub need_t : {top : ℕ} {A : Type 0} (n : ℕ) (b : Bool) (x : Answer A) → Fit top n → Tabled top x → Tabled top (need n b x)
need_t {top} n b x f h = need_o n b x (numbered top n f) h

pub then_t : {P : Refusal → Type 0} {A B : Type 0} (x : Answer A) (f : A → Answer B) → Only P x → ((a : A) → Only P (f a)) → Only P (x then f)
then_t (ok a) f h g = g a
then_t (refused k) f h g = record { by = h.by }

-- the same where what is done with a value may know where it comes from
pub then_e : {P : Refusal → Type 0} {A B : Type 0} (x : Answer A) (f : A → Answer B) → Only P x → ((a : A) → ok a ≡ x → Only P (f a)) → Only P (x then f)
then_e (ok a) f h g = g a refl
then_e (refused k) f h g = record { by = h.by }

-- of a wider kind
pub wider : {P Q : Refusal → Type 0} → ((k : Refusal) → P k → Q k) → {A : Type 0} (x : Answer A) → Only P x → Only Q x
wider f (ok a) h = record { by = tt }
wider f (refused k) h = record { by = f k h.by }

-- a higher top
pub raised : (top more : ℕ) → top ≤ more → (k : Refusal) → Numbered top k → Numbered more k
raised top more l k h = record { least = h.least; greatest = omega (arith, h.greatest) }

pub higher : (top more : ℕ) → top ≤ more → {A : Type 0} (x : Answer A) → Tabled top x → Tabled more x
higher top more l x h = wider (raised top more l) x h

-- ---- walks
abbrev pub WalkBy : (Refusal → Type 0) → {A : Type 0} → Walk A → Type 0
WalkBy P (broken k) = P k
WalkBy P on = Unit {0}
WalkBy P (off b a) = Unit {0}

pub record OnlyWalk (P : Refusal → Type 0) {A : Type 0} (w : Walk A) : Type 0 where
  pub by : WalkBy P w

module _ {P : Refusal → Type 0} {A : Type 0} where
  pub walked : (b : Bool) (a : A) → OnlyWalk P (off b a)
  walked b a = record { by = tt }

  add_t : (b : Bool) (w : Walk A) → OnlyWalk P w → OnlyWalk P (add b w)
  unfolding add
  add_t b (broken k) h = record { by = h.by }
  add_t b on h = record { by = tt }
  add_t b (off c a) h = record { by = tt }

  pub must_o : (n : ℕ) (b : Bool) (w : Walk A) → P (refusal n) → OnlyWalk P w → OnlyWalk P (must n b w)
  must_o n true w f h = h
  must_o n false w f h = record { by = f }

  pub past_t : (z : Sight) (a : A) → OnlyWalk P (past z a)
  past_t On a = record { by = tt }
  past_t (Off b) a = record { by = tt }

  pub verdict_t : (edge : Bool) (w : Walk A) → OnlyWalk P w → Only P (verdict edge w)
  verdict_t edge (broken k) h = record { by = h.by }
  verdict_t edge on h = record { by = tt }
  verdict_t edge (off b a) h = record { by = tt }

module _ {P : Refusal → Type 0} {A B : Type 0} where
  pub go_t : (w : Walk A) (f : A → Walk B) → OnlyWalk P w → ((a : A) → OnlyWalk P (f a)) → OnlyWalk P (w go f)
  go_t (broken k) f h g = record { by = h.by }
  go_t on f h g = record { by = tt }
  go_t (off b a) f h g = add_t b (f a) (g a)

  -- the same where what comes next may know where it comes from
  pub go_e : (w : Walk A) (f : A → Walk B) → OnlyWalk P w → ((b : Bool) (a : A) → off b a ≡ w → OnlyWalk P (f a)) → OnlyWalk P (w go f)
  go_e (broken k) f h g = record { by = h.by }
  go_e on f h g = record { by = tt }
  go_e (off b a) f h g = add_t b (f a) (g b a refl)

  pub yields_t : (x : Answer A) (f : A → Walk B) → Only P x → ((a : A) → OnlyWalk P (f a)) → OnlyWalk P (x yields f)
  yields_t (ok a) f h g = g a
  yields_t (refused k) f h g = record { by = h.by }

  pub yields_e : (x : Answer A) (f : A → Walk B) → Only P x → ((a : A) → ok a ≡ x → OnlyWalk P (f a)) → OnlyWalk P (x yields f)
  yields_e (ok a) f h g = g a refl
  yields_e (refused k) f h g = record { by = h.by }

-- ---- checks: answers with nothing to tell
module _ {P : Refusal → Type 0} where
  pub fine_t : Only P fine
  fine_t = record { by = tt }

  pub and_t : (a b : Check) → Only P a → Only P b → Only P (and_then a b)
  unfolding and_then
  and_t (ok u) b f h = h
  and_t (refused k) b f h = f

  pub end_t : Only P (first [])
  unfolding first
  end_t = fine_t

  pub next_t : (a : Check) (l : List Check) → Only P a → Only P (first l) → Only P (first (a ∷ l))
  unfolding first
  next_t a l f h = and_t a (first l) f h

  pub each_t : (f : ℕ → Check) → ((i : ℕ) → Only P (f i)) → (n i : ℕ) → Only P (each f n i)
  unfolding each
  each_t f h zero i = fine_t
  each_t f h (suc n) i = and_t (f i) (each f n (i + 1)) (h i) (each_t f h n (i + 1))

  pub outcome_t : {A : Type 0} (x : Answer A) → Only P x → Only P (outcome x)
  outcome_t (ok a) h = record { by = tt }
  outcome_t (refused k) h = record { by = h.by }

  pub before_t : {A : Type 0} (c : Check) (x : Answer A) → Only P c → Only P x → Only P (c before x)
  before_t (ok u) x f h = h
  before_t (refused k) x f h = record { by = f.by }

-- of the table, without a place
module _ {top : ℕ} where
  pub claim_t : (n : ℕ) (b : Bool) → Fit top n → Only (Unplaced top) (claim n b)
  unfolding claim
  claim_t n true f = record { by = tt }
  claim_t n false f = record { by = record { numbered = numbered top n f; nowhere = refl } }

  pub deny_t : (n : ℕ) (b : Bool) → Fit top n → Only (Unplaced top) (deny n b)
  unfolding deny
  deny_t n b f = claim_t n (not b) f
