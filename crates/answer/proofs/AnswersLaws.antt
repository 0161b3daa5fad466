-- Laws of specs/Answers, as proofs cite them. Nothing here need be believed.
-- Assumes nothing.
use Prim.Native.Nat.{ℕ}
use native.Mathlib.Omega.{arith}
use mathlib.Core.Path.{◌≡◌, refl, ap, ◌∙◌}
use mathlib.Core.Bool.{Bool, true, false, false≢true}
use mathlib.Core.List.{List, ◌++◌}
use lib.ListN.{length, drop}
use Rattle.basics.specs.Told.{one_told}
use Rattle.answer.specs.declared.Refusal.{Refusal}
use Rattle.answer.specs.Answers.{Answer, no, ◌then◌, need, fine, outcome, how_many, left, holds, answered, ok, refused}

pub then_ok : {A B : Type 0} (x : Answer A) (k : A → Answer B) (a : A) → ok a ≡ x → k a ≡ (x then k)
then_ok x k a e = rw (← e)

pub then_no : {A B : Type 0} (x : Answer A) (k : A → Answer B) (r : Refusal) → refused r ≡ x → refused r ≡ (x then k)
then_no x k r e = rw (← e)

pub need_met : {A : Type 0} (n : ℕ) (b : Bool) (x : Answer A) → b ≡ true → x ≡ need n b x
need_met n b x e = rw e

pub need_not : {A : Type 0} (n : ℕ) (b : Bool) (x : Answer A) → b ≡ false → no n ≡ need n b x
need_not n b x e = rw e

-- what an answer of several steps was made of
pub zero_one : ◌≡◌ {A = ℕ} 0 1 → ⊥
zero_one z = omega arith

pub then_inv : {A B : Type 0} (x : Answer A) (k : A → Answer B) (b : B) → ok b ≡ (x then k) → (a : A) × (ok a ≡ x) × (ok b ≡ k a)
then_inv (ok a) k b e = (a, refl, e)
then_inv (refused r) k b e = let z : ◌≡◌ {A = ℕ} 0 1 = cc in absurd (zero_one z)

pub need_inv : {A : Type 0} (n : ℕ) (c : Bool) (x : Answer A) (a : A) → ok a ≡ need n c x → (c ≡ true) × (ok a ≡ x)
need_inv n true x a e = (refl, e)
need_inv n false x a e = let z : ◌≡◌ {A = ℕ} 0 1 = cc in absurd (zero_one z)

pub ok_inv : {A : Type 0} (a b : A) → ◌≡◌ {A = Answer A} (ok a) (ok b) → a ≡ b
ok_inv a b e = cc

-- an answer that passes a test
module _ {A : Type 0} (P : A → Bool) (x : Answer A) where
  pub holds_no : (r : Refusal) → refused r ≡ x → false ≡ holds P x
  unfolding holds
  holds_no r e = rw (← e)

  pub holds_ok : (a : A) → ok a ≡ x → (b : Bool) → b ≡ P a → b ≡ holds P x
  unfolding holds
  holds_ok a e b h = rw (← e) h

  -- and back
  pub holds_at : (a : A) → ok a ≡ x → holds P x ≡ true → P a ≡ true
  unfolding holds
  holds_at a e h = ap (holds P) e ∙ h

  -- what passed was an answer
  pub held : holds P x ≡ true → (a : A) × (ok a ≡ x) × (P a ≡ true)
  unfolding holds
  held h = go x h
    where
      go : (y : Answer A) → holds P y ≡ true → (a : A) × (ok a ≡ y) × (P a ≡ true)
      go (ok a) h = (a, refl, h)
      go (refused r) h = absurd (false≢true h)

module _ {A : Type 0} (x : Answer A) where
  pub answered_no : (r : Refusal) → refused r ≡ x → false ≡ answered x
  unfolding answered
  answered_no r e = holds_no (λ a. true) x r e

  pub answered_ok : (a : A) → ok a ≡ x → true ≡ answered x
  unfolding answered
  answered_ok a e = holds_ok (λ a. true) x a e true refl

  pub answer_of_law : answered x ≡ true → (a : A) × (ok a ≡ x)
  unfolding answered
  answer_of_law h = let g = held (λ a. true) x h in (g.0, g.1)

-- ---- what an outcome was made of
pub outcome_fine : {A : Type 0} (x : Answer A) → fine ≡ outcome x → (a : A) × (ok a ≡ x)
outcome_fine (ok a) e = (a, refl)
outcome_fine (refused r) e = let z : ◌≡◌ {A = ℕ} 0 1 = cc in absurd (zero_one z)

pub outcome_no : {A : Type 0} (x : Answer A) (r : Refusal) → refused r ≡ outcome x → refused r ≡ x
outcome_no (ok a) r e = let z : ◌≡◌ {A = ℕ} 0 1 = cc in absurd (zero_one z)
outcome_no (refused k) r e = let z : r ≡ k = cc in ap refused z

module _ {A : Type 0} (x : Answer (List A)) where
  pub many_no : (k : Refusal) → refused k ≡ x → refused k ≡ how_many x
  many_no k e = rw (← e)

  pub many_is : (l : List A) → ok l ≡ x → (n : ℕ) → n ≡ length l → ok n ≡ how_many x
  many_is l e n h = rw (← e, h)

  -- lent memory
  pub left_no : (k : Refusal) → refused k ≡ x → (room : List A) → room ≡ left room x
  left_no k e room = rw (← e)

  pub left_is : (l : List A) → ok l ≡ x → (room : List A) → l ++ drop (length l) room ≡ left room x
  left_is l e room = rw (← e)
