-- Laws of specs/Refusals, and of what answers and walks do with a refusal's place, as proofs cite them. Nothing here need be believed.
-- Assumes nothing.
use Prim.Native.Nat.{ℕ, ◌+◌, ◌≤◌, ◌<◌, min}
use native.Mathlib.Omega.{arith}
use mathlib.Core.Path.{◌≡◌, refl, ap}
use mathlib.Core.Bool.{Bool, true, false}
use mathlib.Core.Logic.{◌⊎◌, inl, inr}
use Rattle.answer.specs.declared.Refusal.{Refusal}
use Rattle.answer.specs.Refusals.{no_place, refusal, placed_at, counted_from}
use Rattle.answer.specs.Answers.{Answer, ok, refused, ◌then◌, need, outcome, about, behind, holds}
use Rattle.answer.specs.Walks.{Walk, broken, on, off, walk_behind}

-- ---- a place counted from another byte
module _ (a : ℕ) (r : Refusal) where
  pub counted_on : a + r.place < no_place → placed_at (a + r.place) r ≡ counted_from a r
  unfolding counted_from
  counted_on h = let e : a + r.place ≡ min (a + r.place) no_place = omega arith in ap (λ (p : ℕ). placed_at p r) e

  pub counted_none : no_place ≤ a + r.place → refusal r.number ≡ counted_from a r
  unfolding counted_from
  counted_none h = let e : no_place ≡ min (a + r.place) no_place = omega arith in ap (λ (p : ℕ). placed_at p r) e

-- a refusal without a place has none from there either
pub counted_plain : (a n : ℕ) → refusal n ≡ counted_from a (refusal n)
counted_plain a n = counted_none a (refusal n) (omega arith)

-- a place that 64 bits hold
pub counted_at : (a p : ℕ) (r : Refusal) → a + p ≤ no_place → placed_at (a + p) r ≡ counted_from a (placed_at p r)
unfolding counted_from
counted_at a p r h = let e : a + p ≡ min (a + p) no_place = omega (arith, h) in ap (λ (q : ℕ). placed_at q r) e

-- ---- the cases of the code
module _ {A : Type 0} (p : ℕ) (x : Answer A) where
  pub behind_ok : (a : A) → ok a ≡ x → ok a ≡ behind p x
  behind_ok a e = rw (← e)

  pub behind_no : (r : Refusal) → refused r ≡ x → refused (counted_from p r) ≡ behind p x
  behind_no r e = rw (← e)

-- what an answer was made of
module _ {A : Type 0} (p : ℕ) where
  pub about_inv : (x : Answer A) (a : A) → ok a ≡ about p x → ok a ≡ x
  about_inv (ok b) a e = e
  about_inv (refused r) a e = let z : ◌≡◌ {A = ℕ} 0 1 = cc in absurd (omega (arith, z))

  pub behind_inv : (x : Answer A) (a : A) → ok a ≡ behind p x → ok a ≡ x
  behind_inv (ok b) a e = e
  behind_inv (refused r) a e = let z : ◌≡◌ {A = ℕ} 0 1 = cc in absurd (omega (arith, z))

-- an outcome changes no place
pub behind_outcome : {A : Type 0} (p : ℕ) (x : Answer A) → outcome (behind p x) ≡ behind p (outcome x)
behind_outcome p (ok a) = refl
behind_outcome p (refused r) = refl

-- no test asks where a refusal stands
pub holds_behind : {A : Type 0} (P : A → Bool) (p : ℕ) (x : Answer A) → holds P x ≡ holds P (behind p x)
unfolding holds
holds_behind P p (ok a) = refl
holds_behind P p (refused r) = refl

module _ {A : Type 0} (p : ℕ) (w : Walk A) where
  pub behind_broken : (r : Refusal) → broken r ≡ w → broken (counted_from p r) ≡ walk_behind p w
  behind_broken r e = rw (← e)

  pub behind_on : on ≡ w → on ≡ walk_behind p w
  behind_on e = rw (← e)

  pub behind_off : (b : Bool) (a : A) → off b a ≡ w → off b a ≡ walk_behind p w
  behind_off b a e = rw (← e)

-- ---- what a refusal was made of
pub refused_inv : {A : Type 0} (r k : Refusal) → ◌≡◌ {A = Answer A} (refused r) (refused k) → r ≡ k
refused_inv r k e = cc

-- an answer is not both
pub never_both : {A : Type 0} (r : Refusal) (a : A) → refused r ≡ ok a → ⊥
never_both r a e = let z : ◌≡◌ {A = ℕ} 0 1 = cc in omega (arith, z)

pub then_split : {A B : Type 0} (x : Answer A) (k : A → Answer B) (r : Refusal) → refused r ≡ (x then k) → (refused r ≡ x) ⊎ ((a : A) × (ok a ≡ x) × (refused r ≡ k a))
then_split (ok a) k r e = inr (a, refl, e)
then_split {A} {B} (refused m) k r e = inl (ap refused (refused_inv {A = B} r m e))

pub need_split : {A : Type 0} (n : ℕ) (b : Bool) (x : Answer A) (r : Refusal) → refused r ≡ need n b x → (r ≡ refusal n) ⊎ ((b ≡ true) × (refused r ≡ x))
need_split n true x r e = inr (refl, e)
need_split {A} n false x r e = inl (refused_inv {A = A} r (refusal n) e)
