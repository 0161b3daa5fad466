-- Laws of specs/Loads, as proofs cite them. Nothing here need be believed.
-- Assumes nothing.
use Prim.Native.Nat.{ℕ, ◌+◌, ◌-◌, ◌≤◌, ◌<◌}
use native.Mathlib.Omega.{arith}
use mathlib.Core.Path.{◌≡◌, refl, sym, ap, ◌∙◌}
use mathlib.Core.Bool.{Bool, true, false}
use borrow.Author.Tests.{leb-true, leb-false, le-leb, lt-leb}
use lib.Dec.{leb}
use mathlib.Core.List.{List}
use lib.ListN.{length}
use mir.Syntax.{Width}
use mir.Val.{to_z}
use Rattle.answer.specs.declared.Refusal.{Refusal}
use Rattle.answer.specs.Refusals.{refusal}
use Rattle.answer.specs.Answers.{ok, refused, fine, need, ◌then◌}
use Rattle.answer.specs.Checks.{claim}
use Rattle.answer.proofs.CheckLaws.{fine_claim}
use Rattle.fields.specs.Le.{le}
use Rattle.fields.specs.Loads.{inside, load_at, signed_at, loaded}

-- ---- the two kinds of numbers
module _ (n : ℕ) (s : List ℕ) (p : ℕ) where
  -- a natural number's bits are it
  pub loaded_plain : loaded (λ (x : ℕ). x) n s p ≡ load_at n s p
  unfolding loaded
  loaded_plain = elim (load_at n s p) as (λ v. (v then λ (x : ℕ). ok x) ≡ v) [ ok x ↦ refl | refused r ↦ refl ]

  pub loaded_signed : (w : Width) → loaded (to_z w) n s p ≡ signed_at w n s p
  unfolding loaded signed_at
  loaded_signed w = refl

-- ---- laws, once over the width
module _ (n : ℕ) (s : List ℕ) (p : ℕ) where
  pub too_few : length s < n → false ≡ inside n s p
  unfolding inside
  too_few h = sym (lt-leb (p + n) (length s) (omega arith))

  -- the test, with no sum that could overflow
  pub inside_by : n ≤ length s → leb p (length s - n) ≡ inside n s p
  unfolding inside
  inside_by h = by (leb p (length s - n)) refl
    where
      by : (b : Bool) → leb p (length s - n) ≡ b → b ≡ leb (p + n) (length s)
      by true e = sym (le-leb (p + n) (length s) (omega (arith, leb-true p (length s - n) e)))
      by false e = sym (lt-leb (p + n) (length s) (omega (arith, leb-false p (length s - n) e)))

  -- by the claim that was made of the test's answer b
  module _ (b : Bool) (e : b ≡ inside n s p) where
    pub room : fine ≡ claim 44 b → p + n ≤ length s
    unfolding inside
    room h = leb-true _ _ (sym e ∙ fine_claim 44 b (sym h))

    module _ {A : Type 0} (of : ℕ → A) where
      pub load_past : (k : Refusal) → refused k ≡ claim 44 b → refused k ≡ loaded of n s p
      unfolding loaded load_at claim
      load_past k h = rw (← e) (go b h)
        where
          go : (c : Bool) → refused k ≡ claim 44 c → refused k ≡ (need 44 c (ok (le n s p)) then λ x. ok (of x))
          go true h = let z : ◌≡◌ {A = ℕ} 0 1 = cc in absurd (omega arith)
          go false h = let f : k ≡ refusal 44 = cc in ap refused f

      pub load_in : (x : A) → fine ≡ claim 44 b → x ≡ of (le n s p) → ok x ≡ loaded of n s p
      unfolding loaded load_at
      load_in x h f = let t : inside n s p ≡ true = sym e ∙ fine_claim 44 b (sym h) in rw t (ap ok f)
