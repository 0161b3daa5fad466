-- A signed number's bits: a number below 0 is the complement of its own complement. Once over the width. And numbers of two bytes and of n.
-- Assumes nothing.
use Prim.Native.Nat.{ℕ, suc, ◌+◌, ◌-◌, ◌*◌, ◌^◌, ◌≤◌, ◌<◌}
use native.Mathlib.Omega.{arith}
use mathlib.Core.Path.{◌≡◌, refl, ap, ◌∙◌}
use mathlib.Core.Bool.{Bool, true, false, not}
use mathlib.Core.List.{List}
use borrow.Author.Tests.{ltb-true}
use lib.Arith.{sub-sub_self}
use lib.ListN.{get_or}
use lib.IntN.{ℤ, pos, negsuc}
use lib.Signed.{lt_z, mag}
use mir.Syntax.{Width}
use mir.Val.{to_z, of_z, bits, hbits, SFits}
use mir.ValLaws.{to_z_pos, to_z-of_z, half_full}
use Rattle.answer.specs.declared.Refusal.{Refusal}
use Rattle.answer.specs.Refusals.{refusal}
use Rattle.answer.specs.Answers.{ok, refused}
use Rattle.answer.proofs.CheckLaws.{told_yes, told_no}
use Rattle.answer.proofs.AnswersLaws.{need_met, need_not, then_ok, then_no}
use Rattle.fields.specs.Le.{le}
use Rattle.fields.specs.Loads.{inside, load_at, signed_at}

-- what is known of a number that the test found below 0, and of its complement
pub record Below (w : Width) (z : ℤ) : Type 0 where
  pub size : ℕ
  pub small : size < 2 ^ hbits w
  pub turned : to_z w (2 ^ bits w - 1 - of_z w z) ≡ pos size
  pub minus : z ≡ negsuc size
  pub back : 2 ^ bits w - 1 - size ≡ of_z w z

pub below : (w : Width) (z : ℤ) → SFits w z → lt_z (to_z w (of_z w z)) (pos 0) ≡ true → Below w z
below w z f t = at z f.sfits (rw (to_z-of_z w z f) at t)
  where
    at : (y : ℤ) → mag y < 2 ^ hbits w → lt_z y (pos 0) ≡ true → Below w y
    at (negsuc n) h e =
        let l = half_full w h in
        let same : 2 ^ bits w - 1 - (2 ^ bits w - suc n) ≡ n = omega arith in
        record { size = n; small = h; turned = ap (to_z w) same ∙ to_z_pos w n h; minus = refl; back = omega arith }
    at (pos n) h e = absurd (omega (arith, ltb-true n 0 e))

-- one that is not below 0 is its own bits
pub record Above (w : Width) (z : ℤ) : Type 0 where
  pub size : ℕ
  pub small : size < 2 ^ hbits w
  pub is : to_z w (of_z w z) ≡ pos size
  pub plain : z ≡ pos size
  pub own : size ≡ of_z w z

pub above : (w : Width) (z : ℤ) → SFits w z → lt_z (to_z w (of_z w z)) (pos 0) ≡ false → Above w z
above w z f t = at z f.sfits (rw (to_z-of_z w z f) at t)
  where
    at : (y : ℤ) → mag y < 2 ^ hbits w → lt_z y (pos 0) ≡ false → Above w y
    at (pos n) h e = record { size = n; small = h; is = to_z_pos w n h; plain = refl; own = refl }
    at (negsuc n) h e = let no : ◌≡◌ {A = ℕ} 0 1 = cc in absurd (omega arith)

-- ---- bytes
pub two : (s : List ℕ) (p : ℕ) → le 2 s p ≡ get_or s p 0 + 256 * get_or s (p + 1) 0
unfolding le
two s p = omega arith

-- one law for every signed width: the complement of the complement
pub signed : (w : Width) (x : ℕ) → x ≤ 2 ^ bits w - 1 → to_z w (2 ^ bits w - 1 - (2 ^ bits w - 1 - x)) ≡ to_z w x
signed w x h = ap (to_z w) (sub-sub_self h)

-- ---- a number of n bytes, by the test r that was made of whether they are there
module _ (n : ℕ) (s : List ℕ) (p : ℕ) where
  module _ (r : Bool) (e : r ≡ inside n s p) where
    pub load_past : (k : Refusal) → not r ≡ true → k ≡ refusal 44 → refused k ≡ load_at n s p
    unfolding load_at
    load_past k h f = ap refused f ∙ need_not 44 _ _ (told_no _ _ e h)

    pub load_in : (x : ℕ) → not r ≡ false → x ≡ le n s p → ok x ≡ load_at n s p
    unfolding load_at
    load_in x h f = ap ok f ∙ need_met 44 _ _ (told_yes _ _ e h)

    pub signed_past : (w : Width) (k : Refusal) → not r ≡ true → k ≡ refusal 44 → refused k ≡ signed_at w n s p
    unfolding signed_at
    signed_past w k h f = then_no _ _ _ (load_past k h f)

    pub signed_in : (w : Width) (z : ℤ) → not r ≡ false → z ≡ to_z w (le n s p) → ok z ≡ signed_at w n s p
    unfolding signed_at
    signed_in w z h f = ap ok f ∙ then_ok _ (λ x. ok (to_z w x)) _ (load_in _ h refl)
