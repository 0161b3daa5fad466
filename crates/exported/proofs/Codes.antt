-- Answers whose refusals have numbers of the table, as numbers: which number tells what.
-- Assumes nothing.
use Prim.Native.Nat.{ℕ, ◌+◌, ◌<◌}
use native.Mathlib.Omega.{arith}
use mathlib.Core.Path.{◌≡◌, refl, sym, ap, ◌∙◌}
use mathlib.Core.Bool.{Bool, true, false}
use mathlib.Core.Logic.{◌⊎◌, inl, inr}
use lib.IntN.{pos, negsuc}
use Rattle.answer.specs.declared.Refusal.{Refusal}
use Rattle.answer.specs.Answers.{Answer, ok, refused}
use Rattle.tzb_codes.specs.Codes.{refusal_code, done_code, kind_code, inside_code, zone_code, number_code, start_code, end_code}
use Rattle.exported.specs.Words.{last_number, refusing, Refuses}
use Rattle.exported.specs.Words as W
use Rattle.exported.specs.Demand1.{NumberOrRefusal}
use Rattle.exported.specs.Answers.{Tells, yes_no, zone_number}
use Rattle.exported.proofs.Tabled.{Numbered, Tabled, kind_of}
use Rattle.replies.specs.Replies.{Sought, nowhere, in_zone, Chosen, none, all, listed}
use Rattle.tzb_codes.proofs.CodesLaws.{code_small}

-- ---- numbers apart
pub apart : (n m : ℕ) → pos n ≡ negsuc m → ⊥
apart n m e = let z : ◌≡◌ {A = ℕ} 0 1 = cc in omega arith

pub refusal_below : (n : ℕ) (k : Refusal) → pos n ≡ refusal_code k → ⊥
unfolding refusal_code
refusal_below n k e = apart n _ e

pub same_number : (n m : ℕ) → pos n ≡ pos m → n ≡ m
same_number n m e = cc

pub same_below : (n m : ℕ) → negsuc n ≡ negsuc m → n ≡ m
same_below n m e = cc

pub same_refusing : (n m : ℕ) → refusing n ≡ refusing m → n ≡ m
same_refusing n m e = let h : 999 + n ≡ 999 + m = same_below (999 + n) (999 + m) e in omega arith

-- ---- a refusal
pub code_is : (k : Refusal) → Numbered last_number k → refusal_code k ≡ refusing k.number
code_is k h = sym (code_small k (omega (arith, h.greatest)))

pub refuses : (k : Refusal) → Numbered last_number k → Refuses (refusal_code k)
refuses k h = record { number = k.number; least = h.least; greatest = h.greatest; tells = code_is k h }

-- ---- answers
module _ {A : Type 0} where
  pub done_told : (x : Answer A) → Tabled last_number x → (done_code x ≡ pos 0) ⊎ Refuses (done_code x)
  done_told (ok a) h = inl refl
  done_told (refused k) h = inr (refuses k h.by)

pub number_told : (x : Answer ℕ) → Tabled last_number x → NumberOrRefusal (number_code x)
number_told (ok n) h = inl (n, refl)
number_told (refused k) h = inr (refuses k h.by)

pub start_told : (x : Answer (ℕ × ℕ)) → Tabled last_number x → NumberOrRefusal (start_code x)
start_told (ok b) h = inl (b.0, refl)
start_told (refused k) h = inr (refuses k h.by)

pub end_told : (x : Answer (ℕ × ℕ)) → Tabled last_number x → NumberOrRefusal (end_code x)
end_told (ok b) h = inl (b.1, refl)
end_told (refused k) h = inr (refuses k h.by)

pub kind_told : (x : Answer Chosen) → Tabled last_number x → NumberOrRefusal (kind_code x)
kind_told (ok none) h = inl (0, refl)
kind_told (ok (all n)) h = inl (1, refl)
kind_told (ok (listed n place)) h = inl (2, refl)
kind_told (refused k) h = inr (refuses k h.by)

pub inside_told : (x : Answer Bool) → Tabled last_number x → ((inside_code x ≡ pos 1) ⊎ (inside_code x ≡ pos 0)) ⊎ Refuses (inside_code x)
inside_told (ok true) h = inl (inl refl)
inside_told (ok false) h = inl (inr refl)
inside_told (refused k) h = inr (refuses k h.by)

pub zone_told : (bound : ℕ) (x : Answer Sought) → Tabled last_number x → ((zone : ℕ) → ok (in_zone zone) ≡ x → zone < bound)
    → ((zone : ℕ) × (zone < bound) × (zone_code x ≡ pos zone)) ⊎ ((zone_code x ≡ W.none) ⊎ Refuses (zone_code x))
zone_told bound (ok nowhere) h g = inr (inl refl)
zone_told bound (ok (in_zone zone)) h g = inl (zone, g zone refl, refl)
zone_told bound (refused k) h g = inr (inr (refuses k h.by))

-- ---- the answer in words
pub inside_tells : (x : Answer Bool) → Tabled last_number x → Tells yes_no x (inside_code x)
inside_tells x t = record { value = value x; refusal = refusal_told x t }
  where
    value : (x : Answer Bool) (b : Bool) → ok b ≡ x → inside_code x ≡ yes_no b
    value x true e = ap inside_code (sym e)
    value x false e = ap inside_code (sym e)

    refusal_told : (x : Answer Bool) → Tabled last_number x → (k : Refusal) → refused k ≡ x → inside_code x ≡ refusing k.number
    refusal_told x t k e = ap inside_code (sym e) ∙ code_is k (kind_of x k e t)

pub zone_tells : (x : Answer Sought) → Tabled last_number x → Tells zone_number x (zone_code x)
zone_tells x t = record { value = value x; refusal = refusal_told x t }
  where
    value : (x : Answer Sought) (z : Sought) → ok z ≡ x → zone_code x ≡ zone_number z
    value x nowhere e = ap zone_code (sym e)
    value x (in_zone zone) e = ap zone_code (sym e)

    refusal_told : (x : Answer Sought) → Tabled last_number x → (k : Refusal) → refused k ≡ x → zone_code x ≡ refusing k.number
    refusal_told x t k e = ap zone_code (sym e) ∙ code_is k (kind_of x k e t)
