-- Laws of specs/Codes, as proofs cite them. Nothing here need be believed.
-- Assumes nothing.
use Prim.Native.Nat.{ℕ, zero, suc, ◌+◌, ◌<◌}
use native.Mathlib.Omega.{arith}
use mathlib.Core.Path.{◌≡◌, refl, ap, ◌∙◌}
use mathlib.Core.List.{List}
use lib.IntN.{ℤ, pos, negsuc, ◌-ℤ◌}
use mir.Syntax.{w32, w64}
use mir.Val.{to_z, of_z, SFits}
use mir.ValLaws.{to_z_pos}
use Rattle.std.proofs.Common.{min, Result, Ok, Err, OkIff, lt-ltb, le-ltb}
use Rattle.std.specs.Result.{result_unwrap_or}
use Rattle.basics.specs.Signed.{back}
use Rattle.answer.specs.declared.Refusal.{Refusal}
use Rattle.answer.specs.Answers.{Answer, ok, refused, outcome, how_many}
use Rattle.tzb_codes.specs.Codes.{refusal_code, done_code, start_code, end_code, whole_code, place_code, place_of}

minus : (m : ℕ) → negsuc 999 -ℤ pos m ≡ negsuc (999 + m)
minus zero = refl
minus (suc k) = ap negsuc (omega arith)

pub code_told : (r : Refusal) (m : ℕ) → m ≡ min r.number 999 → to_z w32 (of_z w32 (negsuc 999 -ℤ to_z w32 m)) ≡ refusal_code r
unfolding refusal_code
code_told r m e =
    ap (λ (z : ℤ). to_z w32 (of_z w32 (negsuc 999 -ℤ z))) (to_z_pos w32 m (omega (arith, e)))
    ∙ ap (λ (z : ℤ). to_z w32 (of_z w32 z)) (minus m)
    ∙ back w32 (negsuc (999 + m)) (omega (arith, e))
    ∙ ap (λ (k : ℕ). negsuc (999 + k)) e

pub code_small : (r : Refusal) → r.number < 1000 → negsuc (999 + r.number) ≡ refusal_code r
unfolding refusal_code
code_small r h = ap negsuc (omega arith)

-- a length or a count that a number of 64 bits holds
pub whole_short : (n : ℕ) → n < 0x8000_0000_0000_0000 → pos n ≡ whole_code n
whole_short n h = ap pos (omega arith)

-- whether an answer was given is told as the answer is
pub done_outcome : {A : Type 0} (x : Answer A) → done_code (outcome x) ≡ done_code x
done_outcome (ok a) = refl
done_outcome (refused k) = refl

-- ---- places
-- a place that a signed number of 64 bits holds, else -1
pub placed : (r : Refusal) {E : Type 0} (x : Result ℤ E) → OkIff x (SFits w64 (pos r.place)) (pos r.place) → result_unwrap_or x (negsuc 0) ≡ place_code r
unfolding place_code
placed r (Ok z) h = h.1 ∙ (let f = h.0.sfits in rw (lt-ltb r.place 0x8000_0000_0000_0000 f))
placed r (Err e) h = rw (le-ltb r.place 0x8000_0000_0000_0000 (omega (arith, not_small)))
  where
    not_small : r.place < 0x8000_0000_0000_0000 → ⊥
    not_small f = h (record { sfits = f })

-- of a name's two ends the one that is asked for
pub start_told : (from to : ℕ) → pos from ≡ start_code (ok (from, to))
start_told from to = refl

pub end_told : (from to : ℕ) → pos to ≡ end_code (ok (from, to))
end_told from to = refl

-- a refusal's place does not depend on what else is told of the answer
pub place_outcome : {A : Type 0} (x : Answer A) → place_of (outcome x) ≡ place_of x
place_outcome (ok a) = refl
place_outcome (refused k) = refl

pub place_many : {A : Type 0} (x : Answer (List A)) → place_of (how_many x) ≡ place_of x
place_many (ok l) = refl
place_many (refused k) = refl
