-- Laws of specs/Varint, as proofs cite them. Nothing here need be believed.
-- Assumes nothing.
use Prim.Native.Nat.{ℕ}
use mathlib.Core.Path.{◌≡◌, ap}
use mathlib.Core.List.{List}
use mathlib.Core.Bool.{true}
use lib.IntN.{ℤ}
use Rattle.answer.specs.declared.Refusal.{Refusal}
use Rattle.answer.specs.Refusals.{placed_at}
use Rattle.answer.specs.Answers.{Answer, ok, refused, about}
use Rattle.varints.specs.Varint.{unzig, digits, signed, number_at}

-- ---- the digits decide the number
module _ (s : List ℕ) (p : ℕ) where
  pub number_ok : (z : ℤ) (n q : ℕ) → z ≡ unzig n → ok (n, q) ≡ digits 4 true s p → ok (z, q) ≡ number_at s p
  unfolding number_at
  number_ok z n q h e = rw h (ap (λ (x : Answer (ℕ × ℕ)). about p (signed x)) e)

  pub number_no : (r : Refusal) → refused r ≡ digits 4 true s p → refused (placed_at p r) ≡ number_at s p
  unfolding number_at
  number_no r e = ap (λ (x : Answer (ℕ × ℕ)). about p (signed x)) e
