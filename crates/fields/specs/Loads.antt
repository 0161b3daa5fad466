-- What a load answers: the number at that place, or 44 where it would read past the lent bytes.
-- Assumes nothing.
use Rattle.std.specs.Prelude.{ℕ, ◌+◌, Bool, leb, List, length, ℤ}
use Rattle.std.specs.Int.{Width}
use Rattle.std.proofs.Common.{to_z}
use Rattle.answer.specs.Answers.{Answer, ok, need, ◌then◌}
use Rattle.fields.specs.Le.{le}

-- n bytes from p on lie within the bytes
unfoldable pub inside : ℕ → List ℕ → ℕ → Bool
inside n s p = leb (p + n) (length s)

unfoldable pub load_at : ℕ → List ℕ → ℕ → Answer ℕ
load_at n s p = need 44 (inside n s p) (ok (le n s p))

-- the same, as a number of another type, of these bits
unfoldable pub loaded : {A : Type 0} → (ℕ → A) → ℕ → List ℕ → ℕ → Answer A
loaded of n s p = load_at n s p then λ x. ok (of x)

-- the same, as a signed number of width w
unfoldable pub signed_at : Width → ℕ → List ℕ → ℕ → Answer ℤ
signed_at w n s p = load_at n s p then λ x. ok (to_z w x)
