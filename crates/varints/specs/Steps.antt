-- Nothing here need be believed: the steps of the code that reads a number cite it, and no public promise does.
-- Assumes nothing.
use Rattle.std.specs.Prelude.{ℕ, false, List}
use Rattle.answer.specs.Answers.{Answer}
use Rattle.varints.specs.Varint.{below, digits}

-- the digits from p on with the n that was read before them, where the next digit's unit is u and k more may follow it
unfoldable pub rest : ℕ → ℕ → ℕ → List ℕ → ℕ → Answer (ℕ × ℕ)
rest n u k s p = below n u (digits k false s p)
