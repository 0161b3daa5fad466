-- What a check answers is what it tells: two answers that tell the same are the same.
-- Assumes nothing.
use mathlib.Core.Path.{◌≡◌}
use Rattle.answer.specs.Answers.{Check}

pub checked_one : (r r' : Check) → r ≡ r' → r ≡ r'
checked_one r r' e = e
