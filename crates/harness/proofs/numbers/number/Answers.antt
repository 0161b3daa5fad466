-- `harness::numbers::number` meets its contract: where four bytes lie there, they are loaded.
-- Assumes nothing.
use Rattle.std.proofs.Common.{◌≡◌, ◌+◌, ◌≤◌, length, ℕ, List, ap, ◌∙◌}
use Rattle.std.specs.Result.{result_unwrap_or}
use borrow.Author.Tests.{le-leb}
use Rattle.answer.specs.Answers.{ok}
use Rattle.fields.specs.Le.{le}
use Rattle.fields.specs.Loads.{inside, load_at, loaded}
use Rattle.harness.proofs.numbers.number.Goals as goal

lies : (s : List ℕ) (p : ℕ) → p + 4 ≤ length s → loaded (λ (x : ℕ). x) 4 s p ≡ ok (le 4 s p)
unfolding inside load_at loaded
lies s p h = rw (le-leb (p + 4) (length s) h)

pub returns : goal.returns
returns c h = c.unwrap_or.ensures ∙ ap (λ x. result_unwrap_or x 4294967295) (c.load.ensures ∙ lies _ _ h)
