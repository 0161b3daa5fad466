-- 22 is asked where there are as many bytes as 21 asks for.
-- Assumes nothing.
use mathlib.Core.Path.{sym}
use native.Mathlib.Omega.{arith}
use borrow.Author.Tests.{leb-true}
use Rattle.answer.proofs.CheckLaws.{fine_claim}
use Rattle.reader_names.proofs.shape.Goals as goal

pub at-requires : goal.at-requires
at-requires c = omega (arith, leb-true _ _ (fine_claim _ _ (sym c.in_ok-claim.ensures)))
