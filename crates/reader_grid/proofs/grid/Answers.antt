-- `grid` meets its contract: the cells and their candidates fill the section.
-- Assumes nothing.
use mathlib.Core.Path.{sym}
use native.Mathlib.Omega.{arith}
use borrow.Author.Tests.{eqb-true}
use Rattle.answer.proofs.CheckLaws.{fine_claim}
use Rattle.reader_grid.proofs.grid.Goals as goal

pub invariant_of-cells-clause-fits : goal.invariant_of-cells-clause-fits
invariant_of-cells-clause-fits c = omega (arith, c.requires.0.fits, eqb-true _ _ (fine_claim _ _ (sym c.in_ok-claim-3.ensures)))
