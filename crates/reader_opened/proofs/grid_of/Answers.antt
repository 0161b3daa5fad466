-- `reader_opened::grid_of` meets its contract.
-- Assumes nothing.
use mathlib.Core.Path.{refl, ◌∙◌}
use mir.Syntax.{w16}
use mir.ValLaws.{to_z-of_z}
use native.Mathlib.Omega.{arith}
use Rattle.reader_opened.proofs.OpenedLaws.{grid_none, grid_is_law}
use Rattle.reader_opened.proofs.grid_of.Goals as goal

pub returns-then-p-lt-GRID : goal.returns-then-p-lt-GRID
returns-then-p-lt-GRID c = grid_none _ _ c.if-p-lt-GRID.true

pub returns : goal.returns
returns c =
    let x = c.at in
    let y = c.at-2 in
    grid_is_law _ _ _ _ _ _ _ _ (omega arith) refl
    (to_z-of_z w16 x.result (record { sfits = x.type_inv }) ∙ x.ensures) (to_z-of_z w16 y.result (record { sfits = y.type_inv }) ∙ y.ensures) c.at-3.ensures c.at-4.ensures c.at-5.ensures
