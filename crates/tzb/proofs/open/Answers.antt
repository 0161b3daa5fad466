-- `open` meets its contract: what the table places lies in the file.
-- Assumes nothing.
use mathlib.Core.Path.{sym}
use Rattle.tzb.proofs.OpeningLaws.{tabled, placed}
use Rattle.tzb.proofs.open.Goals as goal

pub invariant_of-read_sections : goal.invariant_of-read_sections
invariant_of-read_sections c = record { headed = (tabled _ (sym c.in_ok-table.ensures)).head }

pub grid_of-g-requires : goal.grid_of-g-requires
grid_of-g-requires c = rw c.read_sections-p.ensures (placed _ (tabled _ (sym c.in_ok-table.ensures))).grid

pub invariant_of-parts : goal.invariant_of-parts
invariant_of-parts c = record { placed = rw c.read_sections-p.ensures (placed _ (tabled _ (sym c.in_ok-table.ensures))) }
