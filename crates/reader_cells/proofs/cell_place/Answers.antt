-- `cell_place` meets its contract: a column and a row inside the grid, so the sums fit 64 bits.
-- Assumes nothing.
use native.Mathlib.Omega.{arith}
use mathlib.Core.Path.{◌≡◌, sym, ◌∙◌}
use mathlib.Core.Bool.{Bool, true, ◌&&◌}
use lib.IntN.{ℤ}
use mir.Syntax.{w64}
use mir.Val.{SFits, to_z, of_z}
use mir.ValLaws.{to_z-of_z}
use Rattle.opened.specs.declared.Grid.{Grid}
use Rattle.reader_cells.specs.Asked.{in_span, in_grid, cell_of}
use Rattle.reader_cells.proofs.CellNumbers.{spans_grid, column_cast, row_cast, column_word, row_words}
use Rattle.reader_cells.proofs.cell_place.Goals as goal

inside : (g : Grid) (column row : ℤ) (a b : Bool) → a ≡ in_span (to_z w64 (of_z w64 column)) g.cols → b ≡ in_span (to_z w64 (of_z w64 row)) g.rows
    → SFits w64 column → SFits w64 row → a && b ≡ true → in_grid g column row ≡ true
inside g column row a b e f h k n = sym (spans_grid g column row a b e f h k) ∙ n

pub returns-then-not-in_span : goal.returns-then-not-in_span
returns-then-not-in_span c = rw (sym (spans_grid c.args.g _ _ _ _ c.in_span.ensures c.in_span-2.ensures c.ranges.column c.ranges.row) ∙ c.if-not-in_span.true)

pub overflow_cast-cell : goal.overflow_cast-cell
overflow_cast-cell c = row_cast c.args.g _ _ (inside c.args.g _ _ _ _ c.in_span.ensures c.in_span-2.ensures c.ranges.column c.ranges.row c.if-not-in_span.false) c.ranges.column c.ranges.row

pub overflow_mul-cell : goal.overflow_mul-cell
overflow_mul-cell c = record { fits = omega (arith, column_word c.args.g _ _ (inside c.args.g _ _ _ _ c.in_span.ensures c.in_span-2.ensures c.ranges.column c.ranges.row c.if-not-in_span.false) c.ranges.column c.ranges.row, row_words c.args.g _ _ (inside c.args.g _ _ _ _ c.in_span.ensures c.in_span-2.ensures c.ranges.column c.ranges.row c.if-not-in_span.false) c.ranges.column c.ranges.row _ c.from.ensures (omega arith) (omega arith)) }

pub overflow_cast-cell-2 : goal.overflow_cast-cell-2
overflow_cast-cell-2 c = column_cast c.args.g _ _ (inside c.args.g _ _ _ _ c.in_span.ensures c.in_span-2.ensures c.ranges.column c.ranges.row c.if-not-in_span.false) c.ranges.column c.ranges.row

pub overflow_add-cell : goal.overflow_add-cell
overflow_add-cell c = record { fits = omega (arith, column_word c.args.g _ _ (inside c.args.g _ _ _ _ c.in_span.ensures c.in_span-2.ensures c.ranges.column c.ranges.row c.if-not-in_span.false) c.ranges.column c.ranges.row, row_words c.args.g _ _ (inside c.args.g _ _ _ _ c.in_span.ensures c.in_span-2.ensures c.ranges.column c.ranges.row c.if-not-in_span.false) c.ranges.column c.ranges.row _ c.from.ensures (omega arith) (omega arith)) }

pub overflow_mul-result : goal.overflow_mul-result
overflow_mul-result c = record { fits = omega (arith, column_word c.args.g _ _ (inside c.args.g _ _ _ _ c.in_span.ensures c.in_span-2.ensures c.ranges.column c.ranges.row c.if-not-in_span.false) c.ranges.column c.ranges.row, row_words c.args.g _ _ (inside c.args.g _ _ _ _ c.in_span.ensures c.in_span-2.ensures c.ranges.column c.ranges.row c.if-not-in_span.false) c.ranges.column c.ranges.row _ c.from.ensures (omega arith) (omega arith)) }

pub overflow_add-result-2 : goal.overflow_add-result-2
overflow_add-result-2 c = record { fits = omega (arith, column_word c.args.g _ _ (inside c.args.g _ _ _ _ c.in_span.ensures c.in_span-2.ensures c.ranges.column c.ranges.row c.if-not-in_span.false) c.ranges.column c.ranges.row, row_words c.args.g _ _ (inside c.args.g _ _ _ _ c.in_span.ensures c.in_span-2.ensures c.ranges.column c.ranges.row c.if-not-in_span.false) c.ranges.column c.ranges.row _ c.from.ensures (omega arith) (omega arith)) }

pub returns : goal.returns
unfolding cell_of
returns c = rw (to_z-of_z w64 _ c.ranges.row, to_z-of_z w64 _ c.ranges.column, c.from.ensures, inside c.args.g _ _ _ _ c.in_span.ensures c.in_span-2.ensures c.ranges.column c.ranges.row c.if-not-in_span.false)
