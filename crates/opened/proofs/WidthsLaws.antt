-- Each width of specs/Widths is that of its row.
-- Assumes nothing.
use mathlib.Core.Path.{◌≡◌, refl}
use Rattle.fields.specs.Row.{row_wide}
use Rattle.opened.specs.Widths.{list_row, list_wide, ring_row, ring_wide, op_row, op_wide, group_row, group_wide, chunk_row, chunk_wide, grid_row, grid_wide}

pub list_wide_law : row_wide list_row ≡ list_wide
list_wide_law = refl

pub ring_wide_law : row_wide ring_row ≡ ring_wide
ring_wide_law = refl

pub op_wide_law : row_wide op_row ≡ op_wide
op_wide_law = refl

pub group_wide_law : row_wide group_row ≡ group_wide
group_wide_law = refl

pub chunk_wide_law : row_wide chunk_row ≡ chunk_wide
chunk_wide_law = refl

pub grid_wide_law : row_wide grid_row ≡ grid_wide
grid_wide_law = refl
