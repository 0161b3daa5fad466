-- Whole numbers of a column and a row: they fit, and lie in the grid.
-- Assumes nothing.
use Prim.Native.Nat.{ℕ, ◌*◌, ◌<◌}
use native.Mathlib.Omega.{arith}
use mathlib.Core.Path.{◌≡◌, ap, ap₂, ◌∙◌}
use mathlib.Core.Bool.{Bool, true, ◌&&◌, false≢true}
use borrow.Author.Tests.{ltb-true}
use lib.Dec.{T, ltb}
use lib.IntN.{ℤ, pos, negsuc, nat_abs}
use lib.Signed.{le_z, lt_z, non_neg, nat_abs-le}
use mir.Syntax.{w64}
use mir.Val.{SFits, Fits, to_z, of_z}
use mir.ValLaws.{to_z-of_z}
use Rattle.basics.specs.Truth.{and_l, and_r}
use Rattle.opened.specs.declared.Grid.{Grid}
use Rattle.reader_cells.specs.Asked.{in_span, in_grid}
use Rattle.reader_grid.proofs.Checking.{area_fits}

-- a number not below 0
pub not_negative : (z : ℤ) → le_z (pos 0) z ≡ true → T (non_neg z)
not_negative (pos n) h = tt
not_negative (negsuc n) h = absurd (false≢true h)

-- a column or row of the grid is below their number
pub span_below : (z : ℤ) (n : ℕ) → in_span z n ≡ true → nat_abs z < n
span_below (pos a) n h = ltb-true a n (and_r (le_z (pos 0) (pos a)) (ltb a n) h)
span_below (negsuc a) n h = absurd (false≢true h)

-- the two tests of a cell in 64 bits
pub spans_grid : (g : Grid) (column row : ℤ) (a b : Bool) → a ≡ in_span (to_z w64 (of_z w64 column)) g.cols → b ≡ in_span (to_z w64 (of_z w64 row)) g.rows
    → SFits w64 column → SFits w64 row → (a && b) ≡ in_grid g column row
unfolding in_grid
spans_grid g column row a b e f h k =
    ap₂ ◌&&◌ (e ∙ ap (λ (z : ℤ). in_span z g.cols) (to_z-of_z w64 column h)) (f ∙ ap (λ (z : ℤ). in_span z g.rows) (to_z-of_z w64 row k))

-- what a cell inside the grid tells of its column and row
module _ (g : Grid) (column row : ℤ) (h : in_grid g column row ≡ true) where
  column_in : in_span column g.cols ≡ true
  unfolding in_grid
  column_in = and_l (in_span column g.cols) (in_span row g.rows) h

  row_in : in_span row g.rows ≡ true
  unfolding in_grid
  row_in = and_r (in_span column g.cols) (in_span row g.rows) h

  pub column_from : le_z (pos 0) column ≡ true
  column_from = and_l (le_z (pos 0) column) (lt_z column (pos g.cols)) column_in

  pub row_from : le_z (pos 0) row ≡ true
  row_from = and_l (le_z (pos 0) row) (lt_z row (pos g.rows)) row_in

  pub column_below : nat_abs column < g.cols
  column_below = span_below column g.cols column_in

  pub row_below : nat_abs row < g.rows
  row_below = span_below row g.rows row_in

  -- and in 64 bits
  module _ (k : SFits w64 column) (l : SFits w64 row) where
    pub column_cast : T (non_neg (to_z w64 (of_z w64 column))) × Fits w64 (nat_abs (to_z w64 (of_z w64 column)))
    column_cast = rw (to_z-of_z w64 column k) (not_negative column column_from, record { fits = omega (arith, nat_abs-le column k.sfits) })

    pub row_cast : T (non_neg (to_z w64 (of_z w64 row))) × Fits w64 (nat_abs (to_z w64 (of_z w64 row)))
    row_cast = rw (to_z-of_z w64 row l) (not_negative row row_from, record { fits = omega (arith, nat_abs-le row l.sfits) })

    pub column_word : nat_abs (to_z w64 (of_z w64 column)) < g.cols
    column_word = rw (to_z-of_z w64 column k) column_below

    -- the cells of all rows before it, where w is how many a row has
    pub row_words : (w : ℕ) → w ≡ g.cols → g.rows < 0x1_0000 → w < 0x1_0000 → nat_abs (to_z w64 (of_z w64 row)) * w < 0x1_0000_0000
    row_words w e m n = rw (to_z-of_z w64 row l) (area_fits _ _ (omega (arith, row_below)) n)
