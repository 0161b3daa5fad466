-- A row of numbers, each of its own width in bytes, least significant byte first, each behind the one before it: what a layout is.
-- Assumes nothing.
use Rattle.std.specs.Prelude.{ℕ, ◌+◌, ◌<◌, List, [], ◌∷◌, ◌++◌}
use Rattle.fields.specs.Le.{le}
use Rattle.fields.specs.Stores.{to_le, unit}

-- how many bytes a row of these widths takes
abbrev pub row_wide : List ℕ → ℕ
row_wide [] = 0
row_wide (w ∷ ws) = w + row_wide ws

-- the bytes of numbers, at these widths; a number that is missing is 0
unfoldable pub row_bytes : List ℕ → List ℕ → List ℕ
row_bytes [] ns = []
row_bytes (w ∷ ws) [] = to_le w 0 ++ row_bytes ws []
row_bytes (w ∷ ws) (n ∷ ns) = to_le w n ++ row_bytes ws ns

-- the numbers that stand in bytes from p on, at these widths
unfoldable pub row_in : List ℕ → List ℕ → ℕ → List ℕ
row_in [] s p = []
row_in (w ∷ ws) s p = le w s p ∷ row_in ws s (p + w)

-- as many numbers as widths, each in its width
pub data Held : List ℕ → List ℕ → Type 0 where
  none : Held [] []
  one : {w n : ℕ} {ws ns : List ℕ} → n < unit w → Held ws ns → Held (w ∷ ws) (n ∷ ns)
