-- Nothing here need be believed: the code's own steps cite it, and no public promise does.
-- Assumes nothing.
use Rattle.std.specs.Prelude.{ℕ, ◌+◌, ◌*◌, ◌≤◌, ◌<◌, List, length}
use Rattle.reader_names.specs.Names.{blob_len, offset_at}

-- what is known after the first check, and after the second
pub record Shaped (s : List ℕ) (at n : ℕ) : Type 0 where
  pub fits : at + 8 + 4 * n + blob_len s at ≤ length s
  pub small : length s < 4_294_967_296

pub record Ordered (s : List ℕ) (at n : ℕ) : Type 0 where
  pub shape : Shaped s at n
  pub rises : (i : ℕ) → i < n → offset_at s at i < offset_at s at (i + 1)
  pub ends : (i : ℕ) → i < n → offset_at s at (i + 1) ≤ blob_len s at
