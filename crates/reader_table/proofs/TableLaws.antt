-- Laws of specs/Table, as proofs cite them. Nothing here need be believed.
-- Assumes nothing.
use Prim.Native.Nat.{ℕ, ◌≤◌, ◌<◌}
use mathlib.Core.List.{List}
use mathlib.Core.Path.{◌≡◌}
use Rattle.answer.proofs.CheckLaws.{ge_below, lt_below}
use Rattle.answer.specs.Checks.{seek}
use Rattle.reader_table.specs.Table.{sections, off_at, len_at, is_type, has, entry_at, section_of}

module _ (s : List ℕ) (t n k : ℕ) (en : n ≡ sections s) (ek : k ≡ seek (is_type s t) n 0) where
  pub section_none : n ≤ k → record { off = 0; len = 0 } ≡ section_of s t
  unfolding section_of has
  section_none h = rw (← en, ← ek, ge_below k n h)

  pub section_some : (a b : ℕ) → k < n → a ≡ off_at s k → b ≡ len_at s k → record { off = a; len = b } ≡ section_of s t
  unfolding section_of has entry_at
  section_some a b h ea eb = rw (← en, ← ek, lt_below k n h, ea, eb)
