-- Laws of specs/Opened, as proofs cite them. Nothing here need be believed.
-- Assumes nothing.
use Prim.Native.Nat.{ℕ, ◌+◌, ◌-◌, ◌≤◌, ◌<◌}
use native.Mathlib.Omega.{arith}
use mathlib.Core.Path.{◌≡◌, refl}
use mathlib.Core.Bool.{Bool, true, false}
use mathlib.Core.List.{List}
use lib.ListN.{length}
use lib.IntN.{ℤ}
use mir.Syntax.{w16}
use mir.Val.{to_z}
use Rattle.fields.specs.Le.{le}
use Rattle.answer.specs.Answers.{fine}
use Rattle.answer.specs.Checks.{seek, below}
use Rattle.answer.proofs.CheckLaws.{fine_one, fine_rest, fine_claim, at_le, below_lt, le_at, gt_at, each_at}
use Rattle.opened.specs.declared.Section.{Section}
use Rattle.reader_table.specs.Table.{sections, has, off_at, len_at, is_type, entries_check, entry_check, placed_check, section_of, entry_at, pick_section}
use Rattle.opened.specs.Within.{Within}
use Rattle.reader_opened.specs.Opened.{no_grid, grid_of, Tabled}

placed_in : (s : List ℕ) (k : ℕ) → entry_check s k ≡ fine → off_at s k + len_at s k ≤ length s - 4
unfolding entry_check placed_check
placed_in s k e = at_le _ _ (fine_claim _ _ (fine_one _ _ (fine_rest _ _ (fine_rest _ _ (fine_one _ _ e)))))

-- every section of a file whose table is fine lies in the file
pub within : (s : List ℕ) → Tabled s → (t : ℕ) → Within s (section_of s t)
unfolding section_of has entry_at entries_check
within s w t = go (below k (sections s)) refl
  where
    k : ℕ
    k = seek (is_type s t) (sections s) 0

    go : (b : Bool) → below k (sections s) ≡ b → Within s (pick_section b (entry_at s k) (record { off = 0; len = 0 }))
    go true e = record { fits = omega (arith, placed_in s k (each_at (entry_check s) (sections s) k w.table (below_lt _ _ e))) }
    go false e = record { fits = omega arith }

module _ (s : List ℕ) (p : Section) where
  pub grid_none : p.len < 12 → no_grid ≡ grid_of s p
  unfolding grid_of
  grid_none h = rw (gt_at 12 p.len h)

  pub grid_is_law : (at : ℕ) (x y : ℤ) (c d z : ℕ) → 12 ≤ p.len → at ≡ p.off → x ≡ to_z w16 (le 2 s at) → y ≡ to_z w16 (le 2 s (at + 2))
      → c ≡ le 2 s (at + 4) → d ≡ le 2 s (at + 6) → z ≡ le 4 s (at + 8) → record { off = p.off; lng = x; lat = y; cols = c; rows = d; total = z } ≡ grid_of s p
  unfolding grid_of
  grid_is_law at x y c d z h e ex ey ec ed ez = rw (le_at 12 p.len h, ex, ey, ec, ed, ez, e)
