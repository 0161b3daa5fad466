-- The fields of the record that opening keeps lie in their widths.
-- Assumes nothing.
use Prim.Native.Nat.{ℕ, ◌+◌, ◌*◌, ◌/◌, ◌<◌}
use native.Mathlib.Nat.{div-le_self}
use native.Mathlib.Omega.{arith}
use mathlib.Core.Bool.{Bool, true, false, cond}
use mathlib.Core.List.{List, [], ◌∷◌}
use lib.ListN.{get_or}
use mir.Syntax.{w16}
use mir.Val.{to_z, SFits}
use mir.ValLaws.{to_z-Fits, of_z_fits}
use Rattle.fields.specs.Le.{le}
use Rattle.fields.specs.Row as Row
use Rattle.fields.specs.Row.{one, none}
use Rattle.fields.proofs.Join.{fits}
use Rattle.answer.specs.Checks.{at_most, seek}
use Rattle.opened.specs.declared.Section.{Section}
use Rattle.opened.specs.declared.Grid.{Grid}
use Rattle.opened.specs.Widths.{grid_wide}
use Rattle.reader_table.specs.Table.{has, is_type, sections, section_of, entry_at, pick_section}
use Rattle.reader_opened.specs.Opened.{sections_of, no_grid, grid_of, directory_of, opened_of}
use Rattle.tzb_record.specs.Layout.{grid_numbers, numbers_of, Held}

-- two numbers of four bytes, as a section and a directory have them
record Pair (a b : ℕ) : Type 0 where
  first : a < 0x1_0000_0000
  second : b < 0x1_0000_0000

abbrev HeldSection : Section → Type 0
HeldSection p = Pair p.off p.len

pair : {a b : ℕ} {ws ns : List ℕ} → Pair a b → Row.Held ws ns → Row.Held (4 ∷ 4 ∷ ws) (a ∷ b ∷ ns)
pair h hs = one h.first (one h.second hs)

record HeldGrid (g : Grid) : Type 0 where
  numbers : Row.Held (4 ∷ 2 ∷ 2 ∷ 2 ∷ 2 ∷ 4 ∷ []) (grid_numbers g)
  lng : SFits w16 g.lng
  lat : SFits w16 g.lat

-- records are not more than bytes
records_held : {p : Section} → HeldSection p → (w : ℕ) → Pair p.off (p.len / w)
records_held {p} h w = record { first = h.first; second = omega (arith, div-le_self p.len w, h.second) }

-- bytes: each below 256
module _ (s : List ℕ) (byte : (i : ℕ) → get_or s i 0 < 256) where
  word : (p : ℕ) → le 4 s p < 0x1_0000_0000
  word p = fits 4 s p byte

  half : (p : ℕ) → le 2 s p < 0x1_0000
  half p = fits 2 s p byte

  signed : (p : ℕ) → SFits w16 (to_z w16 (le 2 s p))
  signed p = to_z-Fits w16 (le 2 s p) (record { fits = half p })

  entry_held : (b : Bool) (k : ℕ) → HeldSection (pick_section b (entry_at s k) (record { off = 0; len = 0 }))
  unfolding entry_at
  entry_held true k = record { first = word (64 + 16 * k + 4); second = word (64 + 16 * k + 8) }
  entry_held false k = record { first = omega arith; second = omega arith }

  section_held : (t : ℕ) → HeldSection (section_of s t)
  unfolding section_of
  section_held t = entry_held (has s t (sections s)) (seek (is_type s t) (sections s) 0)

  -- the first bytes of GRID
  abbrev grid_at : Section → Grid
  grid_at p =
      record {
        off = p.off;
        lng = to_z w16 (le 2 s p.off);
        lat = to_z w16 (le 2 s (p.off + 2));
        cols = le 2 s (p.off + 4);
        rows = le 2 s (p.off + 6);
        total = le 4 s (p.off + 8);
      }

  grid_held : (b : Bool) (p : Section) → HeldSection p → HeldGrid (cond b (grid_at p) no_grid)
  grid_held true p h =
      let x = signed p.off in
      let y = signed (p.off + 2) in
      record {
        numbers = one h.first (one (of_z_fits w16 _ x).fits (one (of_z_fits w16 _ y).fits (one (half (p.off + 4)) (one (half (p.off + 6)) (one (word (p.off + 8)) none)))));
        lng = x;
        lat = y;
      }
  grid_held false p h =
      let four : 0 < 0x1_0000_0000 = omega arith in
      let two : 0 < 0x1_0000 = omega arith in
      record {
        numbers = one four (one two (one two (one two (one two (one four none)))));
        lng = record { sfits = omega arith };
        lat = record { sfits = omega arith };
      }

  pub opened_held : Held (opened_of (sections_of s) (grid_of s (sections_of s).gridpart))
  unfolding opened_of sections_of grid_of directory_of numbers_of
  opened_held =
      let grid = grid_held (at_most grid_wide (section_of s 8).len) (section_of s 8) (section_held 8) in
      record {
        numbers =
            one (word 8)
            (pair (section_held 1)
            (pair (record { first = (section_held 2).first; second = word 40 })
            (pair (records_held (section_held 3) _)
            (pair (records_held (section_held 4) _)
            (pair (records_held (section_held 5) _)
            (pair (records_held (section_held 6) _)
            (pair (records_held (section_held 7) _)
            (pair (section_held 9) grid.numbers))))))));
        lng = grid.lng;
        lat = grid.lat;
      }
