-- Document 01, "Opening, in this order", 17 to 20, and what is kept of an opened file.
-- Assumes nothing.
use Rattle.std.specs.Prelude.{ℕ, ◌+◌, ◌*◌, ◌/◌, ◌%◌, ◌≡◌, Bool, true, false, cond, List, [], ◌∷◌, pos}
use Rattle.std.specs.Int.{w16}
use Rattle.std.proofs.Common.{to_z}
use Rattle.fields.specs.Le.{le}
use Rattle.answer.specs.Answers.{Check, fine}
use Rattle.answer.specs.Checks.{claim, first, each, at_most, same}
use Rattle.reader_head.specs.Head.{Headed}
use Rattle.opened.specs.declared.Section.{Section}
use Rattle.reader_table.specs.Table.{sections, has, entries_check, section_of}
use Rattle.reader_opened.specs.declared.Sections.{Sections}
use Rattle.opened.specs.declared.Directory.{Directory}
use Rattle.opened.specs.declared.Grid.{Grid}
use Rattle.opened.specs.declared.Opened.{Opened}
use Rattle.opened.specs.Widths.{list_wide, ring_wide, op_wide, group_wide, chunk_wide, grid_wide}

-- Types 1 to 7 and 9 present (17);
unfoldable pub present_at : List ℕ → ℕ → Check
present_at s t = claim 17 (has s t (sections s))

unfoldable pub present_check : List ℕ → Check
present_check s = first (each (present_at s) 7 1 ∷ present_at s 9 ∷ [])

-- flag bit 0 set exactly if type 8 is there (18);
unfoldable pub bit : Bool → ℕ
bit true = 1
bit false = 0

unfoldable pub flag_check : List ℕ → Check
flag_check s = first (claim 18 (same (le 4 s 8 % 2) (bit (has s 8 (sections s)))) ∷ [])

-- TZDIR is 24 times the zone count, POLYDIR and CHUNKDIR multiples of 24, RINGDIR of 28, RINGOPS of 4, GROUPDIR of 44 (19);
unfoldable pub zones_check : Sections → Check
zones_check o = first (claim 19 (same o.tzdir.len (list_wide * o.zones)) ∷ [])

unfoldable pub lengths_check : Sections → Check
lengths_check o =
    first
    (claim 19 (same (o.polydir.len % list_wide) 0)
    ∷ claim 19 (same (o.ringdir.len % ring_wide) 0)
    ∷ claim 19 (same (o.ringops.len % op_wide) 0)
    ∷ claim 19 (same (o.groupdir.len % group_wide) 0)
    ∷ claim 19 (same (o.chunkdir.len % chunk_wide) 0)
    ∷ [])

-- the other five have at least one record (20).
unfoldable pub counts_check : Sections → Check
counts_check o =
    first
    (claim 20 (at_most list_wide o.polydir.len)
    ∷ claim 20 (at_most ring_wide o.ringdir.len)
    ∷ claim 20 (at_most op_wide o.ringops.len)
    ∷ claim 20 (at_most group_wide o.groupdir.len)
    ∷ claim 20 (at_most chunk_wide o.chunkdir.len)
    ∷ [])

-- what the table says of a file
unfoldable pub sections_of : List ℕ → Sections
sections_of s =
    record {
      flags = le 4 s 8;
      zones = le 4 s 40;
      names = section_of s 1;
      tzdir = section_of s 2;
      polydir = section_of s 3;
      ringdir = section_of s 4;
      ringops = section_of s 5;
      groupdir = section_of s 6;
      chunkdir = section_of s 7;
      gridpart = section_of s 8;
      points = section_of s 9;
    }

-- GRID, 12 bytes: i16 first longitude, i16 first latitude, u16 columns, u16 rows, u32 candidate total
abbrev pub no_grid : Grid
no_grid = record { off = 0; lng = pos 0; lat = pos 0; cols = 0; rows = 0; total = 0 }

unfoldable pub grid_of : List ℕ → Section → Grid
grid_of s p =
    cond (at_most grid_wide p.len)
    (record {
      off = p.off;
      lng = to_z w16 (le 2 s p.off);
      lat = to_z w16 (le 2 s (p.off + 2));
      cols = le 2 s (p.off + 4);
      rows = le 2 s (p.off + 6);
      total = le 4 s (p.off + 8);
    })
    no_grid

-- the records of a section, each w bytes long
unfoldable pub directory_of : Section → ℕ → Directory
directory_of p w = record { off = p.off; count = p.len / w }

-- what is kept of an opened file
unfoldable pub opened_of : Sections → Grid → Opened
opened_of p g =
    record {
      flags = p.flags;
      names = p.names;
      zones = record { off = p.tzdir.off; count = p.zones };
      polys = directory_of p.polydir list_wide;
      rings = directory_of p.ringdir ring_wide;
      ops = directory_of p.ringops op_wide;
      groups = directory_of p.groupdir group_wide;
      chunks = directory_of p.chunkdir chunk_wide;
      points = p.points;
      grid = g;
    }

-- a file whose head and table are fine
pub record Tabled (s : List ℕ) : Type 0 where
  pub head : Headed s
  pub table : entries_check s ≡ fine
