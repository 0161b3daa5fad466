-- The opened record as bytes: a row of its fields, in the order of the struct, so that a caller in another language keeps it and asks with it.
-- Assumes nothing.
use Rattle.std.specs.Prelude.{ℕ, ◌+◌, List, [], ◌∷◌, ◌++◌, length, get_or}
use Rattle.std.specs.Int.{w16}
use Rattle.std.proofs.Common.{to_z, of_z, SFits}
use Rattle.fields.specs.Row as Row
use Rattle.fields.specs.Row.{row_wide, row_bytes, row_in}
use Rattle.answer.specs.Answers.{Answer, ok, need}
use Rattle.answer.specs.Checks.{at_most, same}
use Rattle.opened.specs.declared.Section.{Section}
use Rattle.opened.specs.declared.Directory.{Directory}
use Rattle.opened.specs.declared.Grid.{Grid}
use Rattle.opened.specs.declared.Opened.{Opened}

-- ---- the row: its widths, and how many bytes they are
abbrev pub widths : List ℕ
widths = 4 ∷ 4 ∷ 4 ∷ 4 ∷ 4 ∷ 4 ∷ 4 ∷ 4 ∷ 4 ∷ 4 ∷ 4 ∷ 4 ∷ 4 ∷ 4 ∷ 4 ∷ 4 ∷ 4 ∷ 4 ∷ 2 ∷ 2 ∷ 2 ∷ 2 ∷ 4 ∷ []

abbrev pub record_wide : ℕ
record_wide = row_wide widths

-- ---- the numbers of a record
abbrev pub section_numbers : Section → List ℕ
section_numbers p = p.off ∷ p.len ∷ []

abbrev pub directory_numbers : Directory → List ℕ
directory_numbers d = d.off ∷ d.count ∷ []

-- a signed number by its bits, in two's complement
abbrev pub grid_numbers : Grid → List ℕ
grid_numbers g = g.off ∷ of_z w16 g.lng ∷ of_z w16 g.lat ∷ g.cols ∷ g.rows ∷ g.total ∷ []

unfoldable pub numbers_of : Opened → List ℕ
numbers_of o =
    o.flags
    ∷ (section_numbers o.names
    ++ directory_numbers o.zones
    ++ directory_numbers o.polys
    ++ directory_numbers o.rings
    ++ directory_numbers o.ops
    ++ directory_numbers o.groups
    ++ directory_numbers o.chunks
    ++ section_numbers o.points
    ++ grid_numbers o.grid)

-- ---- the record of numbers: the parts, each from the k-th number on
abbrev pub section_from : List ℕ → ℕ → Section
section_from ns k = record { off = get_or ns k 0; len = get_or ns (k + 1) 0 }

abbrev pub directory_from : List ℕ → ℕ → Directory
directory_from ns k = record { off = get_or ns k 0; count = get_or ns (k + 1) 0 }

abbrev pub grid_from : List ℕ → ℕ → Grid
grid_from ns k =
    record {
      off = get_or ns k 0;
      lng = to_z w16 (get_or ns (k + 1) 0);
      lat = to_z w16 (get_or ns (k + 2) 0);
      cols = get_or ns (k + 3) 0;
      rows = get_or ns (k + 4) 0;
      total = get_or ns (k + 5) 0;
    }

unfoldable pub opened_from : List ℕ → Opened
opened_from ns =
    record {
      flags = get_or ns 0 0;
      names = section_from ns 1;
      zones = directory_from ns 3;
      polys = directory_from ns 5;
      rings = directory_from ns 7;
      ops = directory_from ns 9;
      groups = directory_from ns 11;
      chunks = directory_from ns 13;
      points = section_from ns 15;
      grid = grid_from ns 17;
    }

-- ---- bytes
unfoldable pub bytes_of : Opened → List ℕ
bytes_of o = row_bytes widths (numbers_of o)

unfoldable pub opened_in : List ℕ → Opened
opened_in s = opened_from (row_in widths s 0)

-- bytes that are not as many as a record's are 44
unfoldable pub record_of : List ℕ → Answer Opened
record_of s = need 44 (same (length s) record_wide) (ok (opened_in s))

-- a record written into lent memory: its bytes, or 46 where there is no room for them
unfoldable pub record_into : Opened → List ℕ → Answer (List ℕ)
record_into o room = need 46 (at_most record_wide (length room)) (ok (bytes_of o))

-- a record whose fields lie in their widths, as every record of the code does
pub record Held (o : Opened) : Type 0 where
  pub numbers : Row.Held widths (numbers_of o)
  pub lng : SFits w16 o.grid.lng
  pub lat : SFits w16 o.grid.lat
