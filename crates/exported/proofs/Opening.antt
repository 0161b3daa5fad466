-- Every refusal of opening has a number from 1 to 34, and no place.
-- Assumes nothing.
use Prim.Native.Nat.{ℕ, ◌+◌, ◌*◌, ◌-◌, ◌%◌}
use mathlib.Core.Path.{◌≡◌, refl, sym, ap, ◌∙◌}
use mathlib.Core.List.{List}
use Rattle.answer.specs.declared.Refusal.{Refusal}
use Rattle.answer.specs.Refusals.{placed_at}
use Rattle.answer.specs.Answers.{Check, fine, refused, no}
use Rattle.answer.specs.Checks.{same}
use Rattle.reader_head.specs.Head.{start_check, fields_check, version_check, bounds_check, head_check}
use Rattle.reader_table.specs.Table.{apart_at, placed_check, typed_check, entry_check, entries_check, sections}
use Rattle.reader_opened.specs.declared.Sections.{Sections}
use Rattle.opened.specs.declared.Grid.{Grid}
use Rattle.opened.specs.declared.Opened.{Opened}
use Rattle.reader_opened.specs.Opened.{present_at, present_check, flag_check, zones_check, lengths_check, counts_check, sections_of}
use Rattle.reader_names.specs.Names.{shape_check, offset_rule, offset_check, text_check, text_at, names_check}
use Rattle.reader_grid.specs.Word.{range_check}
use Rattle.reader_grid.specs.Grid.{candidate_check, cell_check, cell_count, grid_check}
use Rattle.opened.specs.declared.Section.{Section}
use Rattle.opened.specs.declared.Directory.{Directory}
use Rattle.reader_records.specs.declared.ChunkRecord.{ChunkRecord}
use Rattle.reader_records.specs.declared.GroupRecord.{GroupRecord}
use Rattle.reader_dirs.specs.Dirs.{chunk_check, chunk_check_at, chunks_check, group_check, group_check_at, groups_check}
use Rattle.tzb.specs.Opening.{table_check, sizes_check, names_in, grid_in, contents_check, grid_is, opened_is, open_of}
use Rattle.exported.proofs.Tabled.{Unplaced, Only, Tabled, kind_of, wider, given, fine_t, claim_t, deny_t, next_t, end_t, each_t, before_t, either_way}

-- 1 to 34
abbrev C : Check → Type 0
C c = Only (Unplaced 34) c

module _ (s : List ℕ) where
  -- ---- 1 to 11
  start : C (start_check s)
  unfolding start_check
  start = next_t _ _ (deny_t 1 _ refl) (next_t _ _ (claim_t 2 _ refl) (next_t _ _ (claim_t 2 _ refl) (next_t _ _ (deny_t 3 _ refl) (next_t _ _ (claim_t 4 _ refl) end_t))))

  fields : C (fields_check s)
  unfolding fields_check
  fields = next_t _ _ (deny_t 5 _ refl) (next_t _ _ (claim_t 6 _ refl) (next_t _ _ (claim_t 7 _ refl) end_t))

  version : C (version_check s)
  unfolding version_check
  version = next_t _ _ (claim_t 8 _ refl) (next_t _ _ (claim_t 9 _ refl) end_t)

  bounds : C (bounds_check s)
  unfolding bounds_check
  bounds = next_t _ _ (claim_t 10 _ refl) (next_t _ _ (claim_t 11 _ refl) end_t)

  head : C (head_check s)
  unfolding head_check
  head = next_t _ _ start (next_t _ _ fields (next_t _ _ version (next_t _ _ bounds end_t)))

  -- ---- 12 to 16
  placed : (i : ℕ) → C (placed_check s i)
  unfolding placed_check
  placed i = next_t _ _ (claim_t 12 _ refl) (next_t _ _ (claim_t 13 _ refl) (next_t _ _ (claim_t 13 _ refl) end_t))

  typed : (i : ℕ) → C (typed_check s i)
  unfolding typed_check
  typed i = next_t _ _ (deny_t 14 _ refl) (next_t _ _ (deny_t 15 _ refl) end_t)

  apart : (i j : ℕ) → C (apart_at s i j)
  unfolding apart_at
  apart i j = claim_t 16 _ refl

  entry : (i : ℕ) → C (entry_check s i)
  unfolding entry_check
  entry i = next_t _ _ (placed i) (next_t _ _ (typed i) (next_t _ _ (each_t (apart_at s i) (apart i) i 0) end_t))

  entries : C (entries_check s)
  unfolding entries_check
  entries = each_t (entry_check s) entry (sections s) 0

  -- ---- 17 and 18
  one_present : (t : ℕ) → C (present_at s t)
  unfolding present_at
  one_present t = claim_t 17 _ refl

  present : C (present_check s)
  unfolding present_check
  present = next_t _ _ (each_t (present_at s) one_present 7 1) (next_t _ _ (one_present 9) end_t)

  flag : C (flag_check s)
  unfolding flag_check
  flag = next_t _ _ (claim_t 18 _ refl) end_t

  table : C (table_check s)
  unfolding table_check
  table = next_t _ _ head (next_t _ _ entries (next_t _ _ present (next_t _ _ flag end_t)))

-- ---- 19 and 20
module _ (p : Sections) where
  zones : C (zones_check p)
  unfolding zones_check
  zones = next_t _ _ (claim_t 19 _ refl) end_t

  lengths : C (lengths_check p)
  unfolding lengths_check
  lengths = next_t _ _ (claim_t 19 _ refl) (next_t _ _ (claim_t 19 _ refl) (next_t _ _ (claim_t 19 _ refl) (next_t _ _ (claim_t 19 _ refl) (next_t _ _ (claim_t 19 _ refl) end_t))))

  counts : C (counts_check p)
  unfolding counts_check
  counts = next_t _ _ (claim_t 20 _ refl) (next_t _ _ (claim_t 20 _ refl) (next_t _ _ (claim_t 20 _ refl) (next_t _ _ (claim_t 20 _ refl) (next_t _ _ (claim_t 20 _ refl) end_t))))

  sizes : C (sizes_check p)
  unfolding sizes_check
  sizes = next_t _ _ zones (next_t _ _ lengths (next_t _ _ counts end_t))

-- ---- 21 to 26
module _ (s : List ℕ) (at n : ℕ) where
  offset : (i : ℕ) → C (offset_check s at n i)
  unfolding offset_check offset_rule
  offset i = next_t _ _ (deny_t 23 _ refl) (next_t _ _ (deny_t 24 _ refl) end_t)

  text : (i : ℕ) → C (text_at s at n i)
  unfolding text_at text_check
  text i = next_t _ _ (claim_t 25 _ refl) (next_t _ _ (claim_t 26 _ refl) end_t)

  names : (len : ℕ) → C (names_check s at len n)
  unfolding names_check shape_check
  names len =
      next_t _ _ (next_t _ _ (claim_t 21 _ refl) (next_t _ _ (claim_t 22 _ refl) end_t))
      (next_t _ _ (each_t (offset_check s at n) offset (n + 1) 0) (next_t _ _ (each_t (text_at s at n) text n 0) end_t))

-- ---- 27 to 31
candidate : (s : List ℕ) (at zones j : ℕ) → C (candidate_check s at zones j)
unfolding candidate_check
candidate s at zones j = claim_t 31 _ refl

range : (word total : ℕ) → C (range_check word total)
unfolding range_check
range word total = claim_t 30 _ refl

cell : (s : List ℕ) (at cands total zones i : ℕ) → C (cell_check s at cands total zones i)
unfolding cell_check
cell s at cands total zones i = next_t _ _ (range _ total) (next_t _ _ (each_t (candidate_check s _ zones) (candidate s _ zones) _ 0) end_t)

grid : (s : List ℕ) (p : Section) (g : Grid) (zones : ℕ) → C (grid_check s p g zones)
unfolding grid_check
grid s p g zones =
    next_t _ _ (claim_t 27 _ refl)
    (next_t _ _ (claim_t 28 _ refl)
    (next_t _ _ (claim_t 29 _ refl)
    (next_t _ _ (each_t (cell_check s (p.off + 12) (p.off + 12 + 4 * cell_count g) g.total zones) (cell s (p.off + 12) (p.off + 12 + 4 * cell_count g) g.total zones) (cell_count g) 0)
    end_t)))

-- ---- 32 to 34
chunk : (v : ChunkRecord) (points least : ℕ) → C (chunk_check v points least)
unfolding chunk_check
chunk v points least = next_t _ _ (claim_t 34 _ refl) (next_t _ _ (claim_t 32 _ refl) (next_t _ _ (claim_t 32 _ refl) (next_t _ _ (claim_t 32 _ refl) end_t)))

group : (s : List ℕ) (d : Directory) (v : GroupRecord) → C (group_check s d v)
unfolding group_check
group s d v = next_t _ _ (claim_t 34 _ refl) (next_t _ _ (claim_t 33 _ refl) end_t)

module _ (s : List ℕ) (o : Opened) where
  chunks : C (chunks_check s o)
  unfolding chunks_check chunk_check_at
  chunks = each_t _ (λ i. chunk _ _ _) o.chunks.count 0

  groups : C (groups_check s o)
  unfolding groups_check group_check_at
  groups = each_t _ (λ i. group _ _ _) o.groups.count 0

  contents : (p : Sections) (g : Grid) → C (contents_check s p g o)
  unfolding contents_check names_in grid_in
  contents p g =
      next_t _ _ (sizes p)
      (next_t _ _ (names s p.names.off p.zones p.names.len)
      (next_t _ _ (either_way C (same (p.flags % 2) 0) fine (grid_check s p.gridpart g p.zones) fine_t (grid s p.gridpart g p.zones))
      (next_t _ _ chunks (next_t _ _ groups end_t))))

pub open_unplaced : (s : List ℕ) → Only (Unplaced 34) (open_of s)
unfolding open_of
open_unplaced s = before_t _ _ (table s) (before_t _ _ (contents s (opened_is s) (sections_of s) (grid_is s)) (given _))

pub open_tabled : (s : List ℕ) → Tabled 34 (open_of s)
open_tabled s = wider (λ k h. h.numbered) (open_of s) (open_unplaced s)

-- a refusal of opening is its number alone
pub open_plain : (s : List ℕ) (k : Refusal) → refused k ≡ open_of s → no k.number ≡ open_of s
open_plain s k e = ap (λ (p : ℕ). refused (placed_at p k)) (sym (kind_of (open_of s) k e (open_unplaced s)).nowhere) ∙ e
