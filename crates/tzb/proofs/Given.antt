-- What a file gives that opening accepts, with nothing else supposed of it: which record it is, the checks that it passed, and which questions are never refused.
-- Assumes nothing.
use Prim.Native.Nat.{ℕ, ◌*◌, ◌%◌, ◌≤◌, ◌<◌}
use native.Mathlib.Omega.{arith}
use native.Mathlib.Nat.{mul-le-mul_right}
use mathlib.Core.Path.{◌≡◌, refl, ap}
use mathlib.Core.Bool.{true}
use mathlib.Core.List.{List}
use borrow.Author.Tests.{leb-true}
use lib.Dec.{leb}
use lib.Ieee.{Float}
use Rattle.basics.specs.Truth.{and_l, and_r}
use Rattle.fields.specs.Le.{le}
use Rattle.answer.specs.declared.Refusal.{Refusal}
use Rattle.answer.proofs.CheckLaws.{fine_one, fine_rest, fine_claim, same_eq, at_le, ne_same}
use Rattle.answer.specs.Answers.{Answer, ok, refused, ◌before◌, Check, fine}
use Rattle.reader_head.specs.Head.{head_check, fields_check, is_count}
use Rattle.reader_table.specs.Table.{sections, has, section_of}
use Rattle.opened.specs.declared.Directory.{Directory}
use Rattle.reader_opened.specs.declared.Sections.{Sections}
use Rattle.opened.specs.declared.Grid.{Grid}
use Rattle.opened.specs.declared.Opened.{Opened}
use Rattle.reader_opened.specs.Opened.{bit, flag_check, zones_check, counts_check, sections_of, grid_of, directory_of, opened_of, Tabled}
use Rattle.reader_names.specs.Names.{names_check}
use Rattle.reader_named.proofs.Accepted.{NameGiven, name_given}
use Rattle.reader_grid.specs.Grid.{grid_check}
use Rattle.reader_cells.specs.Asked.{candidates_of}
use Rattle.reader_cells.proofs.Accepted.{ChosenGiven, candidates_given}
use Rattle.reader_records.specs.Records.{place, record_at, chunk_at, chunk_rule, group_at, group_rule}
use Rattle.reader_dirs.specs.Dirs.{chunk_of, group_of, chunks_check, groups_check, count_at, Lies, Room}
use Rattle.reader_dirs.proofs.Accepted.{chunk_kept, chunk_found, chunk_some, chunk_inside, rises, group_kept, group_found, group_sum}
use Rattle.tzb.specs.Opening.{table_check, sizes_check, names_in, grid_in, contents_check, grid_is, opened_is, open_of}
use Rattle.opened.specs.Within.{Within}
use Rattle.opened.specs.Widths.{list_wide, ring_wide, op_wide, group_wide, chunk_wide}
use Rattle.basics.specs.Total.{total}
use Rattle.answer.proofs.AnswersLaws.{zero_one, ok_inv}
use Rattle.reader_opened.proofs.OpenedLaws.{within}
use Rattle.reader_records.proofs.RecordsLaws.{record_at_law}
use Rattle.tzb.proofs.OpeningLaws.{tabled, placed, lies, room}
use Rattle.tzb.specs.Steps.{Placed}

-- an answer that was given after a check
before_inv : {A : Type 0} (c : Check) (x : Answer A) (a : A) → ok a ≡ (c before x) → (c ≡ fine) × (ok a ≡ x)
before_inv (ok u) x a e = (refl, e)
before_inv (refused k) x a e = let z : ◌≡◌ {A = ℕ} 0 1 = cc in absurd (zero_one z)

-- where the flag says that GRID is there, it was checked
grid_checked : (s : List ℕ) (p : Sections) (g : Grid) → grid_in s p g ≡ fine → (p.flags % 2 ≡ 0 → ⊥) → grid_check s p.gridpart g p.zones ≡ fine
unfolding grid_in
grid_checked s p g e h = rw (ne_same (p.flags % 2) 0 h) at e

-- an answer that is given is no refusal
pub not_refused : {A : Type 0} (x : Answer A) (a : A) (k : Refusal) → ok a ≡ x → refused k ≡ x → ⊥
not_refused x a k e f = let z : ◌≡◌ {A = ℕ} 0 1 = cc in zero_one z

-- The questions that opening alone vouches for: a name by its zone number, candidates at all floats, a chunk's and a group's record by its number. Each is answered.
pub record Answered (file : List ℕ) (o : Opened) : Type 0 where
  pub names : (zone : ℕ) → zone < o.zones.count → NameGiven o file zone
  pub candidates : (lng lat : Float) → ChosenGiven o file (candidates_of o file lng lat)
  pub chunks : (i : ℕ) → i < o.chunks.count → ok (chunk_of file o.chunks i) ≡ chunk_at o file i
  pub groups : (i : ℕ) → i < o.groups.count → ok (group_of file o.groups i) ≡ group_at o file i

-- all the directories' records lie in the file, and no directory is empty
pub record DirectoriesThere (file : List ℕ) (o : Opened) : Type 0 where
  pub zones : Lies file o.zones list_wide
  pub polys : Lies file o.polys list_wide
  pub rings : Lies file o.rings ring_wide
  pub ops : Lies file o.ops op_wide
  pub groups : Lies file o.groups group_wide
  pub chunks : Lies file o.chunks chunk_wide
  pub zones_some : 1 ≤ o.zones.count
  pub polys_some : 1 ≤ o.polys.count
  pub rings_some : 1 ≤ o.rings.count
  pub ops_some : 1 ≤ o.ops.count
  pub groups_some : 1 ≤ o.groups.count
  pub chunks_some : 1 ≤ o.chunks.count

-- a record of such a directory is there: a question for it can be refused by its rule alone
pub record_there : (s : List ℕ) (d : Directory) (w : ℕ) → Lies s d w → (i : ℕ) → i < d.count → ok (place d w i) ≡ record_at s d w i
record_there s d w f i h = record_at_law s d w i h (omega (arith, mul-le-mul_right w h, f.fits))

-- the five other directories are as long as one record at least
module _ (p : Sections) (passes : sizes_check p ≡ fine) where
  stocked : counts_check p ≡ fine
  unfolding sizes_check
  stocked = fine_one _ _ (fine_rest _ _ (fine_rest _ _ passes))

  polys_long : 24 ≤ p.polydir.len
  unfolding counts_check
  polys_long = at_le _ _ (fine_claim _ _ (fine_one _ _ stocked))

  rings_long : 28 ≤ p.ringdir.len
  unfolding counts_check
  rings_long = at_le _ _ (fine_claim _ _ (fine_one _ _ (fine_rest _ _ stocked)))

  ops_long : 4 ≤ p.ringops.len
  unfolding counts_check
  ops_long = at_le _ _ (fine_claim _ _ (fine_one _ _ (fine_rest _ _ (fine_rest _ _ stocked))))

  groups_long : 44 ≤ p.groupdir.len
  unfolding counts_check
  groups_long = at_le _ _ (fine_claim _ _ (fine_one _ _ (fine_rest _ _ (fine_rest _ _ (fine_rest _ _ stocked)))))

  chunks_long : 24 ≤ p.chunkdir.len
  unfolding counts_check
  chunks_long = at_le _ _ (fine_claim _ _ (fine_one _ _ (fine_rest _ _ (fine_rest _ _ (fine_rest _ _ (fine_rest _ _ stocked))))))

module _ (file : List ℕ) (o : Opened) (opened : ok o ≡ open_of file) where
  -- ---- the record, and the checks that the file passed
  passed : (table_check file ≡ fine) × (ok o ≡ (contents_check file (sections_of file) (grid_is file) (opened_is file) before ok (opened_is file)))
  unfolding open_of
  passed = before_inv (table_check file) _ o opened

  filled : (contents_check file (sections_of file) (grid_is file) (opened_is file) ≡ fine) × (◌≡◌ {A = Answer Opened} (ok o) (ok (opened_is file)))
  filled = before_inv (contents_check file (sections_of file) (grid_is file) (opened_is file)) _ o passed.1

  pub opened_is_law : o ≡ opened_is file
  opened_is_law = ok_inv o (opened_is file) filled.1

  -- 1 to 18
  pub table_fine : table_check file ≡ fine
  table_fine = passed.0

  pub is_tabled : Tabled file
  is_tabled = tabled file table_fine

  pub is_placed : Placed file (sections_of file)
  is_placed = placed file is_tabled

  pub has_room_law : Room file o
  has_room_law = rw opened_is_law (room file (sections_of file) (grid_is file) is_placed)

  -- 19 and 20
  pub sizes_fine : sizes_check (sections_of file) ≡ fine
  unfolding contents_check
  sizes_fine = fine_one _ _ filled.0

  -- 21 to 26
  pub names_fine : names_in file (sections_of file) ≡ fine
  unfolding contents_check
  names_fine = fine_one _ _ (fine_rest _ _ filled.0)

  -- 27 to 31
  pub grid_fine : grid_in file (sections_of file) (grid_is file) ≡ fine
  unfolding contents_check
  grid_fine = fine_one _ _ (fine_rest _ _ (fine_rest _ _ filled.0))

  -- 32 to 34
  pub chunks_fine : chunks_check file o ≡ fine
  unfolding contents_check
  chunks_fine = rw opened_is_law (fine_one _ _ (fine_rest _ _ (fine_rest _ _ (fine_rest _ _ filled.0))))

  pub groups_fine : groups_check file o ≡ fine
  unfolding contents_check
  groups_fine = rw opened_is_law (fine_one _ _ (fine_rest _ _ (fine_rest _ _ (fine_rest _ _ (fine_rest _ _ filled.0)))))

  -- ---- the zones
  -- their number is the header's, from 1 to 65,535
  pub zone_count : o.zones.count ≡ le 4 file 40
  unfolding opened_of sections_of
  zone_count = ap (λ (x : Opened). x.zones.count) opened_is_law

  counted : is_count (le 4 file 40) ≡ true
  unfolding table_check head_check fields_check
  counted = fine_claim _ _ (fine_one _ _ (fine_rest _ _ (fine_one _ _ (fine_rest _ _ (fine_one _ _ table_fine)))))

  pub zones_some : 1 ≤ o.zones.count
  unfolding is_count
  zones_some = omega (arith, zone_count, leb-true 1 (le 4 file 40) (and_l (leb 1 (le 4 file 40)) (leb (le 4 file 40) 65_535) counted))

  pub zones_few : o.zones.count ≤ 65_535
  unfolding is_count
  zones_few = omega (arith, zone_count, leb-true (le 4 file 40) 65_535 (and_r (leb 1 (le 4 file 40)) (leb (le 4 file 40) 65_535) counted))

  -- TZDIR is 24 times that number, and lies in the file
  pub zones_size : (section_of file 2).len ≡ list_wide * o.zones.count
  unfolding sizes_check zones_check sections_of
  zones_size = rw zone_count (same_eq _ _ (fine_claim _ _ (fine_one _ _ (fine_one _ _ sizes_fine))))

  pub zones_begin : o.zones.off ≡ (section_of file 2).off
  unfolding opened_of sections_of
  zones_begin = ap (λ (x : Opened). x.zones.off) opened_is_law

  pub zones_lie : Lies file o.zones list_wide
  zones_lie = record { fits = omega (arith, zones_size, zones_begin, (within file is_tabled 2).fits) }

  -- ---- the directories below, and the points
  pub directories_there : DirectoriesThere file o
  unfolding opened_of sections_of directory_of
  directories_there =
      record {
        zones = zones_lie;
        polys = rw opened_is_law (lies file _ 24 (within file is_tabled 3));
        rings = rw opened_is_law (lies file _ 28 (within file is_tabled 4));
        ops = rw opened_is_law (lies file _ 4 (within file is_tabled 5));
        groups = has_room_law.groups;
        chunks = has_room_law.chunks;
        zones_some = zones_some;
        polys_some = rw opened_is_law (omega (arith, polys_long _ sizes_fine));
        rings_some = rw opened_is_law (omega (arith, rings_long _ sizes_fine));
        ops_some = rw opened_is_law (omega (arith, ops_long _ sizes_fine));
        groups_some = rw opened_is_law (omega (arith, groups_long _ sizes_fine));
        chunks_some = rw opened_is_law (omega (arith, chunks_long _ sizes_fine));
      }

  pub points_within : Within file o.points
  unfolding opened_of sections_of
  points_within = rw opened_is_law (within file is_tabled 9)

  -- ---- every zone has a name: not empty, UTF-8, no zero byte
  names_within : Within file o.names
  unfolding opened_of
  names_within = rw opened_is_law is_placed.names

  names_checked : names_check file o.names.off o.names.len o.zones.count ≡ fine
  unfolding opened_of names_in
  names_checked = rw opened_is_law names_fine

  pub name_answered : (zone : ℕ) → zone < o.zones.count → NameGiven o file zone
  name_answered = name_given o file names_within names_checked

  -- ---- the flag says whether GRID is there
  pub flag_tells : o.flags % 2 ≡ bit (has file 8 (sections file))
  unfolding opened_of sections_of table_check flag_check
  flag_tells = rw opened_is_law (same_eq _ _ (fine_claim _ _ (fine_one _ _ (fine_one _ _ (fine_rest _ _ (fine_rest _ _ (fine_rest _ _ table_fine)))))))

  -- ---- candidates, for all floats: an answer, and in it only zones of the file
  grid_kept : o.grid ≡ grid_of file (sections_of file).gridpart
  unfolding opened_of
  grid_kept = ap (λ (x : Opened). x.grid) opened_is_law

  grid_asked : (o.flags % 2 ≡ 0 → ⊥) → grid_check file (sections_of file).gridpart o.grid o.zones.count ≡ fine
  unfolding opened_of
  grid_asked = rw opened_is_law (grid_checked file (sections_of file) (grid_is file) grid_fine)

  pub candidates_answered : (lng lat : Float) → ChosenGiven o file (candidates_of o file lng lat)
  candidates_answered = candidates_given o file (sections_of file).gridpart is_placed.grid grid_kept grid_asked

  -- ---- chunks and groups
  module _ (i : ℕ) (h : i < o.chunks.count) where
    pub chunk_answered : ok (chunk_of file o.chunks i) ≡ chunk_at o file i
    chunk_answered = chunk_found file o has_room_law chunks_fine i h

    pub chunk_keeps : chunk_rule (chunk_of file o.chunks i) ≡ true
    chunk_keeps = chunk_kept file o has_room_law chunks_fine i h

    -- it has points, and its bytes begin inside POINTS
    pub chunk_counts : 0 < (chunk_of file o.chunks i).count
    chunk_counts = chunk_some file o has_room_law chunks_fine i h

    pub chunk_begins : (chunk_of file o.chunks i).off < o.points.len
    chunk_begins = chunk_inside file o has_room_law chunks_fine i h

  -- offsets rise
  pub chunks_rise : (i j : ℕ) → i < j → j < o.chunks.count → (chunk_of file o.chunks i).off < (chunk_of file o.chunks j).off
  chunks_rise = rises file o has_room_law chunks_fine

  module _ (i : ℕ) (h : i < o.groups.count) where
    pub group_answered : ok (group_of file o.groups i) ≡ group_at o file i
    group_answered = group_found file o has_room_law groups_fine i h

    pub group_keeps : group_rule o.chunks.count (group_of file o.groups i) ≡ true
    group_keeps = group_kept file o has_room_law groups_fine i h

    -- its chunks' counts add to its point count
    pub group_adds : total (count_at file o.chunks) (group_of file o.groups i).count (group_of file o.groups i).first ≡ (group_of file o.groups i).points
    group_adds = group_sum file o has_room_law groups_fine i h

  -- ---- all of these in one
  pub answered : Answered file o
  answered = record { names = name_answered; candidates = candidates_answered; chunks = chunk_answered; groups = group_answered }
