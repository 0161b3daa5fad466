-- What is known of a file whose GRID was found fine: every question for candidates is answered, and every candidate in the answer is a zone of the file.
-- Assumes nothing.
use Prim.Native.Nat.{ℕ, ◌+◌, ◌*◌, ◌%◌, ◌≤◌, ◌<◌}
use native.Mathlib.Omega.{arith}
use native.Mathlib.Nat.{mul-le-mul_right}
use mathlib.Core.Path.{◌≡◌, refl, sym, ap, ◌∙◌}
use mathlib.Core.Bool.{Bool, true, false, true≢false}
use borrow.Author.Tests.{le-leb}
use mathlib.Core.List.{List}
use lib.ListN.{length}
use lib.IntN.{ℤ, ◌-ℤ◌}
use lib.Ieee.{Float}
use Rattle.fields.specs.Le.{le}
use Rattle.fields.specs.Loads.{inside, load_at}
use Rattle.answer.specs.Checks.{same}
use Rattle.answer.specs.Answers.{Answer, ok, fine}
use Rattle.answer.proofs.CheckLaws.{fine_one, fine_rest, fine_claim, at_le, le_at, below_lt, same_eq, eq_same, each_at}
use Rattle.opened.specs.declared.Section.{Section}
use Rattle.opened.specs.declared.Grid.{Grid}
use Rattle.opened.specs.declared.Opened.{Opened}
use Rattle.reader_opened.specs.Opened.{grid_of}
use Rattle.reader_grid.specs.Word.{word_count, word_offset}
use Rattle.reader_grid.specs.Grid.{cell_count, candidate_check, cell_check, grid_check}
use Rattle.floors.specs.Floor.{floor_of}
use Rattle.reader_cells.specs.Asked.{on_earth, in_grid, cell_of, cell_candidates, candidates_of, candidate_place, candidate_at}
use Rattle.reader_grid.proofs.Checking.{ranged}
use Rattle.reader_cells.proofs.Asking.{zone_in_law, place_read, cell_outside, cell_read, off_earth, no_grid_law, by_grid}
use Rattle.opened.specs.Within.{Within}
use Rattle.replies.specs.Replies.{Chosen, none, all, listed}
use Rattle.answer.proofs.AnswersLaws.{need_met}
use Rattle.reader_cells.proofs.CellNumbers.{column_below, row_below}

-- a zone of the file stands at that place of the candidate list
pub record ListedZone (o : Opened) (s : List ℕ) (place : ℕ) : Type 0 where
  pub zone : ℕ
  pub given : ok zone ≡ candidate_at o s place
  pub known : zone < o.zones.count

-- every candidate that was chosen is a zone of the file: all means the zones of the file, and at each place listed there is one
abbrev pub AllZones : Opened → List ℕ → Chosen → Type 0
AllZones o s none = Unit
AllZones o s (all n) = n ≡ o.zones.count
AllZones o s (listed n place) = (j : ℕ) → j < n → ListedZone o s (place + j)

-- a question for candidates is answered, by zones of the file
pub record ChosenGiven (o : Opened) (s : List ℕ) (question : Answer Chosen) : Type 0 where
  pub chosen : Chosen
  pub given : ok chosen ≡ question
  pub zones : AllZones o s chosen

load_there : (n : ℕ) (s : List ℕ) (p : ℕ) → p + n ≤ length s → ok (le n s p) ≡ load_at n s p
unfolding load_at inside
load_there n s p h = need_met 44 _ _ (le-leb (p + n) (length s) h)

-- the first bytes of a section of 12 bytes or more are read where it begins
pub grid_begins : (s : List ℕ) (sec : Section) → 12 ≤ sec.len → (grid_of s sec).off ≡ sec.off
unfolding grid_of
grid_begins s sec h = rw (le_at 12 sec.len h)

-- a cell inside the grid is one of its cells
pub cell_below : (g : Grid) (column row : ℤ) → in_grid g column row ≡ true → cell_of g column row < cell_count g
unfolding cell_of
cell_below g column row h =
    let whole-rows = mul-le-mul_right g.cols (row_below g column row h) in
    omega (arith, whole-rows, column_below g column row h)

module _ (s : List ℕ) (sec : Section) (g : Grid) (zones : ℕ) (room : Within s sec) (passes : grid_check s sec g zones ≡ fine) where
  pub grid_long : 12 ≤ sec.len
  unfolding grid_check
  grid_long = at_le _ _ (fine_claim _ _ (fine_one _ _ passes))

  -- the words of the cells and the candidates are all there
  pub grid_fits : sec.off + 12 + 4 * cell_count g + 2 * g.total ≤ length s
  unfolding grid_check
  grid_fits = omega (arith, same_eq _ _ (fine_claim _ _ (fine_one _ _ (fine_rest _ _ (fine_rest _ _ passes)))), room.fits)

  module _ (i : ℕ) (h : i < cell_count g) where
    cell_fine : cell_check s (sec.off + 12) (sec.off + 12 + 4 * cell_count g) g.total zones i ≡ fine
    unfolding grid_check
    cell_fine = each_at _ _ i (fine_one _ _ (fine_rest _ _ (fine_rest _ _ (fine_rest _ _ passes)))) h

    -- what cell i lists is within the candidate list
    pub cell_range : word_offset (le 4 s (sec.off + 12 + 4 * i)) + word_count (le 4 s (sec.off + 12 + 4 * i)) ≤ g.total
    unfolding cell_check
    cell_range = ranged _ _ (fine_one _ _ cell_fine)

    -- and each candidate there is below the number of zones
    pub cell_zones : (j : ℕ) → j < word_count (le 4 s (sec.off + 12 + 4 * i))
        → le 2 s (sec.off + 12 + 4 * cell_count g + 2 * word_offset (le 4 s (sec.off + 12 + 4 * i)) + 2 * j) < zones
    unfolding cell_check candidate_check
    cell_zones j k = below_lt _ _ (fine_claim _ _ (each_at _ _ j (fine_one _ _ (fine_rest _ _ cell_fine)) k))

-- The same of an opened record that keeps what the section's first bytes say.
module _ (o : Opened) (s : List ℕ) (sec : Section) (room : Within s sec) (kept : o.grid ≡ grid_of s sec) where
  module _ (passes : grid_check s sec o.grid o.zones.count ≡ fine) where
    begins : o.grid.off ≡ sec.off
    begins = ap (λ (g : Grid). g.off) kept ∙ grid_begins s sec (grid_long s sec o.grid o.zones.count room passes)

    -- at each place that cell i lists stands a zone of the file
    pub place_given : (i : ℕ) → i < cell_count o.grid → (j : ℕ) → j < word_count (le 4 s (sec.off + 12 + 4 * i))
        → ListedZone o s (word_offset (le 4 s (sec.off + 12 + 4 * i)) + j)
    unfolding candidate_place
    place_given i h j k =
        let from = word_offset (le 4 s (sec.off + 12 + 4 * i)) in
        let at = sec.off + 12 + 4 * cell_count o.grid + 2 * from + 2 * j in
        let range = cell_range s sec o.grid o.zones.count room passes i h in
        let zone-known = cell_zones s sec o.grid o.zones.count room passes i h j k in
        let fits = grid_fits s sec o.grid o.zones.count room passes in
        record {
          zone = le 2 s at;
          given = place_read o s (from + j) (omega (arith, range, k)) at (omega (arith, begins)) (le 2 s at) _ (load_there 2 s at (omega (arith, fits, range, k))) (zone_in_law o.zones.count (le 2 s at) (le 2 s at) refl zone-known);
          known = zone-known;
        }

    -- a cell is answered, inside the grid or outside
    pub cell_given : (column row : ℤ) → ChosenGiven o s (cell_candidates s o.grid column row)
    cell_given column row = by (in_grid o.grid column row) refl
      where
        by : (b : Bool) → in_grid o.grid column row ≡ b → ChosenGiven o s (cell_candidates s o.grid column row)
        by false e = record { chosen = none; given = cell_outside s o.grid column row e; zones = tt }
        by true e =
            let i = cell_of o.grid column row in
            let inside-grid = cell_below o.grid column row e in
            let at = sec.off + 12 + 4 * i in
            let fits = grid_fits s sec o.grid o.zones.count room passes in
            let there : at + 4 ≤ length s = omega (arith, fits, inside-grid) in
            record {
              chosen = listed (word_count (le 4 s at)) (word_offset (le 4 s at));
              given = cell_read s o.grid column row e at (ap (λ (off : ℕ). off + 12 + 4 * i) (sym begins)) (le 4 s at) _ _ (load_there 4 s at there) refl refl;
              zones = place_given i inside-grid;
            }

  -- A question for candidates is answered at all positions, whole numbers or not, on the earth or not.
  pub candidates_given : ((o.flags % 2 ≡ 0 → ⊥) → grid_check s sec o.grid o.zones.count ≡ fine)
      → (lng lat : Float) → ChosenGiven o s (candidates_of o s lng lat)
  candidates_given passes lng lat = by (on_earth lng lat) (same (o.flags % 2) 0) refl refl
    where
      by : (a b : Bool) → on_earth lng lat ≡ a → same (o.flags % 2) 0 ≡ b → ChosenGiven o s (candidates_of o s lng lat)
      by false b e f = record { chosen = none; given = off_earth o s lng lat e; zones = tt }
      by true true e f = record { chosen = all o.zones.count; given = no_grid_law o s lng lat e (same_eq _ _ f); zones = refl }
      by true false e f =
          let flagged : o.flags % 2 ≡ 0 → ⊥ = λ z. true≢false (sym (eq_same (o.flags % 2) 0 z) ∙ f) in
          let cell = cell_given (passes flagged) (floor_of lng -ℤ o.grid.lng) (floor_of lat -ℤ o.grid.lat) in
          record {
            chosen = cell.chosen;
            given = by_grid o s lng lat _ _ (ok cell.chosen) e flagged refl refl cell.given;
            zones = cell.zones;
          }
