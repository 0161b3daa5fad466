-- Document 01, "Asking": which zones are candidates for a position, and which zone stands at a place of the candidate list.
-- For any opened record and any bytes.
-- Assumes nothing.
use Rattle.std.specs.Prelude.{ℕ, ◌+◌, ◌*◌, ◌%◌, Bool, ◌&&◌, cond, List, ℤ, pos, neg_ℤ, nat_abs, ◌-ℤ◌, Float}
use Rattle.std.specs.Int.Signed.{le_z, lt_z}
use Rattle.std.specs.Float.{binary64}
use Rattle.std.specs.Float.Ieee.{of_int, le}
use Rattle.std.specs.Float.Ieee.Scale.{finite}
use Rattle.fields.specs.Loads.{load_at}
use Rattle.answer.specs.Answers.{Answer, ok, need, ◌then◌}
use Rattle.answer.specs.Checks.{below, same}
use Rattle.opened.specs.declared.Grid.{Grid}
use Rattle.opened.specs.declared.Opened.{Opened}
use Rattle.reader_grid.specs.Word.{word_count, word_offset}
use Rattle.reader_grid.specs.Grid.{cell_count}
use Rattle.floors.specs.Floor.{floor_of}
use Rattle.replies.specs.Replies.{Chosen, none, all, listed}

-- A longitude or latitude not finite or outside ±180, ±90
abbrev pub in_range : ℕ → Float → Bool
in_range bound x = finite x && (le (of_int binary64 (neg_ℤ (pos bound))) x && le x (of_int binary64 (pos bound)))

unfoldable pub on_earth : Float → Float → Bool
on_earth lng lat = in_range 180 lng && in_range 90 lat

-- a column or row that the grid has
abbrev pub in_span : ℤ → ℕ → Bool
in_span z count = le_z (pos 0) z && lt_z z (pos count)

unfoldable pub in_grid : Grid → ℤ → ℤ → Bool
in_grid g column row = in_span column g.cols && in_span row g.rows

-- the cell row × columns + column
unfoldable pub cell_of : Grid → ℤ → ℤ → ℕ
cell_of g column row = nat_abs row * g.cols + nat_abs column

-- what a cell's word says
abbrev pub read : ℕ → Answer Chosen
read word = ok (listed (word_count word) (word_offset word))

-- outside the grid: none
unfoldable pub cell_candidates : List ℕ → Grid → ℤ → ℤ → Answer Chosen
cell_candidates s g column row =
    cond (in_grid g column row) (load_at 4 s (g.off + 12 + 4 * cell_of g column row) then read) (ok none)

-- A longitude or latitude not finite or outside ±180, ±90: none. Without GRID all zones are candidates in order. With it floor of each coordinate less the first is column and row.
unfoldable pub candidates_of : Opened → List ℕ → Float → Float → Answer Chosen
candidates_of o s lng lat =
    cond (on_earth lng lat)
    (cond (same (o.flags % 2) 0)
    (ok (all o.zones.count))
    (cell_candidates s o.grid (floor_of lng -ℤ o.grid.lng) (floor_of lat -ℤ o.grid.lat)))
    (ok none)

-- where a candidate stands: after GRID's 12 bytes and a u32 per cell, two bytes each
unfoldable pub candidate_place : Grid → ℕ → ℕ
candidate_place g place = g.off + 12 + 4 * cell_count g + 2 * place

-- a candidate not below the zone count 31
unfoldable pub zone_below : ℕ → ℕ → Answer ℕ
zone_below zones zone = need 31 (below zone zones) (ok zone)

-- a candidate place at or past the total 30, a read past the end 44, a candidate not below the zone count 31
unfoldable pub candidate_at : Opened → List ℕ → ℕ → Answer ℕ
candidate_at o s place =
    need 30 (below place o.grid.total)
    (load_at 2 s (candidate_place o.grid place) then zone_below o.zones.count)
