-- Document 02, 2026-04: how an entry is read from bytes. "Refusals: 50 for a record of any other form, then 46." A record of another length is of no form.
-- Assumes nothing.
use Rattle.std.specs.Prelude.{ℕ, ◌+◌, Bool, ◌&&◌, List, length, get_or, take, drop}
use Rattle.std.specs.Int.{w32}
use Rattle.std.proofs.Common.{to_z, SFits}
use Rattle.std.specs.List.{list_all}
use Rattle.plane.specs.declared.I32Point.{I32Point}
use Rattle.plane.specs.Places.{point}
use Rattle.fields.specs.Row.{row_in}
use Rattle.answer.specs.Answers.{Answer, ok, need, ◌then◌}
use Rattle.answer.specs.Checks.{at_most, same}
use Rattle.entries.specs.Entry.{Entry, entry, unused, widths, entry_wide}
use Rattle.entries.specs.Forms.{formed}

-- ---- a row's numbers: x, y, the places, the count, the reason
abbrev pub point_in : List ℕ → I32Point
point_in ns = point (to_z w32 (get_or ns 0 0)) (to_z w32 (get_or ns 1 0))

abbrev pub places_in : ℕ → List ℕ → List ℕ
places_in places ns = take places (drop 2 ns)

abbrev pub count_in : ℕ → List ℕ → ℕ
count_in places ns = get_or ns (places + 2) 0

abbrev pub reason_in : ℕ → List ℕ → ℕ
reason_in places ns = get_or ns (places + 3) 0

-- the entry of numbers: its zones are as many of the places as the count says
unfoldable pub entry_from : ℕ → List ℕ → Entry
entry_from places ns = entry (point_in ns) (take (count_in places ns) (places_in places ns)) (reason_in places ns)

-- "65535 where unused"
unfoldable pub all_unused : List ℕ → Bool
all_unused l = list_all (λ p. same p unused) l

-- numbers of the forms: the zones stand in the first places, and every place from the count on is not used
unfoldable pub of_forms : ℕ → I32Point → List ℕ → ℕ → ℕ → Bool
of_forms places q held count reason = at_most count places && (all_unused (drop count held) && formed places (entry q (take count held) reason))

unfoldable pub row_of_forms : ℕ → List ℕ → Bool
row_of_forms places ns = of_forms places (point_in ns) (places_in places ns) (count_in places ns) (reason_in places ns)

-- ---- the entry of bytes
unfoldable pub entry_is : ℕ → List ℕ → Bool
entry_is places s = same (length s) (entry_wide places) && row_of_forms places (row_in (widths places) s 0)

unfoldable pub entry_of : ℕ → List ℕ → Answer Entry
entry_of places s = need 50 (entry_is places s) (ok (entry_from places (row_in (widths places) s 0)))

-- the reader, with that many places lent: 46 exactly where they are fewer than the entry's count
unfoldable pub read_of : ℕ → List ℕ → ℕ → Answer Entry
read_of places s room = entry_of places s then λ e. need 46 (at_most (length e.zones) room) (ok e)

-- an entry whose x and y are numbers of 32 bits, as those of the code are
pub record Held (e : Entry) : Type 0 where
  pub x : SFits w32 e.at.x
  pub y : SFits w32 e.at.y

-- ---- what is told of an entry whose zones stand in lent places: its position, its count and its reason
abbrev pub head_of : Entry → I32Point × ℕ × ℕ
head_of e = (e.at, length e.zones, e.reason)
