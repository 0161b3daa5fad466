-- Document 02, 2026-04: "A small program turns eight-byte positions on standard input into records".
-- Assumes nothing.
use Rattle.std.specs.Prelude.{ℕ, zero, suc, ◌+◌, ◌*◌, List, [], ◌++◌}
use Rattle.std.specs.Int.{w32}
use Rattle.std.proofs.Common.{to_z}
use Rattle.plane.specs.declared.I32Point.{I32Point}
use Rattle.plane.specs.Places.{point}
use Rattle.fields.specs.Le.{le}
use Rattle.answer.specs.Answers.{Answer}
use Rattle.opened.specs.declared.Opened.{Opened}
use Rattle.entries.specs.Entry.{bytes_of}
use Rattle.tzb_journal.specs.Journal.{entry_for}

-- an entry has places for three zones
abbrev pub places : ℕ
places = 3

-- the position in the eight bytes from p on
abbrev pub position_at : List ℕ → ℕ → I32Point
position_at s p = point (to_z w32 (le 4 s p)) (to_z w32 (le 4 s (p + 4)))

-- the entries of the first n positions, one behind another
unfoldable pub entries_of : Answer Opened → List ℕ → List ℕ → ℕ → List ℕ
entries_of opening file s zero = []
entries_of opening file s (suc n) = entries_of opening file s n ++ bytes_of places (entry_for places opening file (position_at s (8 * n)))
