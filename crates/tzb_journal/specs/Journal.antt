-- Document 02, 2026-04: a journal of answers. What an entry says of a whole-number question, and the journal's three calls.
-- Assumes nothing.
use Rattle.std.specs.Prelude.{ℕ, ◌+◌, ◌*◌, Bool, ◌&&◌, List, [], ◌∷◌, ℤ, length}
use Rattle.plane.specs.declared.I32Point.{I32Point}
use Rattle.answer.specs.Answers.{Answer, ok, refused, need, ◌then◌}
use Rattle.answer.specs.Checks.{at_most, same}
use Rattle.opened.specs.declared.Opened.{Opened}
use Rattle.entries.specs.Entry.{Entry, entry}
use Rattle.entries.specs.Forms.{all_below, laid_of, write_of}
use Rattle.entries.specs.Reading.{entry_of}
use Rattle.reader_whole.specs.Whole.{whole_list}
use Rattle.tzb_record.specs.Layout.{record_of}

-- ---- the answer rule, over the number of places
-- The list has 46 for more zones than places. A record made by hand can have zone numbers that fit no place: 45, after every other refusal.
unfoldable pub fitting : List ℕ → Answer (List ℕ)
fitting l = need 45 (all_below l) (ok l)

unfoldable pub answer_of : ℕ → Opened → List ℕ → I32Point → Answer (List ℕ)
answer_of places o s q = whole_list o s q places then fitting

-- "More than three zones is reason 46, count 0; a refusal is its number, count 0; no zone is reason 0, count 0."
abbrev pub noted : I32Point → Answer (List ℕ) → Entry
noted q (ok zones) = entry q zones 0
noted q (refused k) = entry q [] k.number

-- "Opening's refusal stands in every record."
unfoldable pub entry_for : ℕ → Answer Opened → List ℕ → I32Point → Entry
entry_for places opening s q = noted q (opening then λ o. answer_of places o s q)

-- ---- the journal's calls. "Nothing in a record tells its size, so the caller says which" (2026-09): three places alone are offered as yet, any other number is 50.
abbrev pub offered : ℕ → Bool
offered places = same places 3

-- the question, with the opened record as bytes: 44 where it cannot be read, 50, then 46 where there is no room for the entry
unfoldable pub journal_asked : List ℕ → List ℕ → ℕ → I32Point → List ℕ → Answer (List ℕ)
journal_asked b s places q room = record_of b then λ o. need 50 (offered places) (laid_of places (entry_for places (ok o) s q) room)

-- the writer: 50, then 46
unfoldable pub journal_written : ℕ → Entry → List ℕ → Answer (List ℕ)
journal_written places e room = need 50 (offered places) (write_of places e room)

-- the reader: 50, then 46 where fewer than two numbers are lent for the position, or fewer places than the entry has zones
unfoldable pub journal_read : ℕ → List ℕ → ℕ → ℕ → Answer Entry
journal_read places s numbers room = need 50 (offered places) (entry_of places s then λ e. need 46 (at_most 2 numbers && at_most (length e.zones) room) (ok e))

-- what is left in lent memory: the position, and the zones
abbrev pub position_of : Entry → List ℤ
position_of e = e.at.x ∷ e.at.y ∷ []

-- and what the call tells: 256 × count + reason
abbrev pub count_and_reason : Entry → ℕ
count_and_reason e = 256 * length e.zones + e.reason
