-- Opening into lent memory, which keeps the record as bytes; and opening to ask once.
-- Assumes nothing.
use Rattle.std.specs.Prelude.{ℕ, List, Float}
use Rattle.answer.specs.Answers.{Answer, ◌then◌}
use Rattle.reader_lookup.specs.Asking.{lookup_of}
use Rattle.tzb_record.specs.Layout.{record_into}
use Rattle.tzb.specs.Opening.{open_of}
use Rattle.replies.specs.Replies.{Sought}

-- the record's bytes; the first refusal of opening, then 46 where there is no room for them
unfoldable pub open_into : List ℕ → List ℕ → Answer (List ℕ)
open_into s room = open_of s then λ o. record_into o room

-- opens and asks for the zone that a position lies in
unfoldable pub lookup_once : List ℕ → Float → Float → Answer Sought
lookup_once s lng lat = open_of s then λ o. lookup_of o s lng lat
