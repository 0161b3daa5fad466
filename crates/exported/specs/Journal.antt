-- JOURNAL: for every record, file, position and lent memory, what `tzb_journal_ask`, `tzb_journal_write` and `tzb_journal_read` answer.
-- "For each whole-number question write one 16-byte record .." "Reader and writer both; reading back gives what was written." "Refusals: 50 for a record of any other form, then 46." (document 02, request 2026-04; its record is called an entry here)
-- One record for each, of which the theorem with its name in proofs/Journal holds of every call (specs/Calls). The cases of a record leave none out. And of what the program notes, which opens and asks at once: `opening_noted` and `opening_stands` there. Where each word is defined:
--   an entry          `Entry`, entries/specs/Entry: a position, zones, a reason. `bytes_of places` are its bytes, `entry_wide places` many
--   of the forms      `formed places`, entries/specs/Forms
--   bytes that are an entry    `entry_is places`, and the entry that they are read as: `entry_from places`, entries/specs/Reading
--   what is noted of a question    `entry_for places`, tzb_journal/specs/Journal, by the whole-number list of reader_whole/specs/Whole
--   the record        84 bytes are read as `opened_in held`: tzb_record/specs/Layout
--   places            how many zones an entry has room for. The caller says it, and 3 alone is offered: `offered`, tzb_journal/specs/Journal
--   a number of 32 bits    `SFits w32`, as every i32 is: the type of x and y says so
-- Assumes nothing.
use Rattle.std.specs.Prelude.{ℕ, ◌+◌, ◌*◌, ◌≤◌, ◌<◌, ◌≡◌, refl, true, false, List, [], ◌∷◌, ◌++◌, ◌↔◌, ◌⊎◌, ℤ, pos, length, take, drop, get_or}
use Rattle.std.specs.Int.{w32}
use Rattle.std.proofs.Common.{SFits}
use Rattle.plane.specs.Domain.{in_domain}
use Rattle.plane.specs.Places.{point}
use Rattle.fields.specs.Row.{row_in}
use Rattle.answer.specs.Answers.{ok}
use Rattle.answer.specs.Checks.{same}
use Rattle.entries.specs.Entry.{Entry, entry, widths, entry_wide, bytes_of}
use Rattle.entries.specs.Forms.{formed}
use Rattle.entries.specs.Reading.{entry_from, entry_is}
use Rattle.tzb_record.specs.Layout.{opened_in}
use Rattle.tzb_journal.specs.Journal.{entry_for, offered}
use Rattle.exported.specs.Calls.{TzbJournalWrite, TzbJournalRead}
use Rattle.exported.specs.Words.{refusing, Bytes}

-- the figures: three places alone are offered, and their entries are 16 bytes
pub three_alone : (places : ℕ) → offered places ≡ same places 3
three_alone places = refl

pub sixteen_bytes : entry_wide 3 ≡ 16
sixteen_bytes = refl

-- the entry of a question, asked with the record in memory
abbrev pub asked_entry : (held file : List ℕ) (places : ℕ) (x y : ℤ) → Entry
asked_entry held file places x y = entry_for places (ok (opened_in held)) file (point x y)

-- the entry that bytes are read as
abbrev pub entry_in : ℕ → List ℕ → Entry
entry_in places bytes = entry_from places (row_in (widths places) bytes 0)

-- r tells an entry, and it stands in lent memory; what lies behind is as it was
pub record Stands (e : Entry) (position : List ℤ) (zones : List ℕ) (r : ℤ) (position' : List ℤ) (zones' : List ℕ) : Type 0 where
  pub tells : r ≡ pos (256 * length e.zones + e.reason)
  pub at : position' ≡ e.at.x ∷ e.at.y ∷ drop 2 position
  pub in_zones : zones' ≡ e.zones ++ drop (length e.zones) zones

-- every call of tzb_journal_read on the bytes, with room for a position and as many zones as there are places, gives the entry
abbrev pub ReadBack : ℕ → List ℕ → Entry → Type 0
ReadBack places bytes e =
    (position : List ℤ) (zones : List ℕ) (r : ℤ) (position' : List ℤ) (zones' : List ℕ)
    → TzbJournalRead places bytes position zones r position' zones' → 2 ≤ length position → places ≤ length zones → Stands e position zones r position' zones'

-- tzb_journal_ask(held, file, places, x, y, memory) answers r and leaves `after`
pub record JournalAskAnswers (held file : List ℕ) (places : ℕ) (x y : ℤ) (memory : List ℕ) (r : ℤ) (after : List ℕ) : Type 0 where
  -- a record that is not 84 bytes long is 44
  pub no_record : (length held ≡ 84 → ⊥) → r ≡ refusing 44
  -- a number of places that is not offered is 50
  pub no_places : length held ≡ 84 → offered places ≡ false → r ≡ refusing 50
  -- memory that is shorter than an entry is 46
  pub no_room : length held ≡ 84 → offered places ≡ true → length memory < entry_wide places → r ≡ refusing 46
  -- else 0: the entry stands first in memory, and what lies behind is as it was. No refusal of the question is one of the call: it is the entry's reason
  pub writes : length held ≡ 84 → offered places ≡ true → entry_wide places ≤ length memory → (r ≡ pos 0) × (after ≡ bytes_of places (asked_entry held file places x y) ++ drop (entry_wide places) memory)
  -- where it is not 0, the memory is as it was
  pub unchanged : (r ≡ pos 0 → ⊥) → after ≡ memory
  -- the entry is of the forms
  pub of_forms_law : formed places (asked_entry held file places x y) ≡ true
  -- outside the domain it has no zones and reason 0, whatever the record and the file
  pub outside : in_domain (point x y) ≡ false → entry (point x y) [] 0 ≡ asked_entry held file places x y
  -- and is read back
  pub read_back_law : r ≡ pos 0 → SFits w32 x → SFits w32 y → ReadBack places (take (entry_wide places) after) (asked_entry held file places x y)

-- tzb_journal_write(places, x, y, zones, reason, memory) answers r and leaves `after`
pub record JournalWriteAnswers (places : ℕ) (x y : ℤ) (zones : List ℕ) (reason : ℕ) (memory : List ℕ) (r : ℤ) (after : List ℕ) : Type 0 where
  -- -1050 exactly when the places are not offered, or the entry is of no form
  pub no_form : (r ≡ refusing 50) ↔ ((offered places ≡ false) ⊎ (formed places (entry (point x y) zones reason) ≡ false))
  -- -1046 exactly when it is of the forms and there is no room
  pub no_room : (r ≡ refusing 46) ↔ ((offered places ≡ true) × (formed places (entry (point x y) zones reason) ≡ true) × (length memory < entry_wide places))
  -- 0 exactly when it is and there is room; the entry stands first in memory then, and what lies behind is as it was
  pub writes : (r ≡ pos 0) ↔ ((offered places ≡ true) × (formed places (entry (point x y) zones reason) ≡ true) × (entry_wide places ≤ length memory))
  pub written : r ≡ pos 0 → after ≡ bytes_of places (entry (point x y) zones reason) ++ drop (entry_wide places) memory
  -- where it is not 0, the memory is as it was
  pub unchanged : (r ≡ pos 0 → ⊥) → after ≡ memory
  -- reading back gives what was written
  pub read_back_law : r ≡ pos 0 → SFits w32 x → SFits w32 y → ReadBack places (take (entry_wide places) after) (entry (point x y) zones reason)

-- tzb_journal_read(places, bytes, position, zones) answers r and leaves position' and zones'
pub record JournalReadAnswers (places : ℕ) (bytes : List ℕ) (position : List ℤ) (zones : List ℕ) (r : ℤ) (position' : List ℤ) (zones' : List ℕ) : Type 0 where
  -- a number of places that is not offered, and bytes that are no entry, are 50
  pub no_places : offered places ≡ false → r ≡ refusing 50
  pub no_entry : offered places ≡ true → entry_is places bytes ≡ false → r ≡ refusing 50
  -- fewer than two numbers for the position, or fewer places than the entry has zones, are 46
  pub no_room : offered places ≡ true → entry_is places bytes ≡ true → (length position < 2) ⊎ (length zones < length (entry_in places bytes).zones) → r ≡ refusing 46
  -- else the entry is told
  pub reads : offered places ≡ true → entry_is places bytes ≡ true → 2 ≤ length position → length (entry_in places bytes).zones ≤ length zones → Stands (entry_in places bytes) position zones r position' zones'
  -- where no number is answered, both lent memories are as they were
  pub unchanged : ((n : ℕ) → r ≡ pos n → ⊥) → (position' ≡ position) × (zones' ≡ zones)
  -- where one is, the position, the zones and the reason that were read are written to the same bytes
  pub write_again : (count reason : ℕ) → reason < 256 → r ≡ pos (256 * count + reason) → Bytes bytes → (memory : List ℕ) (q : ℤ) (after : List ℕ)
      → TzbJournalWrite places (get_or position' 0 (pos 0)) (get_or position' 1 (pos 0)) (take count zones') reason memory q after → entry_wide places ≤ length memory → (q ≡ pos 0) × (after ≡ bytes ++ drop (entry_wide places) memory)
