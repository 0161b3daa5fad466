-- The bytes of a record read back are the record, and the record of bytes has those bytes: asking with the bytes is asking with the record.
-- Assumes nothing.
use Prim.Native.Nat.{ℕ, ◌≤◌, ◌<◌}
use native.Mathlib.Omega.{arith}
use mathlib.Core.Path.{◌≡◌, sym, ap, ap₂, ◌∙◌}
use mathlib.Core.List.{List, [], append-nil}
use lib.ListN.{length, take, drop, get_or}
use lib.Seq.{take_at, take_all}
use lib.IntN.{ℤ}
use mir.Syntax.{w16}
use mir.Val.{to_z, SFits}
use mir.ValLaws.{to_z-of_z, of_z-to_z, to_z-Fits}
use Rattle.fields.specs.Le.{le}
use Rattle.fields.specs.Row.{row_bytes, row_in}
use Rattle.fields.proofs.Rows.{row_back, row_held, row_again}
use Rattle.fields.proofs.Join.{fits}
use Rattle.answer.specs.Answers.{ok, left}
use Rattle.answer.proofs.AnswersLaws.{left_is}
use Rattle.opened.specs.declared.Opened.{Opened}
use Rattle.tzb_record.specs.Layout.{widths, record_wide, numbers_of, opened_from, bytes_of, opened_in, record_of, record_into, Held}
use Rattle.tzb_record.proofs.LayoutLaws.{record_long, record_is, into_room_law}

-- ---- a record's numbers are the record
numbers_back : (o : Opened) → Held o → opened_from (numbers_of o) ≡ o
unfolding numbers_of opened_from
numbers_back o h =
    ap₂ (λ (x y : ℤ). record { flags = o.flags; names = o.names; zones = o.zones; polys = o.polys; rings = o.rings; ops = o.ops; groups = o.groups; chunks = o.chunks; points = o.points; grid = record { off = o.grid.off; lng = x; lat = y; cols = o.grid.cols; rows = o.grid.rows; total = o.grid.total } })
    (to_z-of_z w16 o.grid.lng h.lng) (to_z-of_z w16 o.grid.lat h.lat)

-- the record that was written
pub round : (o : Opened) → Held o → opened_in (bytes_of o) ≡ o
unfolding bytes_of opened_in
round o h =
    ap (λ (s : List ℕ). opened_from (row_in widths s 0)) (sym (append-nil (row_bytes widths (numbers_of o))))
    ∙ ap opened_from (row_back widths (numbers_of o) [] [] h.numbers)
    ∙ numbers_back o h

pub record_back : (o : Opened) → Held o → ok o ≡ record_of (bytes_of o)
record_back o h = record_is (bytes_of o) o (record_long o) (sym (round o h))

-- the first bytes of lent memory, after a record was written into it
pub written_back : (o : Opened) (room : List ℕ) → Held o → record_wide ≤ length room → ok o ≡ record_of (take record_wide (left room (record_into o room)))
written_back o room h r =
    record_back o h
    ∙ ap record_of (sym (take_at (bytes_of o) (drop (length (bytes_of o)) room) record_wide (record_long o)))
    ∙ ap (λ (m : List ℕ). record_of (take record_wide m)) (left_is (record_into o room) (bytes_of o) (into_room_law o room r) room)

-- ---- bytes, each below 256, as many as a record's
module _ (s : List ℕ) (byte : (i : ℕ) → get_or s i 0 < 256) where
  numbers_again : numbers_of (opened_in s) ≡ row_in widths s 0
  unfolding numbers_of opened_in opened_from row_in
  numbers_again = rw (of_z-to_z w16 _ (record { fits = fits 2 s 72 byte }), of_z-to_z w16 _ (record { fits = fits 2 s 74 byte }))

  -- the fields of the record that they are read as lie in their widths
  signed : (p : ℕ) → SFits w16 (to_z w16 (le 2 s p))
  signed p = to_z-Fits w16 (le 2 s p) (record { fits = fits 2 s p byte })

  pub read_held : Held (opened_in s)
  unfolding opened_in opened_from row_in
  read_held = record { numbers = rw numbers_again (row_held s byte widths 0); lng = signed 72; lat = signed 74 }

  -- and it has those bytes
  pub again : length s ≡ record_wide → bytes_of (opened_in s) ≡ s
  unfolding bytes_of
  again e = ap (row_bytes widths) numbers_again ∙ row_again s byte widths 0 (omega arith) ∙ take_all record_wide s (omega arith)
