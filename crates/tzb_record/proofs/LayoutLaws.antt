-- Laws of specs/Layout, as proofs cite them. Nothing here need be believed.
-- Assumes nothing.
use Prim.Native.Nat.{ℕ, ◌+◌, ◌≤◌, ◌<◌}
use mathlib.Core.Path.{◌≡◌, ap, ◌∙◌}
use native.Mathlib.Omega.{arith}
use mathlib.Core.List.{List, ◌++◌}
use lib.ListN.{length, drop}
use Rattle.fields.specs.Row.{row_bytes}
use Rattle.fields.specs.Stores.{laid, Laid}
use Rattle.fields.proofs.Rows.{row_long}
use Rattle.answer.specs.Refusals.{refusal}
use Rattle.answer.specs.Answers.{ok, refused, fine, outcome, left}
use Rattle.answer.specs.Checks.{failed}
use Rattle.answer.proofs.CheckLaws.{le_at, gt_at, eq_same, ne_same}
use Rattle.answer.proofs.AnswersLaws.{need_met, need_not, left_no, left_is}
use Rattle.opened.specs.declared.Opened.{Opened}
use Rattle.tzb_record.specs.Layout.{widths, record_wide, numbers_of, bytes_of, opened_in, record_of, record_into}

-- ---- a record from its fields, as they are loaded one by one
module _ (s : List ℕ) where
  pub record_none : (length s ≡ record_wide → ⊥) → refused (refusal 44) ≡ record_of s
  unfolding record_of
  record_none h = need_not _ _ _ (ne_same (length s) record_wide h)

  pub record_is : (o : Opened) → length s ≡ record_wide → o ≡ opened_in s → ok o ≡ record_of s
  unfolding record_of
  record_is o h e = ap ok e ∙ need_met _ _ _ (eq_same (length s) record_wide h)

-- ---- a record into lent memory
pub record_long : (o : Opened) → length (bytes_of o) ≡ record_wide
unfolding bytes_of
record_long o = row_long widths (numbers_of o)

module _ (o : Opened) (room : List ℕ) where
  pub into_none : length room < record_wide → refused (refusal 46) ≡ record_into o room
  unfolding record_into
  into_none h = need_not _ _ _ (gt_at record_wide (length room) h)

  pub into_room_law : record_wide ≤ length room → ok (bytes_of o) ≡ record_into o room
  unfolding record_into
  into_room_law h = need_met _ _ _ (le_at record_wide (length room) h)

  pub no_room : length room < record_wide → (failed 46 ≡ outcome (record_into o room)) × (room ≡ left room (record_into o room))
  no_room h = (ap outcome (into_none h), left_no (record_into o room) (refusal 46) (into_none h) room)

  -- the row was stored at the start of it
  pub stored : (ns after : List ℕ) → ns ≡ numbers_of o → Laid room 0 (row_bytes widths ns) after → (fine ≡ outcome (record_into o room)) × (after ≡ left room (record_into o room))
  unfolding laid bytes_of
  stored ns after e f =
      let all : row_bytes widths ns ≡ bytes_of o = ap (row_bytes widths) e in
      let h : record_wide ≤ length room = omega (arith, f.room, row_long widths ns) in
      let behind : 0 + length (row_bytes widths ns) ≡ length (row_bytes widths ns) = omega arith in
      (ap outcome (into_room_law h), f.is ∙ ap (λ (k : ℕ). row_bytes widths ns ++ drop k room) behind ∙ ap (λ (l : List ℕ). l ++ drop (length l) room) all ∙ left_is (record_into o room) (bytes_of o) (into_room_law h) room)
