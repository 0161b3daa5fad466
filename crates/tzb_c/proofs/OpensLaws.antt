-- Laws of specs/Opens, as proofs cite them. Nothing here need be believed.
-- Assumes nothing.
use Prim.Native.Nat.{ℕ, ◌≤◌}
use mathlib.Core.Path.{◌≡◌}
use mathlib.Core.List.{List}
use lib.Ieee.{Float}
use lib.ListN.{length}
use Rattle.answer.specs.declared.Refusal.{Refusal}
use Rattle.answer.specs.Answers.{Answer, ok, refused}
use Rattle.answer.proofs.AnswersLaws.{then_ok, then_no, then_inv, need_inv}
use Rattle.answer.proofs.CheckLaws.{at_le}
use Rattle.opened.specs.declared.Opened.{Opened}
use Rattle.reader_lookup.specs.Asking.{lookup_of}
use Rattle.tzb_record.specs.Layout.{record_wide, record_into}
use Rattle.tzb.specs.Opening.{open_of}
use Rattle.replies.specs.Replies.{Sought}
use Rattle.tzb_c.specs.Opens.{open_into, lookup_once}

-- opening into lent memory
module _ (s room : List ℕ) where
  pub open_barred : (k : Refusal) → refused k ≡ open_of s → refused k ≡ open_into s room
  unfolding open_into
  open_barred k e = then_no (open_of s) (λ o. record_into o room) k e

  -- once it is opened, it is what writing the record answers
  pub open_into_law : (o : Opened) → ok o ≡ open_of s → record_into o room ≡ open_into s room
  unfolding open_into
  open_into_law o e = then_ok (open_of s) (λ o. record_into o room) o e

  -- it refuses nothing: neither does opening, and there was room
  pub into_inv : (l : List ℕ) → ok l ≡ open_into s room → (o : Opened) × (ok o ≡ open_of s) × (record_wide ≤ length room)
  unfolding open_into record_into
  into_inv l e =
      let t = then_inv (open_of s) (λ o. record_into o room) l e in
      (t.0, t.1, at_le _ _ (need_inv 46 _ _ l t.2).0)

-- opening to ask once
module _ (s : List ℕ) (lng lat : Float) where
  pub once_barred : (k : Refusal) → refused k ≡ open_of s → refused k ≡ lookup_once s lng lat
  unfolding lookup_once
  once_barred k e = rw (← e)

  pub once_asked : (o : Opened) (x : Answer Sought) → ok o ≡ open_of s → x ≡ lookup_of o s lng lat → x ≡ lookup_once s lng lat
  unfolding lookup_once
  once_asked o x e g = rw (← e) g
