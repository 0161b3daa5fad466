-- Opening into lent memory: it opens and there is room, it opens and there is none, or opening refuses.
-- Assumes nothing.
use Prim.Native.Nat.{ℕ, ◌≤◌, ◌<◌}
use native.Mathlib.Omega.{arith}
use mathlib.Core.Path.{◌≡◌, refl, ◌∙◌}
use mathlib.Core.List.{List}
use lib.ListN.{length}
use Rattle.answer.specs.Answers.{ok, no, ◌then◌}
use Rattle.answer.specs.Checks.{at_most}
use Rattle.opened.specs.declared.Opened.{Opened}
use Rattle.tzb_record.specs.Layout.{record_wide, bytes_of, record_into}
use Rattle.tzb_record.proofs.LayoutLaws.{into_none, into_room_law}
use Rattle.tzb.specs.Opening.{open_of}
use Rattle.tzb_c.specs.Opens.{open_into}
use Rattle.tzb_c.proofs.OpensLaws.{open_into_law}
use Rattle.exported.specs.Words.{last_number}
use Rattle.exported.proofs.Tabled.{Tabled, given, then_t, higher, need_t}
use Rattle.exported.proofs.Opening.{open_tabled}

module _ (file memory : List ℕ) (o : Opened) (e : ok o ≡ open_of file) where
  pub room_in : 84 ≤ length memory → ok (bytes_of o) ≡ open_into file memory
  room_in h = into_room_law o memory h ∙ open_into_law file memory o e

  pub room_short : length memory < 84 → no 46 ≡ open_into file memory
  room_short h = into_none o memory h ∙ open_into_law file memory o e

-- its refusals are opening's and 46
pub into_tabled : (file memory : List ℕ) → Tabled last_number (open_into file memory)
unfolding open_into record_into
into_tabled file memory = then_t _ _ (higher 34 last_number (omega arith) _ (open_tabled file)) (λ o. need_t 46 (at_most record_wide (length memory)) _ refl (given _))
