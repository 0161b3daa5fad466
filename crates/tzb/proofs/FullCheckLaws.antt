-- Laws of specs/FullCheck, as proofs cite them. Nothing here need be believed.
-- Assumes nothing.
use Prim.Native.Nat.{ℕ, ◌<◌}
use mathlib.Core.Path.{◌≡◌}
use mathlib.Core.List.{List}
use Rattle.answer.specs.declared.Refusal.{Refusal}
use Rattle.answer.specs.Refusals.{refusal}
use Rattle.answer.specs.Answers.{ok, refused}
use Rattle.opened.specs.declared.Opened.{Opened}
use Rattle.reader_check.specs.FullCheck.{lowest_broken}
use Rattle.tzb.specs.Opening.{open_of}
use Rattle.replies.specs.Replies.{accepted, refused_by, broken_at}
use Rattle.tzb.specs.FullCheck.{full_check_of}
use Rattle.reader_check.proofs.FullCheckLaws.{check_refused, check_accepted, check_broken}

module _ (file : List ℕ) where
  pub full_refused : (r : Refusal) → refused r ≡ open_of file → refused_by r ≡ full_check_of file
  unfolding full_check_of
  full_refused r e = check_refused (open_of file) file r e

  module _ (o : Opened) (e : ok o ≡ open_of file) (n : ℕ) (h : n ≡ lowest_broken o file) where
    pub full_accepted : n ≡ 0 → accepted ≡ full_check_of file
    unfolding full_check_of
    full_accepted z = check_accepted (open_of file) file o e n h z

    pub full_broken : 0 < n → (r : Refusal) → r ≡ refusal 47 → broken_at r n ≡ full_check_of file
    unfolding full_check_of
    full_broken l r k = rw k (check_broken (open_of file) file o e n h l)
