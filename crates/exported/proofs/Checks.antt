-- What opening answers of a file, and the full check: its cases.
-- Assumes nothing.
use Prim.Native.Nat.{ℕ, zero, suc, ◌<◌}
use native.Mathlib.Omega.{arith}
use mathlib.Core.Path.{◌≡◌, refl, sym, ap, ◌∙◌}
use mathlib.Core.List.{List}
use Rattle.answer.specs.declared.Refusal.{Refusal}
use Rattle.answer.specs.Refusals.{refusal}
use Rattle.answer.specs.Answers.{Answer, ok, refused}
use Rattle.opened.specs.declared.Opened.{Opened}
use Rattle.reader_check.specs.FullCheck.{lowest_broken}
use Rattle.tzb.specs.Opening.{open_of, opened_is}
use Rattle.tzb.specs.FullCheck.{full_check_of}
use Rattle.tzb.proofs.Given.{opened_is_law}
use Rattle.exported.proofs.Tabled.{Numbered, Tabled}
use Rattle.exported.proofs.Opening.{open_tabled}
use Rattle.replies.specs.Replies.{accepted, refused_by, broken_at}
use Rattle.tzb.proofs.FullCheckLaws.{full_refused, full_accepted, full_broken}

-- its one record, or a refusal from 1 to 34
pub data Opens (file : List ℕ) : Type 0 where
  opened : ok (opened_is file) ≡ open_of file → Opens file
  barred : (k : Refusal) → Numbered 34 k → refused k ≡ open_of file → Opens file

pub opens : (file : List ℕ) → Opens file
opens file = go (open_of file) refl (open_tabled file)
  where
    go : (x : Answer Opened) → x ≡ open_of file → Tabled 34 x → Opens file
    go (ok o) e t = opened (sym (ap ok (opened_is_law file o e)) ∙ e)
    go (refused k) e t = barred k t.by e

-- refused by opening, accepted, or a rule is broken
pub data Checks (file : List ℕ) : Type 0 where
  refused_by_law : (k : Refusal) → Numbered 34 k → refused k ≡ open_of file → refused_by k ≡ full_check_of file → Checks file
  accepts : ok (opened_is file) ≡ open_of file → lowest_broken (opened_is file) file ≡ 0 → accepted ≡ full_check_of file → Checks file
  breaks : ok (opened_is file) ≡ open_of file → 0 < lowest_broken (opened_is file) file → broken_at (refusal 47) (lowest_broken (opened_is file) file) ≡ full_check_of file → Checks file

pub checks : (file : List ℕ) → Checks file
checks file = go (opens file)
  where
    by : ok (opened_is file) ≡ open_of file → (n : ℕ) → n ≡ lowest_broken (opened_is file) file → Checks file
    by e zero z = accepts e (sym z) (full_accepted file (opened_is file) e (lowest_broken (opened_is file) file) refl (sym z))
    by e (suc n) z =
        let some : 0 < lowest_broken (opened_is file) file = omega arith in
        breaks e some (full_broken file (opened_is file) e (lowest_broken (opened_is file) file) refl some (refusal 47) refl)

    go : Opens file → Checks file
    go (opened e) = by e (lowest_broken (opened_is file) file) refl
    go (barred k h e) = refused_by_law k h e (full_refused file k e)
