-- Laws of specs/FullCheck, as proofs cite them. Nothing here need be believed.
-- Assumes nothing.
use Prim.Native.Nat.{ℕ, zero, suc, ◌<◌}
use native.Mathlib.Omega.{arith}
use mathlib.Core.Path.{◌≡◌, refl, sym, ap, ◌∙◌}
use mathlib.Core.List.{List}
use Rattle.answer.specs.declared.Refusal.{Refusal}
use Rattle.answer.specs.Refusals.{refusal}
use Rattle.answer.specs.Answers.{Answer, ok, refused}
use Rattle.opened.specs.declared.Opened.{Opened}
use Rattle.replies.specs.Replies.{accepted, refused_by, broken_at}
use Rattle.reader_check.specs.FullCheck.{lowest_broken, judged, check_of}

module _ (x : Answer Opened) (s : List ℕ) where
  pub check_refused : (r : Refusal) → refused r ≡ x → refused_by r ≡ check_of x s
  unfolding check_of
  check_refused r e = rw (← e)

  module _ (o : Opened) (e : ok o ≡ x) (n : ℕ) (h : n ≡ lowest_broken o s) where
    check_judged : judged n ≡ check_of x s
    unfolding check_of
    check_judged = ap judged h ∙ ap (λ (y : Answer Opened). check_of y s) e

    pub check_accepted : n ≡ 0 → accepted ≡ check_of x s
    check_accepted z = ap judged (sym z) ∙ check_judged

    pub check_broken : 0 < n → broken_at (refusal 47) n ≡ check_of x s
    check_broken l = by n l ∙ check_judged
      where
        by : (n : ℕ) → 0 < n → broken_at (refusal 47) n ≡ judged n
        by zero l = absurd (omega arith)
        by (suc n) l = refl
