-- Nothing here need be believed: the code's own steps cite it, and no public promise does.
-- What the steps of `lookup_into` answer: the zones that were seen to contain the point, and how many there are.
-- Assumes nothing.
use Rattle.std.specs.Prelude.{ℕ, zero, suc, ◌+◌, ◌≤◌, ◌≡◌, Bool, true, false, List, [], length, take}
use Rattle.answer.specs.Answers.{Answer, ok, refused, ◌then◌, ◌before◌, Check}
use Rattle.answer.specs.Checks.{and_then}
use Rattle.opened.specs.declared.Opened.{Opened}
use Rattle.replies.specs.Replies.{Chosen, none, all, listed, Sought}
use Rattle.reader_listing.specs.All.{also, names_read}

-- of n candidates from place i on, up to the first refusal
abbrev pub seen_on : Answer Sought → List ℕ → List ℕ
seen_on (ok z) rest = also z rest
seen_on (refused k) rest = []

unfoldable pub seen : (ℕ → Answer Sought) → ℕ → ℕ → List ℕ
seen hit zero i = []
seen hit (suc n) i = seen_on (hit i) (seen hit n (i + 1))

-- how many zones, after m zones whose names were read with that result
unfoldable pub tally : Opened → List ℕ → Check → ℕ → Answer (List ℕ) → Answer ℕ
tally o s names m hits = hits then λ l. and_then names (names_read o s l) before ok (m + length l)

-- k zones, kept in lent memory where there was room for all
pub record Kept (zones held : List ℕ) (k : ℕ) : Type 0 where
  pub count : k ≡ length zones
  pub kept : k ≤ length held → take k held ≡ zones

-- what is looked at, where no candidate is one among none: with GRID or without, how many, and from which place on
abbrev pub span_of : Chosen → Bool × ℕ × ℕ
span_of none = (false, 0, 0)
span_of (all n) = (false, n, 0)
span_of (listed n place) = (true, n, place)

abbrev pub looked_at : Answer Chosen → Answer (Bool × ℕ × ℕ)
looked_at x = x then λ c. ok (span_of c)
