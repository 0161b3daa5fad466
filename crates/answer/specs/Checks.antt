-- Checks in order, and the first refusal among them.
-- Assumes nothing.
use Rattle.std.specs.Prelude.{ℕ, zero, suc, ◌+◌, Bool, true, false, ◌&&◌, ◌||◌, not, leb, ltb, eqb, List, [], ◌∷◌}
use Rattle.answer.specs.Answers.{ok, refused, no, Check, fine}

abbrev pub failed : ℕ → Check
failed n = no n

-- what must hold, and the number that is given where it does not
unfoldable pub claim : ℕ → Bool → Check
claim n true = fine
claim n false = failed n

-- what must not hold
unfoldable pub deny : ℕ → Bool → Check
deny n b = claim n (not b)

-- a check that is made only after another was fine
unfoldable pub and_then : Check → Check → Check
and_then (ok u) b = b
and_then (refused k) b = refused k

-- the first refusal of a list
unfoldable pub first : List Check → Check
first [] = fine
first (a ∷ l) = and_then a (first l)

-- the first refusal of n checks in a row, from the i-th on
unfoldable pub each : (ℕ → Check) → ℕ → ℕ → Check
each f zero i = fine
each f (suc n) i = and_then (f i) (each f n (i + 1))

-- the first of n places from i on at which p holds; i + n where there is none
abbrev pub pick : Bool → ℕ → ℕ → ℕ
pick true a b = a
pick false a b = b

unfoldable pub seek : (ℕ → Bool) → ℕ → ℕ → ℕ
seek p zero i = i
seek p (suc n) i = pick (p i) i (seek p n (i + 1))

-- the tests of which claims are made
unfoldable pub at_most : ℕ → ℕ → Bool
at_most a b = leb a b

unfoldable pub below : ℕ → ℕ → Bool
below a b = ltb a b

unfoldable pub same : ℕ → ℕ → Bool
same a b = eqb a b

unfoldable pub both : Bool → Bool → Bool
both a b = a && b

unfoldable pub either : Bool → Bool → Bool
either a b = a || b
