-- STRIPES: for every file, record and numbers, what building answers, and that questions by stripes are answered as without them.
-- "Answers with stripes are to equal the plain walk, for every file that builds and every position, refusals included. State the numbers needed beforehand; 46 is given exactly when the lent room is below that." (document 02, request 2026-02)
-- One record for each, of which the theorem with its name in proofs/Stripes holds of every call (specs/Calls) on bytes (`Bytes`, specs/Words). Where each word is defined:
--   the stripes       `numbers`, `need_of`, stripes/specs/Numbers, of the boxes that the file's groups and chunks have: `stripes_of`, reader_stripes/specs/Building
--   exact geometry    as in specs/Demand3
-- Assumes nothing.
use Rattle.std.specs.Prelude.{ℕ, ◌≤◌, ◌<◌, ◌≡◌, List, ◌⊎◌, ℤ, pos, Float, length, take, drop}
use Rattle.demands.specs.Words.{InZone}
use Rattle.exported.specs.Calls.{TzbOpen, TzbFullCheck, TzbZoneCount, TzbContains, TzbAsk, TzbAskAll, TzbStripesNeed, TzbStripes, TzbContainsStriped, TzbAskStriped, TzbAskAllStriped}
use Rattle.exported.specs.Words.{refusing, Refuses, Bytes, shape_of}
use Rattle.exported.specs.Demand3.{OneOrZero}
use Rattle.plane.specs.Places.{point}

-- tzb_stripes(held, file, lent) answers r and leaves `after`
pub record StripesAnswers (held file lent : List ℕ) (r : ℤ) (after : List ℕ) : Type 0 where
  -- with room for what tzb_stripes_need answers, that many are written
  pub enough : (n : ℕ) → TzbStripesNeed held file (pos n) → n ≤ length lent → r ≡ pos n
  -- 46 exactly when the room is below it
  pub no_room : (n : ℕ) → TzbStripesNeed held file (pos n) → length lent < n → r ≡ refusing 46
  -- what the need is refused for, building is refused for
  pub refused : (q : ℤ) → TzbStripesNeed held file q → Refuses q → r ≡ q
  -- what lies behind the numbers stays, and after a refusal all does
  pub behind : (n : ℕ) → r ≡ pos n → drop n after ≡ drop n lent
  pub unchanged : ((n : ℕ) → r ≡ pos n → ⊥) → after ≡ lent

-- `numbers` start with those that a call of tzb_stripes wrote; what lies behind is arbitrary
pub record BuiltFrom (held file numbers : List ℕ) : Type 0 where
  pub lent : List ℕ
  pub count : ℕ
  pub after : List ℕ
  pub wrote : TzbStripes held file lent (pos count) after
  pub kept : take count numbers ≡ take count after

-- questions by stripes
pub record StripedAnswers (file : List ℕ) : Type 0 where
  -- each answers as without them, refusals included
  pub contains : (held numbers : List ℕ) → Bytes held → BuiltFrom held file numbers → (zone : ℕ) (x y r q : ℤ)
      → TzbContains held file zone x y r → TzbContainsStriped held numbers file zone x y q → q ≡ r
  pub ask : (held numbers : List ℕ) → Bytes held → BuiltFrom held file numbers → (lng lat : Float) (r q : ℤ)
      → TzbAsk held file lng lat r → TzbAskStriped held numbers file lng lat q → q ≡ r
  pub ask_all : (held numbers : List ℕ) → Bytes held → BuiltFrom held file numbers → (lng lat : Float) (places : List ℕ) (r q : ℤ) (after after' : List ℕ)
      → TzbAskAll held file lng lat places r after → TzbAskAllStriped held numbers file lng lat places q after' → (q ≡ r) × (after' ≡ after)
  -- Of a file that opens the need is a number, or 49.
  pub needs : (memory after : List ℕ) → TzbOpen file memory (pos 0) after
      → (r : ℤ) → TzbStripesNeed (take 84 after) file r → ((n : ℕ) × (r ≡ pos n)) ⊎ (r ≡ refusing 49)
  -- Of a file that the full check accepts building is refused for nothing but room.
  pub builds : TzbFullCheck file (pos 0) → (memory after : List ℕ) → TzbOpen file memory (pos 0) after
      → (r : ℤ) → TzbStripesNeed (take 84 after) file r → (n : ℕ) × (r ≡ pos n)
  -- DEMAND 3, by stripes: where `tzb_full_check` and `tzb_open` answer 0, `tzb_contains_striped` with the record in memory and the stripes built from it answers, of each zone and at each x and y, 1 exactly when exact geometry says in, and 0 else.
  pub exact : TzbFullCheck file (pos 0) → (memory after : List ℕ) → TzbOpen file memory (pos 0) after
      → (numbers : List ℕ) → BuiltFrom (take 84 after) file numbers
      → (zones : ℕ) → TzbZoneCount (take 84 after) (pos zones) → (zone : ℕ) → zone < zones
      → (x y r : ℤ) → TzbContainsStriped (take 84 after) numbers file zone x y r → OneOrZero r (InZone (point x y) (shape_of file zone))
