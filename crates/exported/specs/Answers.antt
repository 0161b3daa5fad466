-- EXACT ANSWERS: for every file, record and numbers, what `tzb_full_check`, `tzb_full_check_rule`, `tzb_open`, `tzb_contains`, `tzb_lookup` and `tzb_ask` answer.
-- One record for each, of which the theorem with its name in proofs/Answers holds of every call (specs/Calls). The cases of a record leave none out. Where each word is defined:
--   opening           `open_of file`, tzb/specs/Opening: `ok` with the record, or `no n` for refusal n. `opened_is file` is the only record that a file can open to
--   F1 to F6          `Accepted`, demands/specs/Accepted, F2 with the part that document 02 adds; the lowest broken rule: `lowest_broken`, reader_check/specs/FullCheck
--   the record        84 bytes are read as `opened_in held`, and `bytes_of` writes them: tzb_record/specs/Layout
--   the walk          `zone_of`, reader_zones/specs/Zones; in the domain: `in_domain`, plane/specs/Domain
--   the zone sought   `lookup_of`, reader_lookup/specs/Asking
-- Assumes nothing.
use Rattle.std.specs.Prelude.{ℕ, ◌≤◌, ◌<◌, ◌≡◌, Bool, true, false, List, ◌++◌, ◌↔◌, ℤ, pos, Float, length, drop}
use Rattle.plane.specs.Domain.{in_domain}
use Rattle.answer.specs.declared.Refusal.{Refusal}
use Rattle.answer.specs.Answers.{Answer, ok, refused, no}
use Rattle.reader_zones.specs.Zones.{zone_of}
use Rattle.reader_lookup.specs.Asking.{lookup_of}
use Rattle.reader_check.specs.FullCheck.{lowest_broken}
use Rattle.tzb_record.specs.Layout.{bytes_of, opened_in}
use Rattle.tzb.specs.Opening.{opened_is, open_of}
use Rattle.demands.specs.Accepted.{Accepted}
use Rattle.exported.specs.Words.{none, refusing}
use Rattle.plane.specs.Places.{point_of, point}
use Rattle.replies.specs.Replies.{Sought, nowhere, in_zone}

-- r is an answer as a number: its value's own, or -1000 - n for refusal n
pub record Tells {A : Type 0} (number : A → ℤ) (x : Answer A) (r : ℤ) : Type 0 where
  pub value : (a : A) → ok a ≡ x → r ≡ number a
  pub refusal : (k : Refusal) → refused k ≡ x → r ≡ refusing k.number

-- 1 yes, 0 no
abbrev pub yes_no : Bool → ℤ
yes_no true = pos 1
yes_no false = pos 0

-- a zone's own number, -1 for none
abbrev pub zone_number : Sought → ℤ
zone_number nowhere = none
zone_number (in_zone zone) = pos zone

-- tzb_full_check(file) answers r, and tzb_full_check_rule(file) answers rule
pub record FullCheckAnswers (file : List ℕ) (r : ℤ) (rule : ℕ) : Type 0 where
  -- 0 exactly when F1 to F6 hold
  pub accepts : (r ≡ pos 0) ↔ Accepted file (opened_is file)
  -- -1000 - n exactly when opening refuses the file with n
  pub refuses : (n : ℕ) → n < 47 → (r ≡ refusing n) ↔ (no n ≡ open_of file)
  -- -1047 exactly when it opens and a rule of F2 to F6 is broken
  pub broken : (r ≡ refusing 47) ↔ ((ok (opened_is file) ≡ open_of file) × (0 < lowest_broken (opened_is file) file))
  -- beside -1047 the lowest broken rule, else 0
  pub rule_told : r ≡ refusing 47 → rule ≡ lowest_broken (opened_is file) file
  pub rule_none : (r ≡ refusing 47 → ⊥) → rule ≡ 0

-- tzb_open(file, memory) answers r and leaves `after`
pub record OpenAnswers (file memory : List ℕ) (r : ℤ) (after : List ℕ) : Type 0 where
  -- 0 exactly when the file opens and there is room for 84 bytes; they are the record then, and what lies behind is as it was
  pub opens : (r ≡ pos 0) ↔ ((ok (opened_is file) ≡ open_of file) × (84 ≤ length memory))
  pub kept : r ≡ pos 0 → after ≡ bytes_of (opened_is file) ++ drop 84 memory
  -- -1000 - n exactly when opening refuses the file with n
  pub refuses : (n : ℕ) → n < 46 → (r ≡ refusing n) ↔ (no n ≡ open_of file)
  -- -1046 exactly when it opens and there is no room
  pub no_room : (r ≡ refusing 46) ↔ ((ok (opened_is file) ≡ open_of file) × (length memory < 84))
  -- where it is not 0, the memory is as it was
  pub unchanged : (r ≡ pos 0 → ⊥) → after ≡ memory

-- tzb_contains(held, file, zone, x, y) answers r
pub record ContainsAnswers (held file : List ℕ) (zone : ℕ) (x y r : ℤ) : Type 0 where
  -- a record that is not 84 bytes long is 44
  pub no_record : (length held ≡ 84 → ⊥) → r ≡ refusing 44
  -- a zone number that is too large is 45
  pub no_zone : length held ≡ 84 → (opened_in held).zones.count ≤ zone → r ≡ refusing 45
  -- a point outside the domain is in no zone
  pub outside : length held ≡ 84 → zone < (opened_in held).zones.count → in_domain (point x y) ≡ false → r ≡ pos 0
  -- else what the walk over the zone says
  pub walked : length held ≡ 84 → zone < (opened_in held).zones.count → in_domain (point x y) ≡ true → Tells yes_no (zone_of (opened_in held) file (point_of (point x y)) zone) r

-- tzb_lookup(file, lng, lat) answers r
pub record LookupAnswers (file : List ℕ) (lng lat : Float) (r : ℤ) : Type 0 where
  -- -1000 - n where opening refuses the file with n
  pub refuses : (n : ℕ) → no n ≡ open_of file → r ≡ refusing n
  -- else the zone sought in it
  pub found : ok (opened_is file) ≡ open_of file → Tells zone_number (lookup_of (opened_is file) file lng lat) r

-- tzb_ask(held, file, lng, lat) answers r
pub record AskAnswers (held file : List ℕ) (lng lat : Float) (r : ℤ) : Type 0 where
  -- a record that is not 84 bytes long is 44
  pub no_record : (length held ≡ 84 → ⊥) → r ≡ refusing 44
  -- else the zone sought with it, whatever file it was made from
  pub found : length held ≡ 84 → Tells zone_number (lookup_of (opened_in held) file lng lat) r
