-- DEMAND 3, on the exports.
-- "The full check accepts a file exactly when document 01's F1 to F6 hold. For a file it accepts, each of its zones, and each position .., the reader with its skips says "in this zone" exactly when exact whole-number geometry does."
--
-- `Demand3 file`, below, is this sentence of a file; `demand_3`, in proofs/Demand3, proves it of every list of bytes. Where each word is defined:
--   a call and its answer     `TzbFullCheck`, .., specs/Calls: what the export's contract allows
--   F1 to F6                  `Accepted`, demands/specs/Accepted, F2 with the part that document 02 adds; `opened_is file` is the record that opening makes of the file
--   the record in memory      the first 84 bytes of the memory that `tzb_open` was lent: `take 84 after`
--   a zone's shape            `shape_of`, specs/Words
--   exact geometry            `InZone`, demands/specs/Words: on or inside the outer ring of one of the zone's polygons, and strictly inside none of that polygon's holes
-- Assumes nothing.
use Rattle.std.specs.Prelude.{ℕ, ◌≤◌, ◌<◌, ◌≡◌, List, ◌↔◌, ◌⊎◌, ℤ, pos, take}
use Rattle.tzb.specs.Opening.{opened_is}
use Rattle.demands.specs.Accepted.{Accepted}
use Rattle.demands.specs.Words.{InZone}
use Rattle.exported.specs.Calls.{TzbOpen, TzbFullCheck, TzbZoneCount, TzbContains}
use Rattle.exported.specs.Words.{refusing, shape_of}
use Rattle.plane.specs.Places.{point}

-- the answer is 1 or 0: 1 exactly when it lies inside, and 0 exactly when it does not
pub record OneOrZero (r : ℤ) (inside : Type 0) : Type 0 where
  pub either : (r ≡ pos 1) ⊎ (r ≡ pos 0)
  pub one : (r ≡ pos 1) ↔ inside
  pub zero : (r ≡ pos 0) ↔ (inside → ⊥)

pub record Demand3 (file : List ℕ) : Type 0 where
  -- `tzb_full_check` answers 0 exactly when F1 to F6 hold.
  pub accepts : (r : ℤ) → TzbFullCheck file r → (r ≡ pos 0) ↔ Accepted file (opened_is file)
  -- Where `tzb_full_check` answers 0 and `tzb_open` answers 0, `tzb_contains` with the record in memory answers, of each zone and at each x and y, 1 exactly when exact geometry says in, and 0 else.
  pub contains : TzbFullCheck file (pos 0) → (memory after : List ℕ) → TzbOpen file memory (pos 0) after
      → (zones : ℕ) → TzbZoneCount (take 84 after) (pos zones) → (zone : ℕ) → zone < zones
      → (x y r : ℤ) → TzbContains (take 84 after) file zone x y r → OneOrZero r (InZone (point x y) (shape_of file zone))
  -- A number that is no zone's is refused with 45, on any file.
  pub no_zone : (memory after : List ℕ) → TzbOpen file memory (pos 0) after
      → (zones : ℕ) → TzbZoneCount (take 84 after) (pos zones) → (zone : ℕ) → zones ≤ zone
      → (x y r : ℤ) → TzbContains (take 84 after) file zone x y r → r ≡ refusing 45
