-- THE STRIPES CHANGE NO ANSWER. Document 02, 2026-02.
-- "Answers with stripes are to equal the plain walk, for every file that builds and every position, refusals included."
--
-- `Built o s lent → Same o s lent`, below, is this sentence; `same`, in proofs/Same, proves it of every record, every file and all numbers. Where each word is defined:
--   building                  `stripes_of`, reader_stripes/specs/Building: the numbers, or the refusal
--   the walk by stripes       `striped_scan`, reader_ways/specs/Ways: what the numbers say of a group, and the chunks of one of its stripes
--   the plain walk            `group_scan`, reader_groups/specs/Groups: all of its chunks
--   the questions             `zone_by`, `contains_by` (reader_zones/specs/Zones), `lookup_by` (reader_lookup/specs/Asking), `list_by` (reader_listing/specs/All), each for either way; `zone_of`, `contains_at`, `lookup_of`, `list_of` are the plain ones
-- Assumes nothing.
use Rattle.std.specs.Prelude.{ℕ, ◌≡◌, List, Float, length, take}
use Rattle.plane.specs.declared.Point.{Point}
use Rattle.plane.specs.declared.I32Point.{I32Point}
use Rattle.answer.specs.Answers.{ok}
use Rattle.opened.specs.declared.Opened.{Opened}
use Rattle.reader_stripes.specs.Building.{stripes_of}
use Rattle.reader_ways.specs.Ways.{striped}
use Rattle.reader_zones.specs.Zones.{zone_by, zone_of, contains_by, contains_at}
use Rattle.reader_lookup.specs.Asking.{lookup_by, lookup_of}
use Rattle.reader_listing.specs.All.{list_by, list_of}

-- lent numbers that begin with those built from that record and that file; what lies behind them is arbitrary
pub record Built (o : Opened) (s lent : List ℕ) : Type 0 where
  pub room : ℕ
  pub numbers : List ℕ
  pub built : ok numbers ≡ stripes_of o s room
  pub kept : take (length numbers) lent ≡ numbers

-- every question, asked by the stripes that these numbers say, answers as the plain one does: the same value, or the same refusal
pub record Same (o : Opened) (s lent : List ℕ) : Type 0 where
  -- containment in every zone: at every float position, and at every whole-number one
  pub zone : (p : Point) (i : ℕ) → zone_by (striped lent) o s p i ≡ zone_of o s p i
  pub contains : (i : ℕ) (q : I32Point) → contains_by (striped lent) o s i q ≡ contains_at o s i q
  -- `lookup`
  pub lookup : (lng lat : Float) → lookup_by (striped lent) o s lng lat ≡ lookup_of o s lng lat
  -- `lookup_into`, with that many places
  pub lookup_into : (lng lat : Float) (places : ℕ) → list_by (striped lent) o s lng lat places ≡ list_of o s lng lat places
