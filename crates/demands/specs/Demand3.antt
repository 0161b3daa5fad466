-- DEMAND 3.
-- "The full check (added by this port) accepts a file exactly when document 01's F1 to F6 hold. For a file it accepts, each of its zones, and each position in whole hundred-thousandths of a degree within 180 and 90 degrees, the reader with its skips says "in this zone" exactly when exact whole-number geometry does: on or inside the outer ring of one of the zone's polygons, and strictly inside none of that polygon's holes."
--
-- `Demand3 file`, below, is this sentence of a file; `demand_3`, in proofs/Demand3, proves it of every file. Where each word is defined:
--   the full check            `full_check_of`, tzb/specs/FullCheck; `full_check` of tzb promises to answer it
--   F1 to F6                  `Accepted`, specs/Accepted, where F2 has the part that document 02 adds (request 2026-05: "Demand 3 then reads over the smaller set of accepted files"); each rule in reader_check/specs/FullCheck
--   a position                `Position`, specs/Words
--   the reader with its skips `contains_at`, reader_zones/specs/Zones: the walk over the file's bytes, in floats, past what boxes rule out; `contains` of reader_zones promises to answer it
--   exact geometry            `InZone`, specs/Words, over the zone's shape
--   the zone's shape          `zone_at (directories o file) zone`, shapes/specs/Layout and directories/specs/Directories: the points that the file's chunks decode to, by groups, rings and polygons. Of an accepted file every record of it is one that the reader answers (`accepted_sound`, proofs/Rules; `sound_named`, reader_exact/proofs/Exact)
-- Assumes nothing.
use Rattle.std.specs.Prelude.{ℕ, ◌<◌, ◌≡◌, Bool, true, List, ◌↔◌}
use Rattle.plane.specs.declared.I32Point.{I32Point}
use Rattle.answer.specs.Answers.{ok}
use Rattle.opened.specs.declared.Opened.{Opened}
use Rattle.reader_zones.specs.Zones.{contains_at}
use Rattle.directories.specs.Directories.{directories}
use Rattle.tzb.specs.Opening.{open_of}
use Rattle.tzb.specs.FullCheck.{full_check_of}
use Rattle.demands.specs.Accepted.{Accepted}
use Rattle.demands.specs.Words.{Position, InZone}
use Rattle.replies.specs.Replies.{accepted}
use Rattle.shapes.specs.Layout.{zone_at}

-- the reader answers, with no refusal; and "in this zone" exactly when exact geometry does
pub record Exactly (o : Opened) (file : List ℕ) (zone : ℕ) (q : I32Point) : Type 0 where
  pub says : Bool
  pub answers : contains_at o file zone q ≡ ok says
  pub exactly : (says ≡ true) ↔ InZone q (zone_at (directories o file) zone)

pub record Demand3 (file : List ℕ) : Type 0 where
  -- "The full check accepts a file exactly when document 01's F1 to F6 hold."
  pub accepts : (full_check_of file ≡ accepted) ↔ ((o : Opened) × Accepted file o)
  -- "For a file it accepts" (o is the record that opening makes of it), "each of its zones, and each position .., the reader with its skips says "in this zone" exactly when exact whole-number geometry does"
  pub contains : full_check_of file ≡ accepted → (o : Opened) → ok o ≡ open_of file → (zone : ℕ) → zone < o.zones.count → (p : Position) → Exactly o file zone p.at
