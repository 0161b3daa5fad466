-- DEMAND 3, BY STRIPES. Document 02, 2026-02.
-- Of a file that opens: building is refused by 49 and 46 alone. Of a file that the full check accepts: it builds, so that no refusal but 46 is given, and that only where the room is below the need; and at whole-number positions the reader, asked by stripes built from it, says "in this zone" exactly when exact whole-number geometry does.
-- `Demand3Striped file`, below, says so of a file; `demand_3_striped`, in proofs/Striped, proves it of every file. The words are those of demands/specs/Demand3 and reader_same/specs/Same.
-- Assumes nothing.
use Rattle.std.specs.Prelude.{ℕ, ◌<◌, ◌≡◌, Bool, true, List, ◌↔◌, leb, length}
use Rattle.plane.specs.declared.I32Point.{I32Point}
use Rattle.answer.specs.declared.Refusal.{Refusal}
use Rattle.answer.specs.Refusals.{refusal}
use Rattle.answer.specs.Answers.{ok, refused, need}
use Rattle.opened.specs.declared.Opened.{Opened}
use Rattle.replies.specs.Replies.{accepted}
use Rattle.shapes.specs.Layout.{zone_at}
use Rattle.directories.specs.Directories.{directories}
use Rattle.reader_stripes.specs.Building.{stripes_need, stripes_of}
use Rattle.reader_ways.specs.Ways.{striped}
use Rattle.reader_zones.specs.Zones.{contains_by}
use Rattle.reader_same.specs.Same.{Built}
use Rattle.tzb.specs.Opening.{open_of}
use Rattle.tzb.specs.FullCheck.{full_check_of}
use Rattle.demands.specs.Words.{Position, InZone}

-- the need is told; the numbers are as many; 46 is given exactly when the room is below the need, and no other refusal
pub record Builds (o : Opened) (file : List ℕ) : Type 0 where
  pub needed : ℕ
  pub numbers : List ℕ
  pub many : length numbers ≡ needed
  pub told : stripes_need o file ≡ ok needed
  pub builds : (room : ℕ) → stripes_of o file room ≡ need 46 (leb needed room) (ok numbers)

-- asked by the stripes that these numbers say, the reader answers, with no refusal; and "in this zone" exactly when exact geometry does
pub record ExactlyStriped (o : Opened) (file lent : List ℕ) (zone : ℕ) (q : I32Point) : Type 0 where
  pub says : Bool
  pub answers : contains_by (striped lent) o file zone q ≡ ok says
  pub exactly : (says ≡ true) ↔ InZone q (zone_at (directories o file) zone)

pub record Demand3Striped (file : List ℕ) : Type 0 where
  -- of a file that opens the need is refused by nothing but 49
  pub needs : (o : Opened) → ok o ≡ open_of file → (k : Refusal) → refused k ≡ stripes_need o file → k ≡ refusal 49
  pub builds : full_check_of file ≡ accepted → (o : Opened) → ok o ≡ open_of file → Builds o file
  pub contains : full_check_of file ≡ accepted → (o : Opened) → ok o ≡ open_of file → (lent : List ℕ) → Built o file lent
      → (zone : ℕ) → zone < o.zones.count → (p : Position) → ExactlyStriped o file lent zone p.at
