-- "An accepted file is never refused by any question with a valid zone or chunk number (except 46)": each question of the reader. 46, for lent room, is given only where the room is short.
-- A place of the candidate list is valid where a cell lists it: opening looks at no other.
-- Assumes nothing.
use Rattle.std.specs.Prelude.{ℕ, ◌+◌, ◌*◌, ◌≤◌, ◌<◌, ◌≡◌, List, ℤ, Float, length}
use Rattle.plane.specs.declared.Point.{Point}
use Rattle.plane.specs.declared.I32Point.{I32Point}
use Rattle.answer.specs.Answers.{ok, Given}
use Rattle.opened.specs.declared.Opened.{Opened}
use Rattle.reader_named.specs.Asked.{name_at}
use Rattle.reader_cells.specs.Asked.{candidates_of, candidate_at}
use Rattle.reader_records.specs.declared.ChunkRecord.{ChunkRecord}
use Rattle.reader_records.specs.Records.{poly_at, ring_at, op_at, group_at, chunk_at, tz_at}
use Rattle.reader_chunks.specs.Chunks.{first_at, chunk_points, decode_in}
use Rattle.reader_ways.specs.Ways.{plain}
use Rattle.reader_zones.specs.Zones.{zone_of, contains_at}
use Rattle.reader_lookup.specs.Asking.{lookup_of}
use Rattle.replies.specs.Replies.{listed}
use Rattle.reader_listing.specs.All.{hits_of, list_of}

pub record NeverRefused (file : List ℕ) (o : Opened) : Type 0 where
  -- records
  pub zone : (i : ℕ) → i < o.zones.count → Given (tz_at o file i)
  pub polygon : (i : ℕ) → i < o.polys.count → Given (poly_at o file i)
  pub ring : (i : ℕ) → i < o.rings.count → Given (ring_at o file i)
  pub op : (i : ℕ) → i < o.ops.count → Given (op_at o file i)
  pub group : (i : ℕ) → i < o.groups.count → Given (group_at o file i)
  pub chunk : (i : ℕ) → i < o.chunks.count → Given (chunk_at o file i)
  -- names
  pub name : (i : ℕ) → i < o.zones.count → Given (name_at o file i)
  -- candidates: of all floats, and each that is listed
  pub candidates : (lng lat : Float) → Given (candidates_of o file lng lat)
  pub candidate : (lng lat : Float) (n place : ℕ) → ok (listed n place) ≡ candidates_of o file lng lat → (j : ℕ) → j < n → Given (candidate_at o file (place + j))
  -- a chunk's first point, its points, and its points into lent room
  pub first : (i : ℕ) → i < o.chunks.count → Given (first_at o file i)
  pub points : (i : ℕ) → i < o.chunks.count → Given (chunk_points o file i)
  pub decoding : (i : ℕ) → i < o.chunks.count → (v : ChunkRecord) → ok v ≡ chunk_at o file i → (out : List ℤ) → 2 * v.count ≤ length out → Given (decode_in o file i out)
  -- containment: at all floats, and at all whole numbers
  pub walk : (i : ℕ) → i < o.zones.count → (p : Point) → Given (zone_of o file p i)
  pub contains : (i : ℕ) → i < o.zones.count → (q : I32Point) → Given (contains_at o file i q)
  -- lookup at all floats; all zones there, and into lent room
  pub lookup : (lng lat : Float) → Given (lookup_of o file lng lat)
  pub zones : (lng lat : Float) → Given (hits_of plain o file lng lat)
  pub into : (lng lat : Float) (l : List ℕ) → ok l ≡ hits_of plain o file lng lat → (places : ℕ) → length l ≤ places → Given (list_of o file lng lat places)
