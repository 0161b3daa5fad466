-- Document 01, "Asking": a zone as `timezone_contains` walks it: the first of its polygons that contains the point. A polygon: its first ring does, with its edge, and no other does, without. For any opened record, any bytes and either way through a group's chunks.
-- Assumes nothing.
use Rattle.std.specs.Prelude.{ℕ, zero, suc, ◌+◌, ◌-◌, Bool, true, false, cond, List, ltb}
use Rattle.plane.specs.declared.Point.{Point}
use Rattle.plane.specs.declared.I32Point.{I32Point}
use Rattle.plane.specs.Domain.{in_domain}
use Rattle.answer.specs.Answers.{Answer, ok, ◌then◌, need}
use Rattle.boxes.specs.Box.{contains}
use Rattle.opened.specs.declared.Opened.{Opened}
use Rattle.reader_records.specs.declared.ListRecord.{ListRecord}
use Rattle.reader_records.specs.Records.{poly_at, tz_at}
use Rattle.reader_rings.specs.Rings.{ring_contains}
use Rattle.reader_ways.specs.Ways.{Way, plain}
use Rattle.plane.specs.Places.{point_of}

-- the first of n answers from i on that is the sought one: then `found`, else `other`
unfoldable pub first_so : (ℕ → Answer Bool) → Bool → Bool → ℕ → ℕ → Answer Bool
first_so f found other zero i = ok other
first_so f found other (suc n) i = f i then λ b. cond b (ok found) (first_so f found other n (i + 1))

-- none of n holes from ring i on contains the point
abbrev pub holes_out : Way → Opened → List ℕ → Point → ℕ → ℕ → Answer Bool
holes_out w o s p n i = first_so (ring_contains w o s p false) false true n i

-- a polygon, where the point lies in its box
abbrev pub poly_inside : Way → Opened → List ℕ → Point → ListRecord → Answer Bool
poly_inside w o s p q = ring_contains w o s p true q.first then λ b. cond b (holes_out w o s p (q.count - 1) (q.first + 1)) (ok false)

unfoldable pub poly_of : Way → Opened → List ℕ → Point → ℕ → Answer Bool
poly_of w o s p i = poly_at o s i then λ q. cond (contains q.bbox p) (poly_inside w o s p q) (ok false)

unfoldable pub zone_by : Way → Opened → List ℕ → Point → ℕ → Answer Bool
zone_by w o s p i = tz_at o s i then λ z. cond (contains z.bbox p) (first_so (poly_of w o s p) true false z.count z.first) (ok false)

-- by the plain walk
abbrev pub zone_of : Opened → List ℕ → Point → ℕ → Answer Bool
zone_of o s p i = zone_by plain o s p i

-- Added for scanners: containment in one zone at a whole-number point, by the same walk with both numbers made floats. A zone number too large is 45, first of all; then a point outside the domain is no.
unfoldable pub contains_by : Way → Opened → List ℕ → ℕ → I32Point → Answer Bool
contains_by w o s zone q = need 45 (ltb zone o.zones.count) (cond (in_domain q) (zone_by w o s (point_of q) zone) (ok false))

-- by the plain walk
abbrev pub contains_at : Opened → List ℕ → ℕ → I32Point → Answer Bool
contains_at o s zone q = contains_by plain o s zone q
