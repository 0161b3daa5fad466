-- Document 01, "Asking": which zone a position lies in. For any opened record, any bytes and either way through a group's chunks.
-- Assumes nothing.
use Rattle.std.specs.Prelude.{ℕ, zero, suc, ◌+◌, ◌/◌, ◌%◌, Bool, true, false, ◌&&◌, cond, List, pos, neg_ℤ, Float}
use Rattle.std.specs.Float.{binary64}
use Rattle.std.specs.Float.Ieee.{of_int, lt, mul}
use Rattle.plane.specs.declared.Point.{Point}
use Rattle.answer.specs.Answers.{Answer, ok, ◌then◌}
use Rattle.answer.specs.Checks.{same}
use Rattle.opened.specs.declared.Opened.{Opened}
use Rattle.reader_cells.specs.Asked.{candidates_of, candidate_at}
use Rattle.reader_zones.specs.Zones.{zone_by}
use Rattle.reader_ways.specs.Ways.{Way, plain}
use Rattle.replies.specs.Replies.{Chosen, none, all, listed, Sought, nowhere, in_zone}

-- ---- the point, and one candidate
-- each coordinate is multiplied by 100,000 (one rounding)
unfoldable pub scaled : Float → Float → Point
scaled lng lat = record { x = mul binary64 lng (of_int binary64 (pos 100_000)); y = mul binary64 lat (of_int binary64 (pos 100_000)) }

-- with GRID the zone at that place of the candidate list; without it all zones are candidates in order
unfoldable pub candidate_of : Opened → List ℕ → Bool → ℕ → Answer ℕ
candidate_of o s grid place = cond grid (candidate_at o s place) (ok place)

-- that candidate, where it contains the point
unfoldable pub hit_at : Way → Opened → List ℕ → Point → Bool → ℕ → Answer Sought
hit_at w o s p grid place = candidate_of o s grid place then λ zone. zone_by w o s p zone then λ b. ok (cond b (in_zone zone) nowhere)

-- ---- lookup
-- the first candidate that contains the point wins: of n candidates from place i on
abbrev pub or_else : Sought → Answer Sought → Answer Sought
or_else nowhere rest = rest
or_else (in_zone zone) rest = ok (in_zone zone)

unfoldable pub first_hit : (ℕ → Answer Sought) → ℕ → ℕ → Answer Sought
first_hit hit zero i = ok nowhere
first_hit hit (suc n) i = hit i then λ z. or_else z (first_hit hit n (i + 1))

-- One candidate is answered unlooked-at only with GRID, flag bit 1 clear, longitude strictly between -179 and 179 and latitude strictly between -89 and 89.
abbrev pub strictly : ℕ → Float → Bool
strictly bound x = lt (of_int binary64 (neg_ℤ (pos bound))) x && lt x (of_int binary64 (pos bound))

unfoldable pub unlooked : Opened → ℕ → Float → Float → Bool
unlooked o n lng lat = same n 1 && (same (o.flags / 2 % 2) 0 && (strictly 179 lng && strictly 89 lat))

-- only GRID lists candidates
unfoldable pub lookup_among : Way → Opened → List ℕ → Float → Float → Chosen → Answer Sought
lookup_among w o s lng lat none = ok nowhere
lookup_among w o s lng lat (all n) = first_hit (hit_at w o s (scaled lng lat) false) n 0
lookup_among w o s lng lat (listed n place) =
    cond (unlooked o n lng lat)
    (candidate_at o s place then λ zone. ok (in_zone zone))
    (first_hit (hit_at w o s (scaled lng lat) true) n place)

unfoldable pub lookup_by : Way → Opened → List ℕ → Float → Float → Answer Sought
lookup_by w o s lng lat = candidates_of o s lng lat then lookup_among w o s lng lat

-- by the plain walk
abbrev pub lookup_of : Opened → List ℕ → Float → Float → Answer Sought
lookup_of o s lng lat = lookup_by plain o s lng lat
