-- Questions over the opened record as bytes and the file's bytes. A record that cannot be read is refused first; none is trusted.
-- Assumes nothing.
use Rattle.std.specs.Prelude.{ℕ, Bool, List, [], ◌∷◌, ℤ, Float}
use Rattle.plane.specs.declared.I32Point.{I32Point}
use Rattle.answer.specs.Checks.{at_most}
use Rattle.answer.specs.Answers.{left, Answer, ok, need, ◌then◌}
use Rattle.reader_named.specs.Asked as N
use Rattle.reader_cells.specs.Asked as G
use Rattle.reader_chunks.specs.Chunks.{decode_in}
use Rattle.reader_zones.specs.Zones.{contains_by}
use Rattle.reader_lookup.specs.Asking.{lookup_by}
use Rattle.tzb_record.specs.Layout.{record_of}
use Rattle.replies.specs.Replies.{Chosen, Sought}
use Rattle.reader_listing.specs.All.{list_by}
use Rattle.reader_stripes.specs.Building.{stripes_need, stripes_of}
use Rattle.reader_ways.specs.Ways.{Way, plain}

-- ---- questions
-- how many zones
unfoldable pub zones_asked : List ℕ → Answer ℕ
zones_asked b = record_of b then λ o. ok o.zones.count

-- where a zone's name stands
unfoldable pub name_asked : List ℕ → List ℕ → ℕ → Answer (ℕ × ℕ)
name_asked b s zone = record_of b then λ o. N.bounds_at s o.names.off o.zones.count zone

-- the same into lent numbers, how many there are: 46 where they are fewer than two
unfoldable pub ends_asked : List ℕ → List ℕ → ℕ → ℕ → Answer (ℕ × ℕ)
ends_asked b s zone room = name_asked b s zone then λ e. need 46 (at_most 2 room) (ok e)

-- lent numbers afterwards: where the name starts, where it ends, and what lies behind as it was; all as it was after a refusal
abbrev pub ends_after : List ℕ → Answer (ℕ × ℕ) → List ℕ
ends_after out x = left out (x then λ e. ok (e.0 ∷ e.1 ∷ []))

-- the candidates of a position
unfoldable pub choice_asked : List ℕ → List ℕ → Float → Float → Answer Chosen
choice_asked b s lng lat = record_of b then λ o. G.candidates_of o s lng lat

-- the zone at a place of the candidate list
unfoldable pub candidate_asked : List ℕ → List ℕ → ℕ → Answer ℕ
candidate_asked b s place = record_of b then λ o. G.candidate_at o s place

-- whether a zone contains a point of whole numbers, walked plainly or by stripes
unfoldable pub contains_asked_by : Way → List ℕ → List ℕ → ℕ → I32Point → Answer Bool
contains_asked_by w b s zone q = record_of b then λ o. contains_by w o s zone q

abbrev pub contains_asked : List ℕ → List ℕ → ℕ → I32Point → Answer Bool
contains_asked b s zone q = contains_asked_by plain b s zone q

-- the points of a chunk, into lent numbers
unfoldable pub decode_asked : List ℕ → List ℕ → ℕ → List ℤ → Answer (List I32Point)
decode_asked b s chunk out = record_of b then λ o. decode_in o s chunk out

-- the zone that a position lies in
unfoldable pub lookup_asked_by : Way → List ℕ → List ℕ → Float → Float → Answer Sought
lookup_asked_by w b s lng lat = record_of b then λ o. lookup_by w o s lng lat

abbrev pub lookup_asked : List ℕ → List ℕ → Float → Float → Answer Sought
lookup_asked b s lng lat = lookup_asked_by plain b s lng lat

-- all zones that it lies in, in the order of their names, into that many places
unfoldable pub list_asked_by : Way → List ℕ → List ℕ → Float → Float → ℕ → Answer (List ℕ)
list_asked_by w b s lng lat places = record_of b then λ o. list_by w o s lng lat places

abbrev pub list_asked : List ℕ → List ℕ → Float → Float → ℕ → Answer (List ℕ)
list_asked b s lng lat places = list_asked_by plain b s lng lat places

-- how many numbers the stripes take, and the stripes in that much room
unfoldable pub need_asked : List ℕ → List ℕ → Answer ℕ
need_asked b s = record_of b then λ o. stripes_need o s

unfoldable pub stripes_asked : List ℕ → List ℕ → ℕ → Answer (List ℕ)
stripes_asked b s room = record_of b then λ o. stripes_of o s room
