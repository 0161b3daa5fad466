-- LOOKUPS on a file that the full check accepts, at a position that is scaled to whole numbers.
-- Where the coordinates, times 100,000 and rounded once, are the floats of whole numbers q, `lookup` answers the first candidate that contains q by exact geometry, or none, unless the shortcut applies; `lookup_into` lists all candidates that do, by their names, and gives 46 exactly when they are more than the places. `LookupsExact`, below, says so; `lookups_exact`, in proofs/Lookups, proves it.
-- What does not hold:
--   The scaling rounds. The float nearest to 7 hundred-thousandths of a degree is scaled to less than 7 (`seven`, in proofs/Lookups), so no question in degrees that is nearest to that point asks for it. The theorem speaks of the scaled point alone.
--   -0.0 is scaled to -0.0, which is the float of no whole number.
--   The shortcut looks at nothing: its answer is the cell's one candidate (`lookup_short`), whether that contains the point or not.
--   Candidates are what GRID lists. That a zone stands in every cell that it touches, no rule of the full check asks.
-- Assumes nothing.
use Rattle.std.specs.Prelude.{ℕ, ◌≡◌, Bool, false, cond, List, [], ◌∷◌, Float, length}
use Rattle.plane.specs.declared.I32Point.{I32Point}
use Rattle.plane.specs.Segment.{seg}
use Rattle.plane.specs.Runs.{run}
use Rattle.answer.specs.Answers.{ok, need, value_or}
use Rattle.answer.specs.Checks.{at_most}
use Rattle.shapes.specs.Shapes.{zone_in}
use Rattle.opened.specs.declared.Opened.{Opened}
use Rattle.reader_named.specs.Asked.{name_or}
use Rattle.reader_cells.specs.Asked.{candidate_at}
use Rattle.reader_order.specs.Order.{ordered}
use Rattle.reader_lookup.specs.Asking.{unlooked, lookup_of}
use Rattle.directories.specs.Directories.{directories}
use Rattle.replies.specs.Replies.{Chosen, none, all, listed, Sought, nowhere, in_zone}
use Rattle.reader_listing.specs.All.{list_of}
use Rattle.shapes.specs.Layout.{zone_at}

-- the zone contains the point exactly
abbrev pub exactly_in : Opened → List ℕ → I32Point → ℕ → Bool
exactly_in o s q zone = zone_in (seg q) (zone_at (directories o s) zone)

-- ---- the candidates
-- the zone that stands at a place of the candidate list; of an accepted file there is one at each place that a cell lists
unfoldable pub zone_listed : Opened → List ℕ → ℕ → ℕ
zone_listed o s place = value_or 0 (candidate_at o s place)

-- in their order
unfoldable pub candidate_zones : Opened → List ℕ → Chosen → List ℕ
candidate_zones o s none = []
candidate_zones o s (all n) = run (λ zone. zone) n 0
candidate_zones o s (listed n place) = run (zone_listed o s) n place

-- the first that passes, or none
unfoldable pub first_that : (ℕ → Bool) → List ℕ → Sought
first_that P [] = nowhere
first_that P (zone ∷ l) = cond (P zone) (in_zone zone) (first_that P l)

-- those that pass
unfoldable pub all_that : (ℕ → Bool) → List ℕ → List ℕ
all_that P [] = []
all_that P (zone ∷ l) = cond (P zone) (zone ∷ all_that P l) (all_that P l)

-- the shortcut applies: only to a candidate that GRID lists alone
unfoldable pub shortcut : Opened → Float → Float → Chosen → Bool
shortcut o lng lat none = false
shortcut o lng lat (all n) = false
shortcut o lng lat (listed n place) = unlooked o n lng lat

-- ---- the statement: c are the candidates of the position, q the point that it is scaled to
abbrev pub exact_zones : Opened → List ℕ → Chosen → I32Point → List ℕ
exact_zones o file c q = all_that (exactly_in o file q) (candidate_zones o file c)

pub record LookupsExact (file : List ℕ) (o : Opened) (lng lat : Float) (c : Chosen) (q : I32Point) : Type 0 where
  -- the first candidate that exactly contains the point, or none
  pub lookup : shortcut o lng lat c ≡ false → lookup_of o file lng lat ≡ ok (first_that (exactly_in o file q) (candidate_zones o file c))
  -- exactly the candidates that do, in the order of their names; 46 exactly when they are more than the places
  pub lookup_into : (places : ℕ) → list_of o file lng lat places ≡ need 46 (at_most (length (exact_zones o file c q)) places) (ok (ordered (name_or o file) (exact_zones o file c q)))
