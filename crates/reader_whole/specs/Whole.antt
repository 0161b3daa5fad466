-- Document 02, 2026-04: the whole-number list. "The whole-number list tests every zone in turn, without GRID." "Zones stand in `lookup_into` order." For any opened record and any bytes.
-- Assumes nothing.
use Rattle.std.specs.Prelude.{ℕ, cond, List}
use Rattle.plane.specs.declared.I32Point.{I32Point}
use Rattle.answer.specs.Answers.{Answer, ok, ◌then◌}
use Rattle.opened.specs.declared.Opened.{Opened}
use Rattle.reader_zones.specs.Zones.{contains_at}
use Rattle.replies.specs.Replies.{Sought, nowhere, in_zone}
use Rattle.reader_listing.specs.All.{all_hits, list_for}

-- a zone, where it contains the point: each is asked as `contains` asks it
unfoldable pub whole_hit : Opened → List ℕ → I32Point → ℕ → Answer Sought
whole_hit o s q zone = contains_at o s zone q then λ b. ok (cond b (in_zone zone) nowhere)

-- every zone in turn
unfoldable pub whole_hits : Opened → List ℕ → I32Point → Answer (List ℕ)
whole_hits o s q = all_hits (whole_hit o s q) o.zones.count 0

-- then names, places and order as `lookup_into` has them: 46 exactly when there are more zones than places, any other refusal before it
unfoldable pub whole_list : Opened → List ℕ → I32Point → ℕ → Answer (List ℕ)
whole_list o s q places = whole_hits o s q then list_for o s places
