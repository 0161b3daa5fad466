-- Document 01, "Asking": all zones that a position lies in, in the order of their names. For any opened record, any bytes and either way through a group's chunks.
-- Assumes nothing.
use Rattle.std.specs.Prelude.{ℕ, zero, suc, ◌+◌, true, false, List, [], ◌∷◌, Float, length}
use Rattle.plane.specs.declared.Point.{Point}
use Rattle.answer.specs.Answers.{Answer, ok, need, ◌then◌, ◌before◌, Check, fine, outcome}
use Rattle.answer.specs.Checks.{and_then, at_most}
use Rattle.opened.specs.declared.Opened.{Opened}
use Rattle.reader_named.specs.Asked.{name_at, name_or}
use Rattle.reader_order.specs.Order.{ordered}
use Rattle.reader_cells.specs.Asked.{candidates_of}
use Rattle.replies.specs.Replies.{Chosen, none, all, listed, Sought, nowhere, in_zone}
use Rattle.reader_ways.specs.Ways.{Way, plain}
use Rattle.reader_lookup.specs.Asking.{scaled, hit_at}

-- `lookup_into` tests every candidate, never the shortcut: those of n candidates from place i on that contain the point, in this order
abbrev pub also : Sought → List ℕ → List ℕ
also nowhere l = l
also (in_zone zone) l = zone ∷ l

unfoldable pub all_hits : (ℕ → Answer Sought) → ℕ → ℕ → Answer (List ℕ)
all_hits hit zero i = ok []
all_hits hit (suc n) i = hit i then λ z. all_hits hit n (i + 1) then λ l. ok (also z l)

unfoldable pub hits_among : Way → Opened → List ℕ → Point → Chosen → Answer (List ℕ)
hits_among w o s p none = ok []
hits_among w o s p (all n) = all_hits (hit_at w o s p false) n 0
hits_among w o s p (listed n place) = all_hits (hit_at w o s p true) n place

unfoldable pub hits_of : Way → Opened → List ℕ → Float → Float → Answer (List ℕ)
hits_of w o s lng lat = candidates_of o s lng lat then hits_among w o s (scaled lng lat)

-- Listed zones' names, one alone too, are read in candidate order after all tests.
unfoldable pub names_read : Opened → List ℕ → List ℕ → Check
names_read o s [] = fine
names_read o s (zone ∷ l) = and_then (outcome (name_at o s zone)) (names_read o s l)

-- 46 exactly when there are more zones than places; listed by name bytes, equal names in candidate order
unfoldable pub placed : Opened → List ℕ → ℕ → List ℕ → Answer (List ℕ)
placed o s places l = need 46 (at_most (length l) places) (ok (ordered (name_or o s) l))

-- Any other refusal comes before 46.
unfoldable pub list_for : Opened → List ℕ → ℕ → List ℕ → Answer (List ℕ)
list_for o s places l = names_read o s l before placed o s places l

unfoldable pub list_by : Way → Opened → List ℕ → Float → Float → ℕ → Answer (List ℕ)
list_by w o s lng lat places = hits_of w o s lng lat then list_for o s places

-- by the plain walk
abbrev pub list_of : Opened → List ℕ → Float → Float → ℕ → Answer (List ℕ)
list_of o s lng lat places = list_by plain o s lng lat places
