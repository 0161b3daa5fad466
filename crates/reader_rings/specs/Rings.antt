-- Document 01, "Asking": a ring as `ring_contains` walks it: its groups in the order of its ops, turned round or not, and the segments that join them. For any opened record, any bytes and either way through a group's chunks.
-- Assumes nothing.
use Rattle.std.specs.Prelude.{ℕ, zero, suc, ◌+◌, ◌-◌, Bool, false, cond, List}
use Rattle.plane.specs.declared.Point.{Point}
use Rattle.plane.specs.declared.I32Point.{I32Point}
use Rattle.answer.specs.Answers.{Answer, ok, ◌then◌}
use Rattle.answer.specs.Walks.{Walk, off, ◌go◌, ◌yields◌, done, must, verdict}
use Rattle.boxes.specs.Box.{contains, relevant, right}
use Rattle.rays.specs.Ray.{ray_of, parity_of}
use Rattle.chunks.specs.Scan.{past}
use Rattle.opened.specs.declared.Opened.{Opened}
use Rattle.reader_records.specs.declared.GroupRecord.{GroupRecord}
use Rattle.reader_records.specs.declared.RingRecord.{RingRecord}
use Rattle.reader_records.specs.Records.{group_index, turns_round, op_at, group_at, ring_at, count_rule}
use Rattle.reader_groups.specs.Groups.{One}
use Rattle.reader_ways.specs.Ways.{Way, group_scan_by}
use Rattle.reader_rings.specs.declared.Turned.{Turned}
use Rattle.reader_rings.specs.declared.Round.{Round}
use Rattle.plane.specs.Segment.{same_point}

-- ---- the ops
-- a group with its index, and its ends as the op has them
unfoldable pub turn_of : ℕ → GroupRecord → Turned
turn_of w g =
    cond (turns_round w)
    (record { entry = g.exit; exit = g.entry; index = group_index w; group = g })
    (record { entry = g.entry; exit = g.exit; index = group_index w; group = g })

-- the group of op i
unfoldable pub turned_at : Opened → List ℕ → ℕ → Answer Turned
turned_at o s i = op_at o s i then λ w. group_at o s (group_index w) then λ g. ok (turn_of w g)

-- ---- the walk
-- the segment that joins two ends, where they differ
unfoldable pub joint_of : Point → I32Point → I32Point → Walk One
joint_of p a b = cond (same_point a b) (done tt) (past (ray_of a b p) tt)

-- group i: nothing, by its ends alone, or through its chunks
unfoldable pub group_walk : Way → Opened → List ℕ → Point → ℕ → GroupRecord → Walk One
group_walk w o s p i g =
    cond (relevant g.bbox p)
    (cond (right g.bbox p) (off (parity_of p g.entry g.exit) tt) (group_scan_by w o s p i g))
    (done tt)

module _ (w : Way) (o : Opened) (s : List ℕ) (p : Point) where
  -- from the exit a of the group before
  unfoldable pub turn_walk : I32Point → Turned → Walk One
  turn_walk a t = joint_of p a t.entry go λ u. group_walk w o s p t.index t.group

  -- op i, after z
  unfoldable pub op_step : ℕ → Round → Walk Round
  op_step i z = turned_at o s i yields λ t. turn_walk z.exit t go λ u. done (record { exit = t.exit; sum = z.sum + t.group.points })

  -- n ops from op i on
  unfoldable pub ops_from : ℕ → ℕ → Round → Walk Round
  ops_from zero i z = done z
  ops_from (suc n) i z = op_step i z go λ y. ops_from n (i + 1) y

-- after the last group: its groups' point counts, less their number, must add to its own (36); then the segment back to the start
unfoldable pub ring_end : Point → RingRecord → I32Point → Round → Walk One
ring_end p r start z = must 36 (count_rule r z.sum) (joint_of p z.exit start)

unfoldable pub ring_rest : Way → Opened → List ℕ → Point → RingRecord → Turned → Walk One
ring_rest w o s p r t =
    ops_from w o s p (r.count - 1) (r.first + 1) (record { exit = t.exit; sum = t.group.points }) go λ z.
    ring_end p r t.entry z

unfoldable pub ring_of : Way → Opened → List ℕ → Point → RingRecord → Walk One
ring_of w o s p r = turned_at o s r.first yields λ t. group_walk w o s p t.index t.group go λ u. ring_rest w o s p r t

-- ring i; a point on an edge gets `edge`
unfoldable pub ring_contains : Way → Opened → List ℕ → Point → Bool → ℕ → Answer Bool
ring_contains w o s p edge i = ring_at o s i then λ r. cond (contains r.bbox p) (verdict edge (ring_of w o s p r)) (ok false)
