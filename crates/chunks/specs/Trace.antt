-- Document 01, "What the full check demands", of one chunk's points: that they decode (F3), whether a box covers them all (F4), and which is the last (F5).
-- Assumes nothing.
use Rattle.std.specs.Prelude.{ℕ, Bool, true, ◌&&◌, List}
use Rattle.answer.specs.Answers.{Answer, ok, refused, ◌then◌}
use Rattle.plane.specs.declared.I32Point.{I32Point}
use Rattle.plane.specs.Lines.{every, last_of}
use Rattle.boxes.specs.declared.BBox.{BBox}
use Rattle.boxes.specs.Box.{in_box}
use Rattle.chunks.specs.Along.{Walker, walk_of}

-- a trace tells whether all is inside, and the last point; here with something before it that is inside or not
unfoldable pub also : Bool → Answer (Bool × I32Point) → Answer (Bool × I32Point)
also inside x = x then λ t. ok (inside && t.0, t.1)

-- who traces: every point is looked for in the box
abbrev pub tracer : BBox → Walker (Answer (Bool × I32Point))
tracer b = record { stop = refused; last = λ q. ok (true, q); point = λ q x. also (in_box b q) x; segment = λ q t x. x }

-- a chunk of n points
unfoldable pub trace_of : List ℕ → ℕ → BBox → Answer (Bool × I32Point)
trace_of s n b = walk_of (tracer b) s n

-- the same of points that are known: `trace_points`, in proofs/Neighbours
unfoldable pub traced : BBox → Answer (List I32Point) → Answer (Bool × I32Point)
traced b x = x then λ l. ok (every (in_box b) l, last_of l)
