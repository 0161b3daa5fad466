-- Document 01, "Asking": a chunk's segments are tested in stored order as points are read, an on-edge hit ends the walk, leftover bytes are tested last. A chunk scanned whole with count 0 is 32.
-- Assumes nothing.
use Rattle.std.specs.Prelude.{ℕ, List}
use Rattle.answer.specs.Walks.{Walk, broken, on, off, ◌go◌, done}
use Rattle.plane.specs.declared.Point.{Point}
use Rattle.plane.specs.declared.I32Point.{I32Point}
use Rattle.plane.specs.Sight.{Sight, On, Off}
use Rattle.rays.specs.Ray.{ray_of}
use Rattle.chunks.specs.Along.{Walker, walk_of}

-- what is seen of a segment, as a walk that hands on a
abbrev pub past : {A : Type 0} → Sight → A → Walk A
past On a = on
past (Off b) a = off b a

-- who scans: of each segment counts what is seen of it, and an on-edge hit ends the walk
abbrev pub scanner : Point → Walker (Walk I32Point)
scanner p = record {
  stop = broken;
  last = done;
  point = λ q w. w;
  segment = λ q t w. past (ray_of q t p) t go λ u. w;
}

-- a chunk of n points
unfoldable pub scan_of : List ℕ → ℕ → Point → Walk I32Point
scan_of s n p = walk_of (scanner p) s n
