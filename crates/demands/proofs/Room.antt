-- Of an accepted file every ring of the directory has room in it, and so four positions or more: a ring of it that cannot be drawn (48) has over 10,000 positions or no area.
-- Assumes nothing.
use Prim.Native.Nat.{ℕ, ◌≤◌, ◌<◌}
use mathlib.Core.Path.{◌≡◌}
use mathlib.Core.Bool.{true, not, ◌&&◌}
use mathlib.Core.List.{List}
use lib.ListN.{length}
use lib.Dec.{leb}
use borrow.Author.Tests.{le-leb}
use Rattle.basics.specs.Whole.{is_zero}
use Rattle.shapes.specs.Layout.{ring_at}
use Rattle.shapes.specs.Words.{has_room}
use Rattle.shapes.specs.Outline.{ring_positions, doubled_area, drawable}
use Rattle.shapes.proofs.Room.{four_positions}
use Rattle.opened.specs.declared.Opened.{Opened}
use Rattle.directories.specs.Directories.{directories}
use Rattle.reader_check.proofs.Facts.{ring_room}
use Rattle.demands.specs.Accepted.{Accepted}

module _ (file : List ℕ) (o : Opened) (a : Accepted file o) (i : ℕ) (h : i < o.rings.count) where
  pub accepted_room : has_room (ring_at (directories o file) i) ≡ true
  accepted_room = ring_room o file a.f2_room i h

  pub accepted_positions : 4 ≤ length (ring_positions (ring_at (directories o file) i))
  accepted_positions = four_positions (ring_at (directories o file) i) accepted_room

  pub accepted_drawable : drawable (ring_positions (ring_at (directories o file) i))
      ≡ leb (length (ring_positions (ring_at (directories o file) i))) 10_000 && not (is_zero (doubled_area (ring_positions (ring_at (directories o file) i))))
  unfolding drawable
  accepted_drawable = rw (le-leb 4 (length (ring_positions (ring_at (directories o file) i))) accepted_positions)
