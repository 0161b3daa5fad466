use mathlib.Core.Path.{◌≡◌}
use lib.ListN.{length}
use Rattle.entries.specs.Forms.{all_different}
use Rattle.entry_bytes.proofs.all_different.Given as goal

abbrev pub invariant-loop-zone : goal.invariant-loop-zone
invariant-loop-zone l = all_different l.rest ≡ all_different l.zones

abbrev pub decreases-loop-zone : goal.decreases-loop-zone
decreases-loop-zone l = length l.rest
