-- At most sixteen bytes, which fit the array.
use Rattle.std.proofs.Common.{◌≡◌, ◌-◌, ◌≤◌, length}
use Rattle.run_utf8.proofs.line.Given as goal

abbrev pub invariant-loop-n : goal.invariant-loop-n
invariant-loop-n l = (l.n ≤ 16) × (length l.bytes ≡ 40)

abbrev pub decreases-loop-n : goal.decreases-loop-n
decreases-loop-n l = 16 - l.n
