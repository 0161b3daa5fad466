-- At most two right answers a turn.
use Rattle.std.proofs.Common.{◌*◌, ◌≤◌}
use Rattle.run_utf8.proofs.twenty.Given as goal

abbrev pub invariant-loop-k : goal.invariant-loop-k
invariant-loop-k l = l.right ≤ 2 * l.k
