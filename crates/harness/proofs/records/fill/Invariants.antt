-- What was filled so far is what the reader gave, and each turn leaves less to fill.
use Rattle.std.proofs.Common.{◌-◌, ◌≤◌, length, take}
use Rattle.std.specs.Io.KnownBytes.{Consumes}
use Rattle.harness.proofs.records.fill.Given as goal

abbrev pub invariant-loop-n : goal.invariant-loop-n
invariant-loop-n g l = (l.n ≤ length l.s) × Consumes (g.R.Read.remaining l.initial.input) (g.R.Read.remaining l.input) (take l.n l.s)

abbrev pub decreases-loop-n : goal.decreases-loop-n
decreases-loop-n g l = length l.s - l.n
