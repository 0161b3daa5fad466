use Prim.Native.Nat.{◌+◌, ◌-◌, ◌<◌, ◌≤◌}
use lib.ListN.{length}
use mathlib.Core.Path.{◌≡◌}
use Rattle.answer.specs.Walks.{add}
use Rattle.reader_ways.specs.Ways.{numbered_from}
use Rattle.reader_ways.proofs.numbered_from.Given as goal

-- and every number that was read is one of the numbers
abbrev pub invariant-loop-i : goal.invariant-loop-i
invariant-loop-i l =
    (add l.odd (numbered_from l.o l.s l.p l.g l.numbers (l.count - l.i) (l.first + l.i)) ≡ numbered_from l.o l.s l.p l.g l.numbers l.count l.first)
    × (0 < l.i → l.first + l.i ≤ length l.numbers)
