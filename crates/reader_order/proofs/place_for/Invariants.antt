use Prim.Native.Nat.{◌-◌, ◌<◌, ◌≤◌}
use Rattle.reader_named.specs.Asked.{name_or}
use Rattle.reader_order.proofs.Halving.{Halving}
use Rattle.reader_order.proofs.place_for.Given as goal

abbrev pub invariant-loop-low : goal.invariant-loop-low
invariant-loop-low l = Halving (name_or l.o l.s) l.zones l.own l.low l.high × (l.low < l.high → (l.low < l.after) × (l.after ≤ l.high))

abbrev pub decreases-loop-low : goal.decreases-loop-low
decreases-loop-low l = l.high - l.low
