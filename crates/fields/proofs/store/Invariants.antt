use Prim.Native.Nat.{◌+◌, ◌-◌}
use mathlib.Core.Path.{◌≡◌}
use Rattle.fields.proofs.StoresLaws.{digits}
use Rattle.fields.proofs.store.Given as goal

abbrev pub invariant-loop-i : goal.invariant-loop-i
invariant-loop-i l = digits l.out (l.at + l.i) (l.width - l.i) l.rest ≡ digits l.initial.out l.at l.width l.number
