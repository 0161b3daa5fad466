use mathlib.Core.Path.{◌≡◌}
use Prim.Native.Nat.{◌-◌, ◌/◌, ◌^◌}
use Rattle.answer.specs.Over.{over}
use Rattle.geojson.specs.Decimals.{places}
use Rattle.lettering.proofs.places.Given as goal

abbrev pub invariant-loop-k : goal.invariant-loop-k
invariant-loop-k g l = l.out ≡ over l.initial.out l.at (places l.k (l.n / 10 ^ (l.k-end - l.k)))
