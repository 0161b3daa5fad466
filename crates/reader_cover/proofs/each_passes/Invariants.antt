use Prim.Native.Nat.{◌-◌}
use mathlib.Core.Path.{◌≡◌}
use Rattle.reader_cover.specs.All.{all}
use Rattle.reader_cover.proofs.each_passes.Given as goal

abbrev pub invariant-loop-j : goal.invariant-loop-j
invariant-loop-j g l = all g.test (l.to - l.j) l.j ≡ all g.test l.count l.first
