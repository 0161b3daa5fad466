use Prim.Native.Nat.{◌*◌}
use mathlib.Core.Path.{◌≡◌}
use lib.ListN.{drop}
use Rattle.texts.specs.Spelled.{comes_before}
use Rattle.texts.proofs.same_front.Given as goal

abbrev pub invariant-loop-k : goal.invariant-loop-k
invariant-loop-k l = comes_before (drop (8 * l.k) l.a) (drop (8 * l.k) l.b) ≡ comes_before l.a l.b
