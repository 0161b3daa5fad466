use Prim.Native.Nat.{◌-◌, ◌*◌, ◌≤◌}
use mathlib.Core.Path.{◌≡◌}
use Rattle.reader_cover.specs.Cover.{sum_of_ops}
use Rattle.reader_cover.proofs.Sums.{added}
use Rattle.reader_cover.proofs.sum_of_ops.Given as goal

abbrev pub invariant-loop-j : goal.invariant-loop-j
invariant-loop-j l =
    record {
      few : l.sum ≤ 0xffff_ffff * (l.j - l.first);
      adds : added l.sum (sum_of_ops l.o l.s (l.to - l.j) l.j) ≡ sum_of_ops l.o l.s l.fn.v.count l.fn.v.first;
    }
