use Prim.Native.Nat.{◌-◌}
use Rattle.stripes.specs.Stripes.{stripes_from}
use Rattle.reader_stripes.specs.Steps.{boxes_of}
use Rattle.reader_stripes.proofs.Laying.{Going}
use Rattle.reader_stripes.proofs.put_stripes.Given as goal

abbrev pub invariant-loop-i : goal.invariant-loop-i
invariant-loop-i l = Going l.initial.numbers l.initial.q (stripes_from l.c.striping (boxes_of l.o l.s l.c) l.c.striping.k 0) (stripes_from l.c.striping (boxes_of l.o l.s l.c) (l.c.striping.k - l.i) l.i) l.q l.numbers
