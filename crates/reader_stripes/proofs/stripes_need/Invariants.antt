use Rattle.stripes.specs.Numbers.{group_need}
use Rattle.reader_stripes.specs.Building.{boxed_at}
use Rattle.reader_stripes.proofs.Reading.{Adding}
use Rattle.reader_stripes.proofs.stripes_need.Given as goal

abbrev pub invariant-loop-i : goal.invariant-loop-i
invariant-loop-i l = Adding (boxed_at l.o l.s) group_need 0 16_777_733 l.o.groups.count 0 l.sum l.i
