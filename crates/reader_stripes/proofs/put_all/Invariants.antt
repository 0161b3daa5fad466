use Rattle.stripes.specs.Numbers.{all_stripes}
use Rattle.reader_stripes.specs.Steps.{all_read}
use Rattle.reader_stripes.proofs.Laying.{Going}
use Rattle.reader_stripes.proofs.Loops.{groups_left}
use Rattle.reader_stripes.proofs.put_all.Given as goal

abbrev pub invariant-loop-i : goal.invariant-loop-i
invariant-loop-i l = Going l.initial.numbers l.initial.q (all_stripes (all_read l.o l.s)) (all_stripes (groups_left l.o l.s l.i)) l.q l.numbers
