-- The entries of the first i positions stand, one behind another.
use Rattle.journal.proofs.AnsweredLaws.{Stand}
use Rattle.journal.proofs.note_all.Given as goal

abbrev pub invariant-loop-i : goal.invariant-loop-i
invariant-loop-i l = Stand l.opening l.file l.input l.initial.out l.i l.out
