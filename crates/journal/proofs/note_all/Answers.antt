-- `note_all` meets its contract: the entries of the first i positions stand, one behind another.
-- Assumes nothing.
use Rattle.std.proofs.Common.{arith}
use Rattle.journal.proofs.AnsweredLaws.{none, next}
use Rattle.journal.proofs.note_all.Goals as goal

pub loop-i-init : goal.loop-i-init
loop-i-init c = none c.args.opening c.args.file.now c.args.input.now c.args.out.now

pub loop-i-preserved : goal.loop-i-preserved
loop-i-preserved c =
    next c.args.opening c.args.file.now c.args.input.now c.args.out.now c.loop-i.i c.loop-i.out c.loop-i.invariant
    (omega (arith, c.loop-i-test.true, c.loop-i.invariant.long, c.requires)) _ c.note_one.ensures
