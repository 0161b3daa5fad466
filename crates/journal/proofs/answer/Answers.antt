-- `answer` meets its contract, turn by turn.
-- Assumes nothing.
use Rattle.std.proofs.lemmas.Result.{err_from_is_err_and}
use Rattle.journal.proofs.RunLaws.{at_first, goes_on, ends, stops, all}
use Rattle.journal.proofs.answer.Goals as goal

pub loop-turn-init : goal.loop-turn-init
loop-turn-init g c = at_first c.open-opening.result c.args.file.now _ _

pub loop-turn-preserved : goal.loop-turn-preserved
loop-turn-preserved g c =
    goes_on c.open-opening.result c.args.file.now _ _ _ _ _ _ c.loop-turn._turn c.loop-turn.invariant _ c.if-not-branch.false c.in_ok-turn.ensures

pub returns-then-not-branch : goal.returns-then-not-branch
returns-then-not-branch g c =
    let run = ends c.open-opening.result c.args.file.now _ _ _ _ _ _ c.loop-turn._turn c.loop-turn.invariant _ c.if-not-branch.true c.in_ok-turn.ensures in
    rw (← c.open-opening.ensures) (record { ends = run; all = all c.open-opening.result c.args.file.now _ _ _ _ run })

pub returns-in_err-turn-clause-ends : goal.returns-in_err-turn-clause-ends
returns-in_err-turn-clause-ends g c =
    let p = err_from_is_err_and c.from_residual.result c.from_residual.ensures.1 in
    rw (p.1, p.2, ← c.open-opening.ensures)
    (stops c.open-opening.result c.args.file.now _ _ _ _ _ _ c.loop-turn._turn c.loop-turn.invariant _ c.in_err-turn.ensures)
