-- `chunk::trace_from` meets its contract: with what is known of the points behind, what is left tells as the whole does.
-- Assumes nothing.
use Rattle.std.proofs.Common.{Bool, ◌&&◌, ap, ap₂}
use Rattle.std.proofs.lemmas.Result.{err_from_is_err_and}
use Rattle.chunks.specs.Trace.{also}
use Rattle.chunks.proofs.TraceLaws.{also_no, also_end, also_on}
use Rattle.tzb_core.proofs.NextRead.{turn_start, turn_no, turn_to, turn_over, turn_end}
use Rattle.tzb_core.proofs.chunk.trace_from.Goals as goal

pub loop-init : goal.loop-init
loop-init c = ap₂ also c.in_box-inside.ensures (turn_start _ _ _ _ _)

pub returns-in_err-t : goal.returns-in_err-t
returns-in_err-t c =
    let p = err_from_is_err_and c.from_residual.result c.from_residual.ensures.1 in
    rw (p.1, p.2) (also_no _ _ _ c.loop.invariant _ (turn_no _ _ _ _ _ _ c.loop-test.true _ c.in_err-t.ensures))

pub loop-preserved : goal.loop-preserved
loop-preserved c =
    also_on _ _ _ c.loop.invariant _ _ _ (ap (λ (u : Bool). c.loop.inside && u) c.in_box-inside-in-loop.ensures)
    (turn_to _ _ _ _ _ _ c.loop-test.true _ _ c.in_ok-t.ensures)

pub returns-in_err-check_end : goal.returns-in_err-check_end
returns-in_err-check_end c =
    let p = err_from_is_err_and c.from_residual-in_err-check_end.result c.from_residual-in_err-check_end.ensures.1 in
    rw (p.1, p.2) (also_no _ _ _ c.loop.invariant _ (turn_over _ _ _ _ _ _ c.loop-test.false _ c.in_err-check_end.ensures))

pub returns : goal.returns
returns c = also_end _ _ _ c.loop.invariant _ (turn_end _ _ _ _ _ _ c.loop-test.false c.in_ok-check_end.ensures)
