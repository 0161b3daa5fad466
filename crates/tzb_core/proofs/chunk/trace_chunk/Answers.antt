-- `chunk::trace_chunk` meets its contract: the count, the first point, then the rest.
-- Assumes nothing.
use Rattle.std.proofs.Common.{◌∙◌, arith}
use Rattle.std.proofs.lemmas.Result.{err_from_is_err_and}
use Rattle.chunks.specs.Trace.{trace_of}
use Rattle.chunks.proofs.AlongLaws.{walk_none, walk_no, walk_from_law}
use Rattle.tzb_core.proofs.NextRead.{some_met, some_unmet}
use Rattle.tzb_core.proofs.chunk.trace_chunk.Goals as goal

pub returns-in_err-claim : goal.returns-in_err-claim
unfolding trace_of
returns-in_err-claim c =
    let p = err_from_is_err_and c.from_residual.result c.from_residual.ensures.1 in
    let z = some_unmet 32 _ _ c.in_err-claim.ensures in
    rw (p.1, p.2, z.1) (walk_none _ _ _ z.0)

pub returns-in_err-q : goal.returns-in_err-q
unfolding trace_of
returns-in_err-q c =
    let p = err_from_is_err_and c.from_residual-in_err-q.result c.from_residual-in_err-q.ensures.1 in
    rw (p.1, p.2) (walk_no _ _ _ (some_met 32 _ c.in_ok-claim.ensures) _ c.in_err-q.ensures)

pub overflow_sub-count : goal.overflow_sub-count
overflow_sub-count c = let h = some_met 32 _ c.in_ok-claim.ensures in omega (arith, h)

pub returns : goal.returns
unfolding trace_of
returns c = c.trace_from.ensures ∙ walk_from_law _ _ _ (some_met 32 _ c.in_ok-claim.ensures) _ _ c.in_ok-q.ensures
