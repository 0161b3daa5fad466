-- `chunk::count_chunk` meets its contract: the count, the first point and the segment that leads to it, then the rest.
-- Assumes nothing.
use Rattle.std.proofs.Common.{◌∙◌, arith}
use Rattle.std.proofs.lemmas.Result.{err_from_is_err_and}
use Rattle.chunks.proofs.CountLaws.{of_none, of_no, of_enough, of_on}
use Rattle.tzb_core.proofs.NextRead.{some_met, some_unmet}
use Rattle.tzb_core.proofs.chunk.count_chunk.Goals as goal

pub returns-in_err-claim : goal.returns-in_err-claim
returns-in_err-claim c =
    let p = err_from_is_err_and c.from_residual.result c.from_residual.ensures.1 in
    let z = some_unmet 32 _ _ c.in_err-claim.ensures in
    rw (p.1, p.2, z.1) (of_none _ _ _ _ z.0)

pub returns-in_err-q : goal.returns-in_err-q
returns-in_err-q c =
    let p = err_from_is_err_and c.from_residual-in_err-q.result c.from_residual-in_err-q.ensures.1 in
    rw (p.1, p.2) (of_no _ _ _ _ (some_met 32 _ c.in_ok-claim.ensures) _ c.in_err-q.ensures)

pub returns-then-n-ge3 : goal.returns-then-n-ge3
returns-then-n-ge3 c = of_enough _ _ _ _ (some_met 32 _ c.in_ok-claim.ensures) _ _ c.in_ok-q.ensures _ c.with_side-n.ensures c.if-n-ge3.true

pub overflow_sub-count : goal.overflow_sub-count
overflow_sub-count c = let h = some_met 32 _ c.in_ok-claim.ensures in omega (arith, h)

pub returns : goal.returns
returns c = c.count_from.ensures ∙ of_on _ _ _ _ (some_met 32 _ c.in_ok-claim.ensures) _ _ c.in_ok-q.ensures _ c.with_side-n.ensures c.if-n-ge3.false
