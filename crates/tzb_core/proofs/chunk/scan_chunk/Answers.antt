-- `chunk::scan_chunk` meets its contract: the count, the first point, then the walk from it.
-- Assumes nothing.
use Rattle.std.proofs.Common.{◌∙◌, arith}
use Rattle.std.proofs.lemmas.Result.{err_from_is_err_and}
use Rattle.chunks.proofs.Neighbours.{first_in_law}
use Rattle.chunks.proofs.ScanLaws.{scan_none, scan_no, scan_from}
use Rattle.tzb_core.proofs.NextRead.{some_met, some_unmet}
use Rattle.tzb_core.proofs.chunk.scan_chunk.Goals as goal

pub returns-in_err-claim : goal.returns-in_err-claim
returns-in_err-claim c =
    let p = err_from_is_err_and c.from_residual.result c.from_residual.ensures.1 in
    let z = some_unmet 32 _ _ c.in_err-claim.ensures in
    rw (p.1, p.2, z.1) (scan_none _ _ _ z.0)

pub returns-in_err-q : goal.returns-in_err-q
returns-in_err-q c =
    let p = err_from_is_err_and c.from_residual-in_err-q.result c.from_residual-in_err-q.ensures.1 in
    rw (p.1, p.2) (scan_no _ _ _ (some_met 32 _ c.in_ok-claim.ensures) _ c.in_err-q.ensures)

pub overflow_sub-count : goal.overflow_sub-count
overflow_sub-count c = let h = some_met 32 _ c.in_ok-claim.ensures in omega (arith, h)

pub scan_from-requires : goal.scan_from-requires
scan_from-requires c = first_in_law _ _ c.in_ok-q.ensures

pub returns : goal.returns
returns c = c.scan_from.ensures ∙ scan_from _ _ _ (some_met 32 _ c.in_ok-claim.ensures) _ _ c.in_ok-q.ensures
