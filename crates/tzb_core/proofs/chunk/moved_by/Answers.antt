-- `chunk::moved_by` meets its contract: the sum in x, then that in y.
-- Assumes nothing.
use Rattle.std.proofs.Common.{w32, rules}
use Rattle.std.proofs.lemmas.Result.{err_from_is_err_and}
use Rattle.basics.specs.Signed.{back}
use Rattle.tzb_core.proofs.NextRead.{moved_y, moved_both}
use Rattle.tzb_core.proofs.chunk.moved_by.Goals as goal

pub returns-in_err-y : goal.returns-in_err-y
returns-in_err-y c =
    let a = c.args in
    let p = err_from_is_err_and c.from_residual-in_err-y.result c.from_residual-in_err-y.ensures.1 in
    rw (p.1, p.2)
    (moved_y a.q a.d _ _ _ _ _ c.add_delta.ensures (back w32 a.q.x (search rules)) (back w32 a.d.x (search rules)) _ c.in_ok-x.ensures
    _ _ _ c.add_delta-2.ensures (back w32 a.q.y (search rules)) (back w32 a.d.y (search rules)) _ c.in_err-y.ensures)

pub returns : goal.returns
returns c =
    let a = c.args in
    moved_both a.q a.d _ _ _ _ _ c.add_delta.ensures (back w32 a.q.x (search rules)) (back w32 a.d.x (search rules)) _ c.in_ok-x.ensures
    _ _ _ c.add_delta-2.ensures (back w32 a.q.y (search rules)) (back w32 a.d.y (search rules)) _ c.in_ok-y.ensures _ (back w32 _ (search rules)) (back w32 _ (search rules))
