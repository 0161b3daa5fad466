-- `Place::varint` meets its contract: the digits, then zigzag; a refusal has the number's place.
-- Assumes nothing.
use Rattle.std.proofs.lemmas.Result.{err_from_is_err_and}
use Rattle.tzb_core.proofs.NextRead.{number_no}
use Rattle.tzb_core.proofs.varint.Place.varint.Goals as goal

pub returns-in_err-n : goal.returns-in_err-n
returns-in_err-n c =
    let p = err_from_is_err_and c.from_residual.result c.from_residual.ensures.1 in
    rw (p.1, p.2) (number_no _ c.args.self _ (rw c.self.view_is at c.varint_digits.ensures) _ c.in_err-n.ensures)
