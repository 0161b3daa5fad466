-- `count_in` meets its contract: what is refused before the places are counted, then 46, or how many.
-- Assumes nothing.
use mathlib.Core.Path.{ap}
use Rattle.std.proofs.lemmas.Result.{err_from_is_err_and}
use Rattle.answer.specs.Answers.{how_many}
use Rattle.reader_listing.proofs.Placed.{claim_yes, claim_no, list_no, list_short, list_count}
use Rattle.reader_listing.proofs.count_in.Goals as goal

pub returns-in_err-k : goal.returns-in_err-k
returns-in_err-k c =
    let p = err_from_is_err_and c.from_residual.result c.from_residual.ensures.1 in
    rw (p.1, p.2) (ap how_many (list_no _ _ _ _ _ _ _ c.in_err-k.ensures.result_value))

pub returns-in_err-claim : goal.returns-in_err-claim
returns-in_err-claim c =
    let p = err_from_is_err_and c.from_residual-in_err-claim.result c.from_residual-in_err-claim.ensures.1 in
    let h = claim_no _ _ _ _ c.in_err-claim.ensures in
    rw (p.1, p.2, h.1) (list_short _ _ _ _ _ _ c.in_ok-k.ensures.result_value _ h.0)

pub returns : goal.returns
returns c = list_count _ _ _ _ _ _ c.in_ok-k.ensures.result_value _ (claim_yes _ _ _ c.in_ok-claim.ensures)
