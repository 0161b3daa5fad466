-- `refusal_code` meets its contract: a number of at most three digits, and any other.
-- Assumes nothing.
use Rattle.tzb_codes.proofs.CodesLaws.{code_told}
use Rattle.tzb_codes.proofs.refusal_code.Goals as goal

pub returns : goal.returns
returns c = code_told _ _ c.min.ensures
