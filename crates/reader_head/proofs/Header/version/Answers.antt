-- `version` meets its contract: padding, then text.
-- Assumes nothing.
use mathlib.Core.Path.{ap, sym, ◌∙◌}
use Rattle.std.proofs.Common.{rules}
use Rattle.answer.specs.Checks.{claim}
use Rattle.answer.proofs.CheckLaws.{met_by, unmet_by, none_left}
use Rattle.reader_head.specs.Head.{version_check}
use Rattle.reader_head.proofs.HeadLaws.{padding_is, text_is}
use Rattle.reader_head.proofs.Header.version.Goals as goal

pub returns-in_err-claim : goal.returns-in_err-claim
unfolding version_check
returns-in_err-claim c = let e = padding_is _ _ _ c.args.self.long c.text_end-e.ensures.0 c.text_end-e.ensures.2 c.all_zero.ensures in let f = ap (claim 8) e in search (rules, unmet_by)

pub returns : goal.returns
unfolding version_check
returns c = met_by _ _ _ (sym (c.in_ok-claim.ensures ∙ ap (claim 8) (padding_is _ _ _ c.args.self.long c.text_end-e.ensures.0 c.text_end-e.ensures.2 c.all_zero.ensures))) (c.claim-2.ensures ∙ ap (claim 9) (text_is _ _ _ c.text_end-e.ensures.0 c.utf8_ok.ensures) ∙ none_left _)
