-- 25 and 26 of a name.
-- Assumes nothing.
use mathlib.Core.Path.{sym, ◌∙◌, ap}
use lib.ListN.{length}
use Rattle.answer.specs.Checks.{claim, same}
use Rattle.answer.proofs.CheckLaws.{met_by, none_left, same_is, seek_start}
use Rattle.reader_names.specs.Names.{text_check}
use Rattle.reader_names.proofs.text_ok.Goals as goal

pub returns : goal.returns
unfolding text_check
returns c =
    met_by _ _ _ (sym (c.in_ok-claim.ensures ∙ ap (claim 25) c.utf8_ok.ensures))
    (c.claim-2.ensures ∙ ap (claim 26) (same_is _ _ ∙ ap (λ z. same z (length c.args.name.now)) (c.text_end.ensures.0 ∙ seek_start _ _)) ∙ none_left _)
