-- `why_unread` meets its contract: 50 comes before 46.
-- Assumes nothing.
use mathlib.Core.Path.{sym, ap, ◌∙◌}
use Rattle.answer.specs.Answers.{refused}
use Rattle.tzb_journal.proofs.JournalLaws.{unread_is, unread_other}
use Rattle.tzb_journal.proofs.why_unread.Goals as goal

pub returns-then-is_entry : goal.returns-then-is_entry
returns-then-is_entry c = ap refused c.refuse.ensures ∙ unread_is _ _ (sym c.is_entry.ensures ∙ c.if-is_entry.true)

pub returns-else-is_entry : goal.returns-else-is_entry
returns-else-is_entry c = ap refused c.refuse-else-is_entry.ensures ∙ unread_other _ _ (sym c.is_entry.ensures ∙ c.if-is_entry.false)
