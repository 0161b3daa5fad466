-- `note_zones` meets its contract: zones that fit their places, or 45.
-- Assumes nothing.
use mathlib.Core.Path.{sym, ap, ◌∙◌}
use Rattle.answer.specs.Answers.{outcome, left}
use Rattle.tzb_journal.proofs.JournalLaws.{laid_as, fit_all, fit_none}
use Rattle.tzb_journal.proofs.note_zones.Goals as goal

pub returns-then-all_below : goal.returns-then-all_below
returns-then-all_below c =
    let e = laid_as c.args.places c.args.out.now _ _ (fit_all c.args.q c.args.zones.now (sym c.all_below.ensures ∙ c.if-all_below.true)) in
    record { result_value = c.lay_entry.ensures.result_value ∙ ap outcome e; memory = c.lay_entry.ensures.memory ∙ ap (left c.args.out.now) e }

pub returns-else-all_below : goal.returns-else-all_below
returns-else-all_below c =
    let e = laid_as c.args.places c.args.out.now _ _ (fit_none c.args.q c.args.zones.now (sym c.all_below.ensures ∙ c.if-all_below.false) _ c.refuse.ensures) in
    record { result_value = c.note_refusal.ensures.result_value ∙ ap outcome e; memory = c.note_refusal.ensures.memory ∙ ap (left c.args.out.now) e }
