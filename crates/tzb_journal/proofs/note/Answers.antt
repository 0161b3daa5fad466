-- `note` meets its contract: opening's refusal, or the answer of the opened file.
-- Assumes nothing.
use mathlib.Core.Path.{sym, ap, ◌∙◌}
use Rattle.answer.specs.Answers.{outcome, left}
use Rattle.tzb_journal.proofs.JournalLaws.{laid_as, note_refused, note_opened}
use Rattle.tzb_journal.proofs.note.Goals as goal

pub returns-in-Err : goal.returns-in-Err
returns-in-Err c =
    let e = laid_as c.args.places c.args.out.now _ _ (note_refused c.args.places c.args.file.now c.args.q c.args.opening _ (sym c.in-Err.is)) in
    record { result_value = c.note_refusal.ensures.result_value ∙ ap outcome e; memory = c.note_refusal.ensures.memory ∙ ap (left c.args.out.now) e }

pub returns-in-Ok : goal.returns-in-Ok
returns-in-Ok c =
    let e = laid_as c.args.places c.args.out.now _ _ (note_opened c.args.places c.args.file.now c.args.q c.args.opening _ (sym c.in-Ok.is)) in
    record { result_value = c.note_opened.ensures.result_value ∙ ap outcome e; memory = c.note_opened.ensures.memory ∙ ap (left c.args.out.now) e }
