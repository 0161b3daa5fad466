-- `note_with` meets its contract: what is refused, and the zones.
-- Assumes nothing.
use mathlib.Core.Path.{sym, ap, ◌∙◌}
use Rattle.answer.specs.Answers.{outcome, left}
use lib.Seq.{length-take-le}
use Rattle.tzb_journal.proofs.JournalLaws.{note_no, note_held, note_few, note_is, laid_as}
use Rattle.tzb_journal.proofs.note_with.Goals as goal

pub slice_bounds-note_zones-end : goal.slice_bounds-note_zones-end
slice_bounds-note_zones-end c =
    note_held c.args.places _ c.args.o c.args.file.now c.args.q c.requires _ c.in-Ok.ensures.result_value _ _ c.in-Ok.ensures.memory

pub slice_bounds-note_zones-end-in-Ok : goal.slice_bounds-note_zones-end-in-Ok
slice_bounds-note_zones-end-in-Ok c =
    sym (length-take-le _ _ (note_held c.args.places _ c.args.o c.args.file.now c.args.q c.requires _ c.in-Ok.ensures.result_value _ _ c.in-Ok.ensures.memory))

pub note_zones-requires : goal.note_zones-requires
note_zones-requires c =
    note_few c.args.places _ c.args.o c.args.file.now c.args.q c.requires _ c.in-Ok.ensures.result_value _ _ c.in-Ok.ensures.memory

pub returns-in-Err : goal.returns-in-Err
returns-in-Err c =
    let e = laid_as c.args.places c.args.out.now _ _ (note_no c.args.places _ c.args.o c.args.file.now c.args.q c.requires _ c.in-Err.ensures.result_value) in
    record { result_value = c.note_refusal.ensures.result_value ∙ ap outcome e; memory = c.note_refusal.ensures.memory ∙ ap (left c.args.out.now) e }

pub returns-in-Ok : goal.returns-in-Ok
returns-in-Ok c =
    let e = laid_as c.args.places c.args.out.now _ _ (note_is c.args.places _ c.args.o c.args.file.now c.args.q c.requires _ c.in-Ok.ensures.result_value _ _ c.in-Ok.ensures.memory) in
    record { result_value = c.note_zones.ensures.result_value ∙ ap outcome e; memory = c.note_zones.ensures.memory ∙ ap (left c.args.out.now) e }
