-- `write_entry` meets its contract: the forms, then the room.
-- Assumes nothing.
use mathlib.Core.Path.{ap, ◌∙◌}
use Rattle.answer.specs.Answers.{outcome, left}
use Rattle.answer.proofs.CheckLaws.{told_yes, told_no}
use Rattle.entries.proofs.FormsLaws.{formed_few}
use Rattle.entries.proofs.ReadLaws.{write_none, write_on}
use Rattle.std.proofs.lemmas.Bool.{not_from_true}
use Rattle.std.proofs.lemmas.Bool.{not_from_false}
use Rattle.entry_bytes.proofs.write_entry.Goals as goal

pub returns-then-not-is_formed : goal.returns-then-not-is_formed
returns-then-not-is_formed c =
    let e = write_none _ _ c.args.out.now (told_no _ _ c.is_formed.ensures (not_from_false _ c.if-not-is_formed.true)) in
    record { result_value = c.fail.ensures ∙ e.0; memory = e.1 }

pub lay_entry-requires : goal.lay_entry-requires
lay_entry-requires c = formed_few _ _ (told_yes _ _ c.is_formed.ensures (not_from_true _ c.if-not-is_formed.false))

pub returns : goal.returns
returns c =
    let e = write_on _ _ c.args.out.now (told_yes _ _ c.is_formed.ensures (not_from_true _ c.if-not-is_formed.false)) in
    record { result_value = c.lay_entry.ensures.result_value ∙ ap outcome e; memory = c.lay_entry.ensures.memory ∙ ap (left c.args.out.now) e }
