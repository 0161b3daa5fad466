-- `ask` meets its contract: the opened record, the number of places, then the entry.
-- Assumes nothing.
use mathlib.Core.Path.{ap, ◌∙◌}
use Rattle.std.proofs.lemmas.Result.{err_from_is_err_and}
use Rattle.answer.specs.Answers.{outcome, left}
use Rattle.tzb_journal.proofs.JournalLaws.{offered_fits, offered_yes, offered_no, call_no, ask_no, ask_other, ask_is}
use native.Mathlib.Omega.{arith}
use Rattle.tzb_journal.proofs.ask.Goals as goal

pub returns-in_err-o : goal.returns-in_err-o
returns-in_err-o c =
    let p = err_from_is_err_and c.from_residual.result c.from_residual.ensures.1 in
    let e = ask_no c.args.«record».now c.args.file.now c.args.places c.args.q c.args.out.now _ c.in_err-o.ensures in
    record { result_value = rw (p.1, p.2) (ap outcome e); memory = ap (left c.args.out.now) e }

pub returns-in_err-claim : goal.returns-in_err-claim
returns-in_err-claim c =
    let p = err_from_is_err_and c.from_residual-in_err-claim.result c.from_residual-in_err-claim.ensures.1 in
    let h = offered_no _ _ c.is_offered.ensures _ c.in_err-claim.ensures in
    let e = call_no _ c.args.out.now 50 (ask_other c.args.«record».now c.args.file.now c.args.places c.args.q c.args.out.now _ c.in_ok-o.ensures h.0) in
    record { result_value = rw (p.1, p.2, h.1) e.0; memory = e.1 }

pub overflow_cast-places : goal.overflow_cast-places
overflow_cast-places c = omega (arith, offered_fits _ _ c.is_offered.ensures c.in_ok-claim.ensures)

pub returns : goal.returns
returns c =
    let e = ask_is c.args.«record».now c.args.file.now c.args.places c.args.q c.args.out.now _ c.in_ok-o.ensures (offered_yes _ _ c.is_offered.ensures c.in_ok-claim.ensures) in
    record { result_value = c.note_opened.ensures.result_value ∙ ap outcome e; memory = c.note_opened.ensures.memory ∙ ap (left c.args.out.now) e }
