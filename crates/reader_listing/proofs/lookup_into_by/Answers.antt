-- `lookup_into_by` meets its contract: a refusal, or the zones of the candidates.
-- Assumes nothing.
use mathlib.Core.Path.{ap, ◌∙◌}
use lib.ListN.{length}
use Rattle.std.proofs.lemmas.Result.{err_from_is_err_and}
use Rattle.reader_ways.specs.Ways.{way_of}
use Rattle.answer.specs.Answers.{how_many, left}
use Rattle.reader_listing.proofs.AllLaws.{into_no, into}
use Rattle.reader_listing.proofs.lookup_into_by.Goals as goal

pub returns-in_err-c : goal.returns-in_err-c
returns-in_err-c c =
    let p = err_from_is_err_and c.from_residual.result c.from_residual.ensures.1 in
    let e = into_no (way_of c.args.way) c.args.o c.args.s.now c.args.lng c.args.lat (length c.args.out.now) _ c.in_err-c.ensures in
    record { result_value = rw (p.1, p.2) (ap how_many e); memory = ap (left c.args.out.now) e }

pub returns : goal.returns
returns c =
    let e = into (way_of c.args.way) c.args.o c.args.s.now c.args.lng c.args.lat (length c.args.out.now) _ c.scaled_at.ensures _ _ _ c.in_ok-c.ensures in
    record { result_value = c.list_in.ensures.result_value ∙ ap how_many e; memory = c.list_in.ensures.memory ∙ ap (left c.args.out.now) e }
