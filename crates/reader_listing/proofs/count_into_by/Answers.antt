-- `count_into_by` meets its contract: a refusal, or how many zones of the candidates.
-- Assumes nothing.
use mathlib.Core.Path.{ap, ◌∙◌}
use Rattle.std.proofs.lemmas.Result.{err_from_is_err_and}
use Rattle.reader_ways.specs.Ways.{way_of}
use Rattle.answer.specs.Answers.{how_many}
use Rattle.reader_listing.proofs.AllLaws.{into_no, into}
use Rattle.reader_listing.proofs.count_into_by.Goals as goal

pub returns-in_err-c : goal.returns-in_err-c
returns-in_err-c c =
    let p = err_from_is_err_and c.from_residual.result c.from_residual.ensures.1 in
    rw (p.1, p.2) (ap how_many (into_no (way_of c.args.way) c.args.o c.args.s.now c.args.lng c.args.lat c.args.places _ c.in_err-c.ensures))

pub returns : goal.returns
returns c =
    c.count_in.ensures ∙ ap how_many (into (way_of c.args.way) c.args.o c.args.s.now c.args.lng c.args.lat c.args.places _ c.scaled_at.ensures _ _ _ c.in_ok-c.ensures)
