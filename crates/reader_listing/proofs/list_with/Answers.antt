-- `list_with` meets its contract: what is refused before the first zone is written, and the list.
-- Assumes nothing.
use mathlib.Core.Path.{ap, ◌∙◌}
use Rattle.std.proofs.lemmas.Result.{err_from_is_err_and}
use Rattle.reader_listing.proofs.Placed.{list_no, list_is, list_kept}
use Rattle.answer.specs.Answers.{how_many, left}
use Rattle.reader_listing.proofs.list_with.Goals as goal

pub returns-in_err-k : goal.returns-in_err-k
returns-in_err-k c =
    let p = err_from_is_err_and c.from_residual.result c.from_residual.ensures.1 in
    let e = list_no _ _ _ _ _ _ _ c.in_err-k.ensures.result_value in
    record { result_value = rw (p.1, p.2) (ap how_many e); memory = ap (left c.args.out.now) e }

pub place_hits-requires : goal.place_hits-requires
place_hits-requires c = list_kept _ _ _ _ _ _ c.in_ok-k.ensures.result_value _ _ c.in_ok-k.ensures.memory

pub returns : goal.returns
returns c =
    let e = list_is _ _ _ _ _ _ c.in_ok-k.ensures.result_value _ in
    record { result_value = c.place_hits.ensures.result_value ∙ ap how_many e; memory = c.place_hits.ensures.memory ∙ ap (left c.args.out.now) e }
