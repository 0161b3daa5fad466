-- `whole_list` meets its contract: outside the domain there is no zone, in it every zone is asked by the plain walk.
-- Assumes nothing.
use mathlib.Core.Path.{sym, ap, ◌∙◌}
use lib.ListN.{length}
use Rattle.answer.specs.Answers.{how_many, left}
use Rattle.reader_whole.proofs.WholeLaws.{list_is}
use Rattle.reader_whole.proofs.Meaning.{outside}
use Rattle.reader_whole.proofs.whole_list.Goals as goal

pub returns-then-not-point_in_domain : goal.returns-then-not-point_in_domain
returns-then-not-point_in_domain c =
    let a = c.args in
    let e = outside a.o a.s.now a.q (length a.out.now) (sym c.if-not-point_in_domain.ensures) in
    record { result_value = ap how_many e; memory = ap (left a.out.now) e }

pub returns : goal.returns
returns c =
    let a = c.args in
    let e = list_is a.o a.s.now a.q (length a.out.now) _ c.to_point-p.ensures (sym c.if-not-point_in_domain.ensures) in
    record { result_value = c.list_in.ensures.result_value ∙ ap how_many e; memory = c.list_in.ensures.memory ∙ ap (left a.out.now) e }
