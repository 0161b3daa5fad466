-- `reader_chunks::check_chunk_points` meets its contract: the record, the count and the room, then the trace.
-- Assumes nothing.
use mathlib.Core.Path.{ap, ◌∙◌}
use Rattle.std.proofs.lemmas.Result.{err_from_is_err_and}
use Rattle.answer.specs.Answers.{outcome}
use Rattle.reader_chunks.proofs.ChunksLaws.{in_no, in_is}
use Rattle.reader_chunks.proofs.CheckedLaws.{by_barred, trace_decodes}
use Rattle.reader_chunks.proofs.check_chunk_points.Goals as goal

pub returns-in_err-v : goal.returns-in_err-v
returns-in_err-v c =
    let a = c.args in
    let p = err_from_is_err_and c.from_residual.result c.from_residual.ensures.1 in
    rw (p.1, p.2) (ap outcome (in_no a.o a.s.now a.index a.out.now _ c.in_err-v.ensures))

pub returns-in_err-check_room : goal.returns-in_err-check_room
returns-in_err-check_room c =
    let a = c.args in
    let p = err_from_is_err_and c.from_residual-in_err-check_room.result c.from_residual-in_err-check_room.ensures.1 in
    rw (p.1, p.2)
    (ap outcome (by_barred a.o a.s.now a.index a.out.now _ _ c.in_err-check_room.ensures ∙ in_is _ _ _ a.out.now _ c.in_ok-v.ensures))

pub returns-in_err-trace_at : goal.returns-in_err-trace_at
returns-in_err-trace_at c =
    let a = c.args in
    let p = err_from_is_err_and c.from_residual-in_err-trace_at.result c.from_residual-in_err-trace_at.ensures.1 in
    rw (p.1, p.2)
    (ap outcome c.in_err-trace_at.ensures ∙ trace_decodes a.o a.s.now a.index a.out.now _ c.in_ok-v.ensures c.in_ok-check_room.ensures)

pub returns : goal.returns
returns c =
    let a = c.args in
    ap outcome c.in_ok-trace_at.ensures ∙ trace_decodes a.o a.s.now a.index a.out.now _ c.in_ok-v.ensures c.in_ok-check_room.ensures
