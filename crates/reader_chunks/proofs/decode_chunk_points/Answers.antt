-- `reader_chunks::decode_chunk_points` meets its contract: the record, the count and the room, the end, then the points.
-- Assumes nothing.
use mathlib.Core.Path.{ap, ◌∙◌}
use Rattle.std.proofs.lemmas.Result.{err_from_is_err_and}
use Rattle.chunks.specs.Decode.{filled}
use Rattle.answer.specs.Answers.{outcome}
use Rattle.reader_chunks.proofs.CheckedLaws.{room_fine, by_barred}
use Rattle.reader_chunks.proofs.ChunksLaws.{by_far, by_is, in_no, in_is}
use Rattle.reader_chunks.proofs.decode_chunk_points.Goals as goal

pub returns-in_err-v : goal.returns-in_err-v
returns-in_err-v c =
    let a = c.args in
    let p = err_from_is_err_and c.from_residual.result c.from_residual.ensures.1 in
    let e = in_no a.o a.s.now a.index a.out.now _ c.in_err-v.ensures in
    record { result_value = rw (p.1, p.2) (ap outcome e); memory = ap (filled a.out.now) e }

pub returns-in_err-check_room : goal.returns-in_err-check_room
returns-in_err-check_room c =
    let a = c.args in
    let p = err_from_is_err_and c.from_residual-in_err-check_room.result c.from_residual-in_err-check_room.ensures.1 in
    let e = by_barred a.o a.s.now a.index a.out.now _ _ c.in_err-check_room.ensures ∙ in_is a.o a.s.now a.index a.out.now _ c.in_ok-v.ensures in
    record { result_value = rw (p.1, p.2) (ap outcome e); memory = ap (filled a.out.now) e }

pub returns-in_err-e : goal.returns-in_err-e
returns-in_err-e c =
    let a = c.args in
    let p = err_from_is_err_and c.from_residual-in_err-e.result c.from_residual-in_err-e.ensures.1 in
    let h = room_fine _ _ c.in_ok-check_room.ensures in
    let e = by_far a.o a.s.now a.index a.out.now _ h.0 h.1 _ c.in_err-e.ensures ∙ in_is a.o a.s.now a.index a.out.now _ c.in_ok-v.ensures in
    record { result_value = rw (p.1, p.2) (ap outcome e); memory = ap (filled a.out.now) e }

pub decode_in-requires : goal.decode_in-requires
decode_in-requires c =
    let h = room_fine _ _ c.in_ok-check_room.ensures in
    record { count_nonzero = h.0; count_in_bounds = h.1 }

pub returns : goal.returns
returns c =
    let a = c.args in
    let h = room_fine _ _ c.in_ok-check_room.ensures in
    let e =
    by_is a.o a.s.now a.index a.out.now _ h.0 h.1 _ c.in_ok-e.ensures _ c.start_of.ensures.0
    ∙ in_is a.o a.s.now a.index a.out.now _ c.in_ok-v.ensures in
    record { result_value = c.decode_in.ensures.0 ∙ ap outcome e; memory = c.decode_in.ensures.1 ∙ ap (filled a.out.now) e }
