-- `fill_chunk` meets its contract: the record, then the points into the room that is left. In a sound file both are there.
-- Assumes nothing.
use mathlib.Core.Path.{◌∙◌}
use Rattle.reader_outline.proofs.Filling.{chunk_points_law, chunk_there, chunk_over, chunk_in_law}
use Rattle.reader_outline.proofs.fill_chunk.Goals as goal

pub returns-in_err-v : goal.returns-in_err-v
returns-in_err-v c = absurd (chunk_there _ _ c.requires.ready.sound _ c.requires.index_lt_count _ c.in_err-v.ensures)

pub returns-in-Ok : goal.returns-in-Ok
returns-in-Ok c =
    let p = chunk_points_law _ _ c.requires.ready.sound _ c.requires.index_lt_count in
    chunk_in_law _ _ _ _ p c.args.held.now _ c.told-held c.requires.few c.in-Ok.ensures.result_value _ c.in_ok-v.ensures _ c.in-Ok.ensures.memory c.decode_chunk_points.auto.out

pub returns-in-Err : goal.returns-in-Err
returns-in-Err c =
    let p = chunk_points_law _ _ c.requires.ready.sound _ c.requires.index_lt_count in
    let a = chunk_over _ _ _ _ p c.args.held.now _ c.told-held c.requires.few _ c.in-Err.ensures.result_value _ in
    (c.fail.ensures ∙ a.0, a.1)
