-- `fill_chunks` meets its contract. The loop's invariant: what is left, behind what is written, is the whole.
-- Assumes nothing.
use Rattle.std.proofs.Common.{rules}
use Rattle.reader_outline.proofs.Rows.{row_start, row_no, row_on, row_end}
use Rattle.reader_outline.proofs.fill_chunks.Goals as goal

pub loop-i-init : goal.loop-i-init
loop-i-init c = row_start _ _ _ _ _ _ c.told-held c.requires.few

pub fill_chunk-requires-clause-few : goal.fill_chunk-requires-clause-few
fill_chunk-requires-clause-few c = c.loop-i.invariant.room

pub returns-in_err-n : goal.returns-in_err-n
returns-in_err-n c =
    let p = row_no _ _ _ _ _ _ _ _ _ c.loop-i.invariant c.loop-i-test.true _ c.in_err-n.ensures.0 c.fill_chunk.new.held in
    let e = p.0 in
    (search rules, p.1)

pub loop-i-preserved : goal.loop-i-preserved
loop-i-preserved c =
    row_on _ _ _ _ _ _ _ _ _ c.loop-i.invariant c.loop-i-test.true _ c.fill_chunk.array_long _ c.in_ok-n.ensures.0 c.in_ok-n.ensures.1

pub returns : goal.returns
returns c = row_end _ _ _ _ _ _ _ _ _ c.loop-i.invariant c.loop-i-test.false
