-- `chunk::scan_from` meets its contract: with the parity so far added to what is left, the whole stays the same.
-- Assumes nothing.
use Rattle.std.proofs.Common.{◌∙◌}
use Rattle.std.proofs.lemmas.Result.{err_from_is_err_and}
use Rattle.answer.proofs.WalksLaws.{add_none, breaks, hits, ends, keeps}
use Rattle.chunks.specs.Steps.{onward}
use Rattle.chunks.proofs.ScanLaws.{segment_on, segment_off}
use Rattle.chunks.proofs.Neighbours.{next_in}
use Rattle.tzb_core.proofs.NextRead.{turn_start, turn_no, turn_to, turn_over, turn_end}
use Rattle.tzb_core.proofs.chunk.scan_from.Goals as goal

pub loop-init : goal.loop-init
unfolding onward
loop-init c = record { inside = c.requires; whole = add_none _ ∙ turn_start _ _ _ _ _ }

pub returns-in_err-t : goal.returns-in_err-t
unfolding onward
returns-in_err-t c =
    let p = err_from_is_err_and c.from_residual.result c.from_residual.ensures.1 in
    rw (p.1, p.2) (breaks _ _ _ c.loop.invariant.whole _ (turn_no _ _ _ _ _ _ c.loop-test.true _ c.in_err-t.ensures))

pub segment_seen-requires-clause-v_value : goal.segment_seen-requires-clause-v_value
segment_seen-requires-clause-v_value c = next_in _ _ _ _ c.in_ok-t.ensures

pub returns-in-On : goal.returns-in-On
unfolding onward
returns-in-On c =
    hits _ _ _ c.loop.invariant.whole
    (segment_on _ _ _ _ c.in-On.ensures ∙ turn_to _ _ _ _ _ _ c.loop-test.true _ _ c.in_ok-t.ensures)

pub loop-preserved : goal.loop-preserved
unfolding onward
loop-preserved c = record {
  inside = next_in _ _ _ _ c.in_ok-t.ensures;
  whole =
      keeps _ _ _ c.loop.invariant.whole _ _ _ c.plus-odd.ensures
      (segment_off _ _ _ _ _ c.in-Off.ensures ∙ turn_to _ _ _ _ _ _ c.loop-test.true _ _ c.in_ok-t.ensures);
}

pub returns-in_err-check_end : goal.returns-in_err-check_end
unfolding onward
returns-in_err-check_end c =
    let p = err_from_is_err_and c.from_residual-in_err-check_end.result c.from_residual-in_err-check_end.ensures.1 in
    rw (p.1, p.2) (breaks _ _ _ c.loop.invariant.whole _ (turn_over _ _ _ _ _ _ c.loop-test.false _ c.in_err-check_end.ensures))

pub returns : goal.returns
unfolding onward
returns c = ends _ _ _ c.loop.invariant.whole _ (turn_end _ _ _ _ _ _ c.loop-test.false c.in_ok-check_end.ensures)
