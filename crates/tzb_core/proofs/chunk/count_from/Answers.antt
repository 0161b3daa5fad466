-- `chunk::count_from` meets its contract: with what is counted so far, what is left tells as the whole does.
-- Assumes nothing.
use Rattle.std.proofs.Common.{ℕ, ◌+◌, ◌-◌, List, ap, ◌∙◌}
use Rattle.std.proofs.lemmas.Result.{err_from_is_err_and}
use Rattle.answer.specs.Answers.{Answer}
use Rattle.plane.specs.declared.I32Point.{I32Point}
use Rattle.chunks.specs.Along.{along}
use Rattle.chunks.specs.Count.{counter}
use Rattle.chunks.proofs.CountLaws.{segment_enough, segment_few}
use Rattle.tzb_core.proofs.NextRead.{turn_start, turn_no, turn_to, turn_over, turn_end}
use Rattle.tzb_core.proofs.chunk.count_from.Goals as goal

-- what is left after one point more
abbrev left : List ℕ → ℕ → ℕ → I32Point → ℕ → ℕ → Answer (ℕ × I32Point)
left s count i t m = along counter s (count - (i + 1)) t m

pub loop-init : goal.loop-init
loop-init c = ap (λ (f : ℕ → Answer (ℕ × I32Point)). f c.args.sides) (turn_start _ _ _ _ _)

pub returns-in_err-t : goal.returns-in_err-t
returns-in_err-t c =
    let p = err_from_is_err_and c.from_residual.result c.from_residual.ensures.1 in
    rw (p.1, p.2) (ap (λ (f : ℕ → Answer (ℕ × I32Point)). f c.loop.n) (turn_no _ _ _ _ _ _ c.loop-test.true _ c.in_err-t.ensures) ∙ c.loop.invariant)

pub returns-then-n-ge3 : goal.returns-then-n-ge3
returns-then-n-ge3 c =
    segment_enough _ _ (left c.args.s.now c.args.count c.loop.counter c.in_ok-t.t c.in_ok-t.next) _ _ c.with_side-n.ensures c.if-n-ge3.true
    ∙ ap (λ (f : ℕ → Answer (ℕ × I32Point)). f c.loop.n) (turn_to _ _ _ _ _ _ c.loop-test.true _ _ c.in_ok-t.ensures)
    ∙ c.loop.invariant

pub loop-preserved : goal.loop-preserved
loop-preserved c =
    segment_few _ _ (left c.args.s.now c.args.count c.loop.counter c.in_ok-t.t c.in_ok-t.next) _ _ c.with_side-n.ensures c.if-n-ge3.false
    ∙ ap (λ (f : ℕ → Answer (ℕ × I32Point)). f c.loop.n) (turn_to _ _ _ _ _ _ c.loop-test.true _ _ c.in_ok-t.ensures)
    ∙ c.loop.invariant

pub returns-in_err-check_end : goal.returns-in_err-check_end
returns-in_err-check_end c =
    let p = err_from_is_err_and c.from_residual-in_err-check_end.result c.from_residual-in_err-check_end.ensures.1 in
    rw (p.1, p.2) (ap (λ (f : ℕ → Answer (ℕ × I32Point)). f c.loop.n) (turn_over _ _ _ _ _ _ c.loop-test.false _ c.in_err-check_end.ensures) ∙ c.loop.invariant)

pub returns : goal.returns
returns c =
    ap (λ (f : ℕ → Answer (ℕ × I32Point)). f c.loop.n) (turn_end _ _ _ _ _ _ c.loop-test.false c.in_ok-check_end.ensures) ∙ c.loop.invariant
