-- `ops_from` meets its contract: the parity so far, added to what is left, is the whole.
-- Assumes nothing.
use native.Mathlib.Omega.{arith}
use mathlib.Core.Path.{refl, sym, ap, ◌∙◌}
use Rattle.std.proofs.Common.{rules}
use Rattle.answer.specs.Answers.{ok}
use Rattle.answer.specs.declared.Walked.{Walked}
use Rattle.reader_rings.specs.declared.Round.{Round}
use Rattle.reader_rings.specs.Steps.{sum_after}
use Rattle.reader_rings.proofs.RingsLaws.{ops_start, ops_end, ops_no, ops_on, ops_off}
use Rattle.reader_rings.proofs.ops_from.Goals as goal

pub loop-i-init : goal.loop-i-init
loop-i-init c = (ops_start _ _ _ _ _ _ _ _ refl, omega arith)

pub returns-in_err-op_step : goal.returns-in_err-op_step
returns-in_err-op_step c =
    let p = ops_no _ _ _ _ _ _ _ _ _ _ c.loop-i.invariant.0 (omega (arith, c.loop-i-test.true)) _ c.in_err-op_step.ensures.0 in
    search rules

pub returns-in-On : goal.returns-in-On
returns-in-On c = ops_on _ _ _ _ _ _ _ _ _ _ c.loop-i.invariant.0 (omega (arith, c.loop-i-test.true)) (ap ok (sym c.in-On.is) ∙ c.in_ok-op_step.ensures.0)

pub loop-i-preserved : goal.loop-i-preserved
loop-i-preserved c =
    let sum = ap (λ (x : Walked Round). sum_after c.loop-i.z.sum (ok x)) c.in-Off.is in (
      ops_off _ _ _ _ _ _ _ _ _ _ c.loop-i.invariant.0 (omega (arith, c.loop-i-test.true)) _ _ _ (ap ok (sym c.in-Off.is) ∙ c.in_ok-op_step.ensures.0) c.plus-odd.ensures,
      omega (arith, sum, c.in_ok-op_step.ensures.1, c.loop-i.invariant.1),
    )

pub returns : goal.returns
returns c = ops_end _ _ _ _ _ _ _ _ _ _ c.loop-i.invariant.0 (omega (arith, c.loop-i-test.false))
