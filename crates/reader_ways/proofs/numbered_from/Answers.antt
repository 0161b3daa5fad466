-- `numbered_from` meets its contract: the parity so far, added to what is left, is the whole.
-- Assumes nothing.
use native.Mathlib.Omega.{arith}
use mathlib.Core.Path.{sym, ap, ◌∙◌}
use Rattle.std.proofs.Common.{rules}
use Rattle.answer.specs.Answers.{ok}
use Rattle.reader_ways.proofs.WaysLaws.{from_start, from_end, from_past, from_no, from_on, from_off}
use Rattle.reader_ways.proofs.numbered_from.Goals as goal

pub loop-i-init : goal.loop-i-init
loop-i-init c = (from_start _ _ _ _ _ _ _, λ h. omega (arith, h))

pub returns-then-numbers-at : goal.returns-then-numbers-at
returns-then-numbers-at c = c.fail.ensures ∙ from_past _ _ _ _ _ _ _ _ _ c.loop-i.invariant.0 c.loop-i-test.true c.if-numbers-at.true

pub returns-in_err-numbered : goal.returns-in_err-numbered
returns-in_err-numbered c =
    let p = from_no _ _ _ _ _ _ _ _ _ c.loop-i.invariant.0 c.loop-i-test.true c.if-numbers-at.false _ c.in_err-numbered.ensures in
    search rules

pub returns-in-On : goal.returns-in-On
returns-in-On c = from_on _ _ _ _ _ _ _ _ _ c.loop-i.invariant.0 c.loop-i-test.true c.if-numbers-at.false (ap ok (sym c.in-On.is) ∙ c.in_ok-numbered.ensures)

pub loop-i-preserved : goal.loop-i-preserved
loop-i-preserved c = (
  from_off _ _ _ _ _ _ _ _ _ c.loop-i.invariant.0 c.loop-i-test.true c.if-numbers-at.false _ _ (ap ok (sym c.in-Off.is) ∙ c.in_ok-numbered.ensures) c.plus-odd.ensures,
  λ h. omega (arith, c.if-numbers-at.false),
)

pub returns : goal.returns
returns c = from_end _ _ _ _ _ _ _ _ _ c.loop-i.invariant.0 (omega (arith, c.loop-i-test.false))
