-- `fill_legs` meets its contract. The loop's invariant: what is left, strung behind what is written, is the whole.
-- Assumes nothing.
use Rattle.std.proofs.Common.{rules}
use Rattle.reader_outline.proofs.Legs.{legs_start, legs_no, legs_on_law, legs_end}
use Rattle.reader_outline.proofs.fill_legs.Goals as goal

pub loop-i-init : goal.loop-i-init
loop-i-init c = legs_start _ _ _ _ _ c.told-held

pub fill_leg-requires-clause-few : goal.fill_leg-requires-clause-few
fill_leg-requires-clause-few c = c.loop-i.invariant.room

pub returns-in_err-n : goal.returns-in_err-n
returns-in_err-n c =
    let p = legs_no _ _ _ _ _ _ _ c.loop-i.invariant c.loop-i-test.true _ c.in_err-n.ensures.0 c.fill_leg.new.held in
    let e = p.0 in
    (search rules, p.1)

pub loop-i-preserved : goal.loop-i-preserved
loop-i-preserved c =
    legs_on_law _ _ _ _ _ _ _ c.loop-i.invariant c.loop-i-test.true _ c.fill_leg.array_long _ c.in_ok-n.ensures.0 c.in_ok-n.ensures.1

pub returns : goal.returns
returns c = legs_end _ _ _ _ _ _ _ c.loop-i.invariant c.loop-i-test.false
