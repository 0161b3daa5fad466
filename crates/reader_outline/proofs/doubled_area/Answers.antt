-- `doubled_area` meets its contract. The loop's invariant: what is added, and what is left to add, is the whole.
-- Assumes nothing.
use mathlib.Core.Path.{◌∙◌}
use mir.Syntax.{w64}
use Rattle.basics.specs.Signed.{back}
use Rattle.reader_outline.proofs.Area.{sum_start, first_in_law, second_in, sum_near, sum_on, sum_end}
use Rattle.reader_outline.proofs.doubled_area.Goals as goal

pub loop-i-init : goal.loop-i-init
loop-i-init c = sum_start _ _

pub sweep-sum-requires : goal.sweep-sum-requires
sweep-sum-requires c =
    let w = c.loop-i.invariant in
    let h = c.loop-i-test.true in record { a_value = first_in_law _ _ _ _ w h c.requires.k_bound.1 c.requires.k_bound.0 _ _ c.point_at.ensures c.point_at-in-loop-i.ensures c.requires.k_value; b_value = second_in _ _ _ _ w h c.requires.k_bound.1 c.requires.k_bound.0 _ _ c.point_at.ensures c.point_at-in-loop-i.ensures c.requires.k_value }

pub overflow_add-sum : goal.overflow_add-sum
overflow_add-sum c =
    sum_near _ _ _ _ c.loop-i.invariant c.loop-i-test.true c.requires.k_bound.1 c.requires.k_bound.0 _ _ c.point_at.ensures c.point_at-in-loop-i.ensures c.requires.k_value _ (back w64 _ c.sweep-sum.type_inv ∙ c.sweep-sum.ensures)

pub loop-i-preserved : goal.loop-i-preserved
loop-i-preserved c =
    sum_on _ _ _ _ c.loop-i.invariant c.loop-i-test.true c.requires.k_bound.1 c.requires.k_bound.0 _ _ c.point_at.ensures c.point_at-in-loop-i.ensures c.requires.k_value _ (back w64 _ c.sweep-sum.type_inv ∙ c.sweep-sum.ensures)

pub returns : goal.returns
returns c = sum_end _ _ _ _ c.loop-i.invariant c.loop-i-test.false
