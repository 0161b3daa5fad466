-- `put_chunks` meets its contract: what is left, laid from here on.
-- Assumes nothing.
use native.Mathlib.Omega.{arith}
use mathlib.Core.Path.{refl}
use Rattle.reader_stripes.proofs.Laying.{laying_start, laying_same}
use Rattle.reader_stripes.proofs.Loops.{chunks_took, chunks_passed, chunks_fit_law, chunks_put}
use Rattle.reader_stripes.proofs.put_chunks.Goals as goal
use Rattle.reader_stripes.proofs.put_chunks.Goals.{then-stands_in, else-stands_in}

pub loop-j-init : goal.loop-j-init
loop-j-init c = laying_start _ _ _ _ refl

pub offset_bounds-numbers-at : goal.offset_bounds-numbers-at
offset_bounds-numbers-at c =
    let h = chunks_fit_law _ _ _ _ _ _ c.requires.1 _ _ _ c.loop-j.invariant c.loop-j-test.true _ c.box_read-b.ensures _ c.stands_in.ensures c.if-stands_in.true in
    omega (arith, h, laying_same _ _ _ _ _ _ c.loop-j.invariant, c.well_formed.1.1.1.1.0.1)

pub bounds-numbers-at : goal.bounds-numbers-at
bounds-numbers-at c = chunks_fit_law _ _ _ _ _ _ c.requires.1 _ _ _ c.loop-j.invariant c.loop-j-test.true _ c.box_read-b.ensures _ c.stands_in.ensures c.if-stands_in.true

pub overflow_add-at : goal.overflow_add-at
overflow_add-at c =
    let h = chunks_fit_law _ _ _ _ _ _ c.requires.1 _ _ _ c.loop-j.invariant c.loop-j-test.true _ c.box_read-b.ensures _ c.stands_in.ensures c.if-stands_in.true in
    omega (arith, h, laying_same _ _ _ _ _ _ c.loop-j.invariant, c.well_formed.1.1.1.1.0.1)

pub loop-j-preserved : goal.loop-j-preserved
loop-j-preserved c =
    elim c.if-stands_in.branch [
      | then-stands_in w ↦
          chunks_took _ _ _ _ _ _ _ c.loop-j-test.true _ c.box_read-b.ensures _ c.stands_in.ensures _ _ _ _ _ c.loop-j.invariant _ _
          (chunks_fit_law _ _ _ _ _ _ c.requires.1 _ _ _ c.loop-j.invariant c.loop-j-test.true _ c.box_read-b.ensures _ c.stands_in.ensures w.if-stands_in.true)
          w.at-is w.numbers-is w.if-stands_in.true
      | else-stands_in w ↦
          chunks_passed _ _ _ _ _ _ _ c.loop-j-test.true _ c.box_read-b.ensures _ c.stands_in.ensures _ _ _ _ _ c.loop-j.invariant _ _ w.at-is w.numbers-is w.if-stands_in.false
    ]

pub shape_of-numbers : goal.shape_of-numbers
shape_of-numbers c = laying_same _ _ _ _ _ _ c.loop-j.invariant

pub returns : goal.returns
returns c = let k = c.args.c in chunks_put _ _ _ _ _ _ (omega arith) _ _ _ c.loop-j.invariant c.loop-j-test.false
