-- `scan_chunks` meets its contract: the parity so far, added to what is left, is the whole, and what is known is what reading would give.
-- Assumes nothing.
use mathlib.Core.Path.{ap, ◌∙◌}
use Rattle.std.proofs.Common.{rules}
use Rattle.answer.specs.Walks.{add}
use Rattle.answer.proofs.WalksLaws.{add_none, breaks, hits, keeps}
use Rattle.reader_groups.proofs.Remembering.{passed_arm, hands_off}
use Rattle.reader_groups.proofs.GroupsLaws.{chunks_last, chunks_no, chunks_on, chunks_off}
use Rattle.reader_groups.proofs.scan_chunks.Goals as goal

pub loop-init : goal.loop-init
loop-init c = (add_none _, c.requires)

pub pass_at-requires : goal.pass_at-requires
pass_at-requires c = c.loop.invariant.1

pub returns-in_err-pass_at : goal.returns-in_err-pass_at
returns-in_err-pass_at c =
    let p = breaks _ _ _ c.loop.invariant.0 _ (chunks_no _ _ _ _ _ _ _ _ c.loop-test.true _ c.in_err-pass_at.ensures.0) in
    search rules

pub returns-in-On : goal.returns-in-On
returns-in-On c = hits _ _ _ c.loop.invariant.0 (chunks_on _ _ _ _ _ _ _ _ c.loop-test.true (passed_arm _ _ _ c.in-On.is c.in_ok-pass_at.ensures.0))

pub loop-preserved : goal.loop-preserved
loop-preserved c =
    let h = hands_off _ _ _ _ _ _ c.in-Off.is c.in_ok-pass_at.ensures.1 in (
      keeps _ _ _ c.loop.invariant.0 _ _ _ c.plus-odd.ensures (chunks_off _ _ _ _ _ _ _ _ c.loop-test.true _ _ _ (passed_arm _ _ _ c.in-Off.is c.in_ok-pass_at.ensures.0) h.0),
      rw h.0 h.1,
    )

pub last_at-requires : goal.last_at-requires
last_at-requires c = c.loop.invariant.1

pub returns : goal.returns
returns c = c.after.ensures ∙ ap (add c.loop.odd) (c.last_at.ensures ∙ chunks_last _ _ _ _ _ _ _ _ c.loop-test.false) ∙ c.loop.invariant.0
