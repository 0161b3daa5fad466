-- `draw_ring` meets its contract: the outline in the lent numbers, then its text; 48 is handed on.
-- Assumes nothing.
use native.Mathlib.Omega.{arith}
use Rattle.std.proofs.Common.{rules}
use Rattle.answer.proofs.OverLaws.{wrote, being}
use Rattle.reader_map.proofs.Onward.{drawn_so, drawn_no, drawn_same}
use Rattle.reader_map.proofs.Parts.{outline_no, outline_fits, outline_some, outline_few, outline_is}
use Rattle.reader_map.proofs.draw_ring.Goals as goal

pub returns-in_err-k : goal.returns-in_err-k
returns-in_err-k c =
    let n = outline_no _ _ _ _ _ c.in_err-k.ensures.result_value in
    drawn_same (drawn_no _ n.1 n.0) (search rules)

pub write_ring-requires : goal.write_ring-requires
write_ring-requires c =
    let e = c.in_ok-k.ensures.result_value in
    let few = outline_few _ _ _ _ _ _ e in
    (outline_some _ _ _ _ _ _ e, few, omega (arith, c.outline_of.auto.held, c.told-held), c.requires.2)

pub returns : goal.returns
returns c =
    let e = c.in_ok-k.ensures.result_value in
    let text = outline_is _ _ _ _ _ _ e _ c.outline_of.ensures.memory in
    drawn_so (outline_fits _ _ _ _ _ _ e) (being text (wrote c.write_ring.ensures.0 c.write_ring.ensures.2)) c.write_ring.ensures.1
