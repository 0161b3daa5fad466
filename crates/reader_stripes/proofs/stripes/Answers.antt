-- `stripes` meets its contract: a refusal of the need, then 46, then all numbers.
-- Assumes nothing.
use Rattle.std.proofs.Common.{rules}
use Rattle.reader_stripes.proofs.Built.{build_no, build_full, build_room, build_is}
use Rattle.reader_stripes.proofs.stripes.Goals as goal

pub returns-in_err-n : goal.returns-in_err-n
returns-in_err-n c =
    let a = c.args in
    let p = build_no a.o a.s.now a.numbers.now _ c.in_err-n.ensures in
    search rules

pub returns-in_err-claim : goal.returns-in_err-claim
returns-in_err-claim c =
    let a = c.args in
    let p = build_full a.o a.s.now _ c.in_ok-n.ensures a.numbers.now _ c.in_err-claim.ensures in
    search rules

pub put_all-requires : goal.put_all-requires
put_all-requires c = build_room _ _ _ c.in_ok-n.ensures c.args.numbers.now _ c.in_ok-claim.ensures

pub returns : goal.returns
returns c =
    let p = build_is _ _ _ c.in_ok-n.ensures _ _ c.in_ok-claim.ensures _ c.put_all.ensures in
    record { result_value = p.0; memory = p.1 }
