-- `chunk::decode_points` meets its contract: the count, the room, the first point, then the rest.
-- Assumes nothing.
use Rattle.std.proofs.Common.{ap, ◌∙◌, arith}
use Rattle.std.proofs.lemmas.Result.{err_from_is_err_and}
use Rattle.answer.specs.Answers.{outcome}
use Rattle.chunks.specs.Decode.{filled}
use Rattle.chunks.proofs.DecodeLaws.{into_none, into_short, into_no, into_at}
use Rattle.tzb_core.proofs.NextRead.{some_met, some_unmet, most_met, most_unmet}
use Rattle.tzb_core.proofs.chunk.decode_points.Goals as goal

pub returns-in_err-claim : goal.returns-in_err-claim
returns-in_err-claim c =
    let a = c.args in
    let p = err_from_is_err_and c.from_residual.result c.from_residual.ensures.1 in
    let z = some_unmet 32 _ _ c.in_err-claim.ensures in
    let e = into_none a.s.now a.count a.out.now z.0 in
    record { result_value = rw (p.1, p.2, z.1) (ap outcome e); memory = ap (filled a.out.now) e }

pub returns-in_err-claim-2 : goal.returns-in_err-claim-2
returns-in_err-claim-2 c =
    let a = c.args in
    let p = err_from_is_err_and c.from_residual-in_err-claim-2.result c.from_residual-in_err-claim-2.ensures.1 in
    let z = most_unmet 46 _ _ _ c.in_err-claim-2.ensures in
    let e = into_short a.s.now a.count a.out.now (some_met 32 _ c.in_ok-claim.ensures) z.0 in
    record { result_value = rw (p.1, p.2, z.1) (ap outcome e); memory = ap (filled a.out.now) e }

pub returns-in_err-q : goal.returns-in_err-q
returns-in_err-q c =
    let a = c.args in
    let p = err_from_is_err_and c.from_residual-in_err-q.result c.from_residual-in_err-q.ensures.1 in
    let e = into_no a.s.now a.count a.out.now (some_met 32 _ c.in_ok-claim.ensures) (most_met 46 _ _ c.in_ok-claim-2.ensures) _ c.in_err-q.ensures in
    record { result_value = rw (p.1, p.2) (ap outcome e); memory = ap (filled a.out.now) e }

pub overflow_sub-count : goal.overflow_sub-count
overflow_sub-count c = let h = some_met 32 _ c.in_ok-claim.ensures in omega (arith, h)

pub decode_in-requires-clause-room : goal.decode_in-requires-clause-room
decode_in-requires-clause-room c = let h = some_met 32 _ c.in_ok-claim.ensures in let k = most_met 46 _ _ c.in_ok-claim-2.ensures in omega (arith, h, k)

-- what comes behind the first point is all that is decoded, whatever memory is held
pub returns-in-0-to-16 : goal.returns-in-0-to-16
returns-in-0-to-16 c =
    let a = c.args in
    let e = into_at a.s.now a.count a.out.now (some_met 32 _ c.in_ok-claim.ensures) (most_met 46 _ _ c.in_ok-claim-2.ensures) _ _ c.in_ok-q.ensures in
    record { result_value = c.decode_in.ensures.0 ∙ ap outcome e; memory = c.decode_in.ensures.1 ∙ ap (filled _) e }

pub decode_in-requires-in-17-to-64-clause-room : goal.decode_in-requires-in-17-to-64-clause-room
decode_in-requires-in-17-to-64-clause-room c = let h = some_met 32 _ c.in_ok-claim.ensures in let k = most_met 46 _ _ c.in_ok-claim-2.ensures in omega (arith, h, k)

pub returns-in-17-to-64 : goal.returns-in-17-to-64
returns-in-17-to-64 c =
    let a = c.args in
    let e = into_at a.s.now a.count a.out.now (some_met 32 _ c.in_ok-claim.ensures) (most_met 46 _ _ c.in_ok-claim-2.ensures) _ _ c.in_ok-q.ensures in
    record { result_value = c.decode_in-in-17-to-64.ensures.0 ∙ ap outcome e; memory = c.decode_in-in-17-to-64.ensures.1 ∙ ap (filled _) e }

pub decode_in-requires-in_default-clause-room : goal.decode_in-requires-in_default-clause-room
decode_in-requires-in_default-clause-room c = let h = some_met 32 _ c.in_ok-claim.ensures in let k = most_met 46 _ _ c.in_ok-claim-2.ensures in omega (arith, h, k)

pub returns-in_default : goal.returns-in_default
returns-in_default c =
    let a = c.args in
    let e = into_at a.s.now a.count a.out.now (some_met 32 _ c.in_ok-claim.ensures) (most_met 46 _ _ c.in_ok-claim-2.ensures) _ _ c.in_ok-q.ensures in
    record { result_value = c.decode_in-in_default.ensures.0 ∙ ap outcome e; memory = c.decode_in-in_default.ensures.1 ∙ ap (filled _) e }
