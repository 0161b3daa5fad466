-- `record_at` meets its contract: out of its directory, past the bytes, or there; no sum wraps.
-- Assumes nothing.
use native.Mathlib.Omega.{arith}
use Rattle.std.proofs.Common.{rules}
use Rattle.reader_records.specs.Records.{directory}
use Rattle.reader_records.proofs.Parts.{scale}
use Rattle.reader_records.proofs.RecordsLaws.{record_out, record_short, record_is, record_index}
use Rattle.reader_records.proofs.record_at.Goals as goal

pub returns-in_err-claim : goal.returns-in_err-claim
returns-in_err-claim c =
    let a = c.args in
    let p = record_out a.s.now (directory a.off a.count) a.width a.index _ c.in_err-claim.ensures in
    search rules

pub overflow_mul-at : goal.overflow_mul-at
overflow_mul-at c =
    let a = c.args in
    omega (arith, scale a.index a.width (omega (arith, record_index a.s.now (directory a.off a.count) a.width a.index _ c.in_ok-claim.ensures)) (omega arith))

pub overflow_add-at : goal.overflow_add-at
overflow_add-at c =
    let a = c.args in
    omega (arith, scale a.index a.width (omega (arith, record_index a.s.now (directory a.off a.count) a.width a.index _ c.in_ok-claim.ensures)) (omega arith))

pub overflow_add-at-2 : goal.overflow_add-at-2
overflow_add-at-2 c =
    let a = c.args in
    omega (arith, scale a.index a.width (omega (arith, record_index a.s.now (directory a.off a.count) a.width a.index _ c.in_ok-claim.ensures)) (omega arith))

pub returns-in_err-claim-2 : goal.returns-in_err-claim-2
returns-in_err-claim-2 c =
    let a = c.args in
    let p = record_short a.s.now (directory a.off a.count) a.width a.index _ c.in_ok-claim.ensures _ c.in_err-claim-2.ensures in
    search rules

pub returns : goal.returns
returns c =
    let a = c.args in
    record_is a.s.now (directory a.off a.count) a.width a.index _ c.in_ok-claim.ensures _ c.in_ok-claim-2.ensures
