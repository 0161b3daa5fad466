-- `op_at` meets its contract: there is none, its rule is broken, or its rule is kept.
-- Assumes nothing.
use mathlib.Core.Path.{refl}
use Rattle.std.proofs.Common.{rules}
use Rattle.fields.specs.Le.{le}
use Rattle.opened.specs.Widths.{op_wide}
use Rattle.reader_records.specs.Records.{op_rule, op_at}
use Rattle.reader_records.proofs.RecordsLaws.{record_room, ruled_bad, ruled_ok}
use Rattle.reader_records.proofs.op_at.Goals as goal

pub at-word-requires : goal.at-word-requires
at-word-requires c = record_room _ _ op_wide _ _ c.in_ok-at.ensures

pub returns-in_err-claim : goal.returns-in_err-claim
unfolding op_at op_rule
returns-in_err-claim c =
    let a = c.args in
    let p = ruled_bad _ (le 4 a.s.now) (op_rule a.o.groups.count) 35 _ _ _ c.in_ok-at.ensures c.at-word.ensures refl _ c.in_err-claim.ensures in
    search rules

pub returns : goal.returns
unfolding op_at op_rule
returns c =
    let a = c.args in
    ruled_ok _ (le 4 a.s.now) (op_rule a.o.groups.count) 35 _ _ _ c.in_ok-at.ensures c.at-word.ensures refl _ c.in_ok-claim.ensures
