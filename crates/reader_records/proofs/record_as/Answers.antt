-- `record_as` meets its contract: there is none, its rule is broken, or its rule is kept.
-- Assumes nothing.
use mathlib.Core.Path.{ap, ◌∙◌}
use Rattle.std.proofs.Common.{ℕ, rules}
use Rattle.reader_records.specs.Records.{directory, record_at}
use Rattle.reader_records.proofs.RecordsLaws.{record_room, ruled_bad, ruled_ok}
use Rattle.reader_records.proofs.record_as.Goals as goal

pub read-v-requires : goal.read-v-requires
read-v-requires g c =
    let a = c.args in
    record_room a.s.now (directory a.off a.count) g.R.Record.WIDE a.index _ (c.in_ok-at.ensures ∙ ap (λ (w : ℕ). record_at a.s.now (directory a.off a.count) w a.index) c.WIDE.ensures)

pub returns-in_err-claim : goal.returns-in_err-claim
returns-in_err-claim g c =
    let a = c.args in
    let at = c.in_ok-at.ensures ∙ ap (λ (w : ℕ). record_at a.s.now (directory a.off a.count) w a.index) c.WIDE.ensures in
    let p = ruled_bad _ (g.R.Record.reading a.s.now) (g.R.Record.rule a.below) 34 _ _ _ at c.read-v.ensures c.keeps.ensures _ c.in_err-claim.ensures in
    search rules

pub returns : goal.returns
returns g c =
    let a = c.args in
    let at = c.in_ok-at.ensures ∙ ap (λ (w : ℕ). record_at a.s.now (directory a.off a.count) w a.index) c.WIDE.ensures in
    ruled_ok _ (g.R.Record.reading a.s.now) (g.R.Record.rule a.below) 34 _ _ _ at c.read-v.ensures c.keeps.ensures _ c.in_ok-claim.ensures
