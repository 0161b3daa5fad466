-- `group_place` meets its contract: there is none, its rule is broken, or its rule is kept.
-- Assumes nothing.
use mathlib.Core.Path.{refl, ap, ◌∙◌}
use Rattle.std.proofs.Common.{ℕ, rules}
use Rattle.opened.specs.Widths.{group_wide}
use Rattle.reader_records.specs.Records.{group_in, group_rule, group_place}
use Rattle.reader_records.proofs.RecordsLaws.{record_room, ruled_bad, ruled_ok}
use Rattle.reader_records.proofs.group_place.Goals as goal

pub group_in-requires : goal.group_in-requires
group_in-requires c = record_room _ _ group_wide _ _ c.in_ok-at.ensures

pub returns-in_err-claim : goal.returns-in_err-claim
unfolding group_place
returns-in_err-claim c =
    let a = c.args in
    let p = ruled_bad _ (λ (q : ℕ). q) (λ (q : ℕ). group_rule a.o.chunks.count (group_in a.s.now q)) 34 _ _ _ c.in_ok-at.ensures refl (c.group_rule.ensures ∙ ap (group_rule a.o.chunks.count) c.group_in.ensures) _ c.in_err-claim.ensures in
    search rules

pub returns : goal.returns
unfolding group_place
returns c =
    let a = c.args in
    ruled_ok _ (λ (q : ℕ). q) (λ (q : ℕ). group_rule a.o.chunks.count (group_in a.s.now q)) 34 _ _ _ c.in_ok-at.ensures refl (c.group_rule.ensures ∙ ap (group_rule a.o.chunks.count) c.group_in.ensures) _ c.in_ok-claim.ensures
