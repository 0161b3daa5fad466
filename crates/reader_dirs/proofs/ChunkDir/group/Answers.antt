-- `group` meets its contract: a group's chunks are in the directory.
-- Assumes nothing.
use mathlib.Core.Path.{sym, ◌∙◌}
use native.Mathlib.Omega.{arith}
use Rattle.answer.proofs.CheckLaws.{fine_claim}
use Rattle.reader_records.proofs.RecordsLaws.{group_within, within_fits}
use Rattle.reader_dirs.proofs.ChunkDir.group.Goals as goal

pub points_of-sum-requires : goal.points_of-sum-requires
points_of-sum-requires c =
    let h = within_fits _ _ _ (group_within _ c.args.v (sym c.group_rule.ensures ∙ fine_claim _ _ (sym c.in_ok-claim.ensures))) in
    (omega arith, omega (arith, h), omega arith)
