-- `group_need` meets its contract: the group's record, then its chunks.
-- Assumes nothing.
use mathlib.Core.Path.{ap₂, ◌∙◌}
use Rattle.std.proofs.Common.{ℕ, ◌+◌, ◌*◌, rules}
use Rattle.reader_stripes.specs.Steps.{gathered, added, box_at, depth_in}
use Rattle.reader_stripes.proofs.BuildingLaws.{group_no, group_is}
use Rattle.reader_stripes.proofs.group_need.Goals as goal

pub returns-in_err-g : goal.returns-in_err-g
returns-in_err-g c =
    let a = c.args in
    let p = group_no a.o a.s.now a.i _ c.in_err-g.ensures in
    search rules

pub returns : goal.returns
returns c =
    let a = c.args in
    let t = c.of.result.striping in (
      group_is _ _ _ _ c.in_ok-g.ensures _ c.of.ensures.2 _
          (c.chunks_need.ensures.0 ∙ ap₂ (λ (n f : ℕ). added (depth_in t) (5 + 3 * t.k) (gathered (box_at a.o a.s.now c.in_ok-g.g.bbox t) n f)) c.of.ensures.1 c.of.ensures.0),
      c.chunks_need.ensures.1,
    )
