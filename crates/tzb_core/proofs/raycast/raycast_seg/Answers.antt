-- `raycast::raycast_seg` meets its contract: the definition, and by `ray_exact` exact geometry at whole-number points.
-- Assumes nothing.
use Rattle.std.proofs.Common.{ap, ◌∙◌, ap₂}
use Rattle.rays.specs.Ray.{ray_at, ray_of}
use Rattle.rays.proofs.Exact.{ray_exact}
use Rattle.tzb_core.proofs.raycast.raycast_seg.Goals as goal

pub returns : goal.returns
unfolding ray_of
returns c =
    let v = c.args in
    let told = c.ray_at.ensures ∙ ap₂ (λ s t. ray_at s.x s.y t.x t.y v.p.x v.p.y) c.to_point-s.ensures c.to_point-t.ensures in
    record { result_value = told; exact = λ q e h k m. told ∙ ap (ray_of v.a v.b) e ∙ ray_exact v.a v.b q h k m }
