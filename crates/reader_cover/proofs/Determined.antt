-- Any two answers that a promise allows are equal: stated over the contracts themselves.
-- Assumes nothing.
use mathlib.Core.Path.{sym, ◌∙◌}
use denote.RattleType.{RattleType}
use denote.Param.Laws.{Laws}
use mir.Syntax.{Dict}
use Rattle.basics.specs.Determined.{Determined}
use Rattle.reader_cover.specs.contracts.each_passes.F-Fn as Closure
use Rattle.reader_cover.proofs.points_add.Reads as points-add-reads
use Rattle.reader_cover.proofs.parts_fit.Reads as parts-fit-reads
use Rattle.reader_cover.proofs.each_passes.Reads as each-passes-reads
use Rattle.reader_cover.proofs.group_under.Reads as group-under-reads
use Rattle.reader_cover.proofs.ring_under.Reads as ring-under-reads
use Rattle.reader_cover.proofs.poly_under.Reads as poly-under-reads
use Rattle.reader_cover.proofs.joints_cover.Reads as joints-cover-reads
use Rattle.reader_cover.proofs.group_covers.Reads as group-covers-reads

pub points_add_law : Determined points-add-reads.Learnt
points_add_law κ a r r' e e' p q = p ∙ sym q

pub parts_fit : Determined parts-fit-reads.Learnt
parts_fit κ a r r' e e' p q = p ∙ sym q

-- of a closure of any type, and any test that it is promised to be
pub each_passes : (F : RattleType) (L : Laws F) (G : Closure.Ghosts F) (d d' d'' d''' : Dict) (g : each-passes-reads.Ghost F L G d d' d'' d''') → Determined (each-passes-reads.Learnt-at F L G d d' d'' d''' g)
each_passes F L G d d' d'' d''' g κ a r r' e e' p q = p ∙ sym q

pub group_under_law : Determined group-under-reads.Learnt
group_under_law κ a r r' e e' p q = p ∙ sym q

pub ring_under_law : Determined ring-under-reads.Learnt
ring_under_law κ a r r' e e' p q = p ∙ sym q

pub poly_under_law : Determined poly-under-reads.Learnt
poly_under_law κ a r r' e e' p q = p ∙ sym q

pub joints_cover_law : Determined joints-cover-reads.Learnt
joints_cover_law κ a r r' e e' p q = p ∙ sym q

pub group_covers_law : Determined group-covers-reads.Learnt
group_covers_law κ a r r' e e' p q = p ∙ sym q
