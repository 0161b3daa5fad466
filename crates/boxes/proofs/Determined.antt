-- Any two answers that a promise allows are equal: stated over the contracts themselves.
-- Assumes nothing.
use mathlib.Core.Path.{sym, ◌∙◌}
use Rattle.basics.specs.Determined.{Determined}
use Rattle.boxes.proofs.BBox.ordered.Reads as ordered-reads
use Rattle.boxes.proofs.BBox.in_domain.Reads as in-domain-reads
use Rattle.boxes.proofs.BBox.contains.Reads as contains-reads
use Rattle.boxes.proofs.BBox.relevant.Reads as relevant-reads
use Rattle.boxes.proofs.BBox.right.Reads as right-reads
use Rattle.boxes.proofs.point_in_domain.Reads as point-in-domain-reads
use Rattle.boxes.proofs.in_box.Reads as in-box-reads
use Rattle.boxes.proofs.same_point.Reads as same-point-reads

pub ordered : Determined ordered-reads.Learnt
ordered κ a r r' e e' p q = p ∙ sym q

pub in_domain_law : Determined in-domain-reads.Learnt
in_domain_law κ a r r' e e' p q = p ∙ sym q

pub contains : Determined contains-reads.Learnt
contains κ a r r' e e' p q = p ∙ sym q

pub relevant : Determined relevant-reads.Learnt
relevant κ a r r' e e' p q = p ∙ sym q

pub right : Determined right-reads.Learnt
right κ a r r' e e' p q = p ∙ sym q

pub point_in_domain : Determined point-in-domain-reads.Learnt
point_in_domain κ a r r' e e' p q = p ∙ sym q

pub in_box_law : Determined in-box-reads.Learnt
in_box_law κ a r r' e e' p q = p ∙ sym q

pub same_point_law : Determined same-point-reads.Learnt
same_point_law κ a r r' e e' p q = p ∙ sym q
