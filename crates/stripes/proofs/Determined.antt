-- Any two answers that a promise allows are equal: stated over the contracts themselves.
-- Assumes nothing.
use mathlib.Core.Path.{sym, ◌∙◌}
use Rattle.basics.specs.Determined.{Determined}
use Rattle.stripes.proofs.stripe_of.Reads as stripe-of-reads
use Rattle.stripes.proofs.stripe_count.Reads as stripe-count-reads
use Rattle.stripes.proofs.striping_of.Reads as striping-of-reads
use Rattle.stripes.proofs.within_height.Reads as within-height-reads
use Rattle.stripes.proofs.stands_in.Reads as stands-in-reads
use Rattle.stripes.proofs.depth.Reads as depth-reads

pub stripe_of_law : Determined stripe-of-reads.Learnt
stripe_of_law κ a r r' e e' p q = p.0 ∙ sym q.0

pub stripe_count_law : Determined stripe-count-reads.Learnt
stripe_count_law κ a r r' e e' p q = p.0 ∙ sym q.0

pub striping_of_law : Determined striping-of-reads.Learnt
striping_of_law κ a r r' e e' p q = p ∙ sym q

pub within_height_law : Determined within-height-reads.Learnt
within_height_law κ a r r' e e' p q = p ∙ sym q

pub stands_in_law : Determined stands-in-reads.Learnt
stands_in_law κ a r r' e e' p q = p ∙ sym q

pub depth : Determined depth-reads.Learnt
depth κ a r r' e e' p q = p.0 ∙ sym q.0
