-- Any two answers that a promise allows are equal: stated over the contracts themselves. What lies behind the positions in the lent numbers is not promised; the positions are.
-- Assumes nothing.
use Prim.Native.Nat.{ℕ}
use mathlib.Core.Path.{◌≡◌, sym, ◌∙◌}
use mathlib.Core.List.{List}
use lib.IntN.{ℤ}
use Rattle.basics.specs.Determined.{Determined}
use Rattle.answer.specs.Answers.{ok}
use Rattle.plane.specs.declared.I32Point.{I32Point}
use Rattle.reader_outline.specs.Held.{points_in}
use Rattle.reader_outline.specs.Told.{few_enough, Keeps}
use Rattle.reader_outline.proofs.Filling.{stands_there}
use Rattle.reader_outline.proofs.ring_positions.Reads as ring-positions-reads
use Rattle.reader_outline.proofs.doubled_area.Reads as doubled-area-reads
use Rattle.reader_outline.proofs.outline_of.Reads as outline-of-reads

pub ring_positions_law : Determined ring-positions-reads.Learnt
ring_positions_law κ a r r' e e' p q = p.0 ∙ sym q.0

pub doubled_area_law : Determined doubled-area-reads.Learnt
doubled_area_law κ a r r' e e' p q = p ∙ sym q

pub outline_of : Determined outline-of-reads.Learnt
outline_of κ a r r' e e' p q = p.0 ∙ sym q.0

-- the positions in any two lent numbers that keep the same ones
pub one_kept : (m m' : List ℤ) (l : List I32Point) (n : ℕ) → ok n ≡ few_enough l → Keeps m l → Keeps m' l → points_in m n ≡ points_in m' n
one_kept m m' l n e p q = (stands_there m l n e p).0 ∙ sym (stands_there m' l n e q).0
