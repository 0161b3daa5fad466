-- Any two answers that a promise allows are equal: stated over the contract itself.
-- Assumes nothing.
use mathlib.Core.Path.{sym, ◌∙◌}
use Rattle.basics.specs.Determined.{Determined}
use Rattle.reader_room.proofs.has_room.Reads as has-room-reads

pub has_room_law : Determined has-room-reads.Learnt
has_room_law κ a r r' e e' p q = p ∙ sym q
