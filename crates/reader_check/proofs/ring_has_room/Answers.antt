-- `reader_check::ring_has_room` meets its contract: the ring, then the count of its segments.
-- Assumes nothing.
use mathlib.Core.Path.{◌≡◌, ◌∙◌}
use Rattle.std.proofs.Common.{rules}
use Rattle.answer.specs.Answers.{holds}
use Rattle.reader_records.specs.Records.{ring_at}
use Rattle.reader_room.specs.Steps.{room_of}
use Rattle.reader_check.proofs.Rooms.{rooms_read}
use Rattle.reader_check.proofs.ring_has_room.Goals as goal

pub returns : goal.returns
unfolding holds
returns c =
    let a = c.args in
    let k : c.is_ok_and.result ≡ holds (λ v. holds (λ b. b) (room_of a.o a.s.now v)) (ring_at a.o a.s.now a.index) = search rules in
    k ∙ rooms_read a.o a.s.now c.requires.0 c.requires.1 a.index
