-- `contents` meets its contract: the directories lie in the file.
-- Assumes nothing.
use Rattle.tzb.proofs.OpeningLaws.{room}
use Rattle.tzb.proofs.Parts.contents.Goals as goal

pub chunks-requires : goal.chunks-requires
chunks-requires c = rw c.requires (room _ _ _ c.args.self.placed)

pub groups-requires : goal.groups-requires
groups-requires c = rw c.requires (room _ _ _ c.args.self.placed)
