-- `write_hits` meets its contract: from the zones kept, or by asking again.
-- Assumes nothing.
use Rattle.reader_listing.proofs.Placed.{from_again}
use Rattle.reader_listing.proofs.write_hits.Goals as goal

pub returns-else-out-held : goal.returns-else-out-held
returns-else-out-held c = from_again _ _ _ _ c.requires c.gather.ensures.memory
