-- Nothing here need be believed: the code's own steps cite it, and no public promise does.
-- Assumes nothing.
use Rattle.std.specs.Prelude.{ℕ, ◌<◌, List, length}
use Rattle.reader_opened.specs.declared.Sections.{Sections}
use Rattle.opened.specs.Within.{Within}

-- the sections that opening reads lie within the file
pub record Placed (s : List ℕ) (p : Sections) : Type 0 where
  pub names : Within s p.names
  pub grid : Within s p.gridpart
  pub groups : Within s p.groupdir
  pub chunks : Within s p.chunkdir
  pub small : length s < 4_294_967_296
