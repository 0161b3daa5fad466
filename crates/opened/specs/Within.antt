-- When a section lies in the file.
-- Assumes nothing.
use Rattle.std.specs.Prelude.{ℕ, ◌+◌, ◌≤◌, List, length}
use Rattle.opened.specs.declared.Section.{Section}

-- a section lies in the file
pub record Within (s : List ℕ) (p : Section) : Type 0 where
  pub fits : p.off + p.len ≤ length s
