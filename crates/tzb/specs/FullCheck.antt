-- Document 01, "What the full check demands" and 47: the whole. The rules F2 to F6 stand in reader_check; F1 is that opening accepts.
-- Assumes nothing.
use Rattle.std.specs.Prelude.{ℕ, List}
use Rattle.reader_check.specs.FullCheck as Rules
use Rattle.tzb.specs.Opening.{open_of}
use Rattle.replies.specs.Replies.{Outcome}

-- accepted; opening's number where F1 is broken; else 47 with the lowest broken rule
unfoldable pub full_check_of : List ℕ → Outcome
full_check_of file = Rules.check_of (open_of file) file
