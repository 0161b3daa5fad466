-- Nothing here need be believed: the code's own steps cite it, and no public promise does.
-- Assumes nothing.
use Rattle.answer.specs.Answers.{Answer, no, ◌then◌}
use Rattle.entries.specs.Entry.{Entry}

-- what is refused where there is no room for a position: the bytes' own refusal first
abbrev pub unread : Answer Entry → Answer Entry
unread x = x then λ e. no 46
