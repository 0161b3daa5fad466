-- Document 01, "GRID": a cell's word.
-- Assumes nothing.
use Rattle.std.specs.Prelude.{ℕ, ◌+◌, ◌/◌, ◌%◌}
use Rattle.answer.specs.Answers.{Check}
use Rattle.answer.specs.Checks.{claim, at_most}

-- A word's top 4 bits are the count, the low 28 the offset;
abbrev pub word_count : ℕ → ℕ
word_count word = word / 0x1000_0000

abbrev pub word_offset : ℕ → ℕ
word_offset word = word % 0x1000_0000

-- offset + count equal to the total is accepted. Cell by cell: 30
unfoldable pub range_check : ℕ → ℕ → Check
range_check word total = claim 30 (at_most (word_offset word + word_count word) total)
