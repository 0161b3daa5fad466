-- Nothing here need be believed: the code's own steps cite it, and no public promise does.
-- Assumes nothing.
use Rattle.std.specs.Prelude.{ℕ, ◌+◌, ◌≤◌, Bool, List, length}
use Rattle.std.specs.declared.option.Option.{Option}
use Rattle.std.specs.declared.option.Option.TheVariants.{None, Some}
use Rattle.answer.specs.Answers.{Answer, ok, refused}
use Rattle.answer.specs.Walks.{Walk, broken, on, off}
use Rattle.reader_records.specs.Records.{group_in}
use Rattle.reader_groups.specs.Groups.{One}
use Rattle.reader_rings.specs.declared.Turned.{Turned}
use Rattle.reader_rings.specs.declared.Round.{Round}
use Rattle.reader_rings.specs.Rings.{turn_of}
use Rattle.opened.specs.Widths.{group_wide}

-- past a group, where w is the walk through its chunks
abbrev pub beside_told : Option Bool → Walk One → Walk One
beside_told (Some b) w = off b tt
beside_told None w = w

-- how many points are counted after a step, where it goes on
abbrev pub sum_after : ℕ → Walk Round → ℕ
sum_after d (broken r) = d
sum_after d on = d
sum_after d (off b z) = z.sum

-- what the code says of an op by its word and its group's place, where all the group's bytes are
abbrev pub leg_told : List ℕ → Answer (ℕ × ℕ) → Answer Turned
leg_told s (ok t) = ok (turn_of t.0 (group_in s t.1))
leg_told s (refused k) = refused k

abbrev pub LegRoom : List ℕ → Answer (ℕ × ℕ) → Type 0
LegRoom s (ok t) = t.1 + group_wide ≤ length s
LegRoom s (refused k) = One
