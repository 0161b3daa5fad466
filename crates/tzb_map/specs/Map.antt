-- Document 02, request 2026-01: a zone of a file as GeoJSON text, with every refusal.
-- "Refusals: the full check's first, 45, then 48 for a ring of under four positions, over 10,000, or zero area, then 46."
-- Assumes nothing.
use Rattle.std.specs.Prelude.{ℕ, List, length}
use Rattle.answer.specs.Answers.{Answer, ok, refused, ◌then◌}
use Rattle.opened.specs.declared.Opened.{Opened}
use Rattle.replies.specs.Replies.{Outcome, accepted, refused_by, broken_at, Drawn, drawn, undrawn, unsound}
use Rattle.reader_map.specs.Map.{zone_text, in_room}
use Rattle.tzb.specs.Opening.{open_of}
use Rattle.tzb.specs.FullCheck.{full_check_of}

-- "the full check's first": an answer stands where the full check accepts the file; else its refusal does, opening's, or 47 with the rule
abbrev pub upheld : {A : Type 0} → Outcome → Answer A → Drawn A
upheld accepted (ok a) = drawn a
upheld accepted (refused k) = undrawn k
upheld (refused_by k) x = undrawn k
upheld (broken_at k rule) x = unsound k rule

-- the text: 45, then 48
unfoldable pub map_of : List ℕ → ℕ → Drawn (List ℕ)
map_of file zone = upheld (full_check_of file) (open_of file then λ o. zone_text o file zone)

-- the same where so many bytes are lent: then 46
unfoldable pub map_in : List ℕ → ℕ → ℕ → Drawn (List ℕ)
map_in file zone room = upheld (full_check_of file) (open_of file then λ o. in_room room (zone_text o file zone))

-- the file opened, where the full check accepts it
unfoldable pub accepted_of : List ℕ → Drawn Opened
accepted_of file = upheld (full_check_of file) (open_of file)

-- how many bytes it has
abbrev pub how_long : Drawn (List ℕ) → Drawn ℕ
how_long (drawn t) = drawn (length t)
how_long (undrawn k) = undrawn k
how_long (unsound k rule) = unsound k rule

-- the same as an answer, the rule left out: lent memory after it is `left` (answer/specs/Answers)
abbrev pub as_answer : {A : Type 0} → Drawn A → Answer A
as_answer (drawn a) = ok a
as_answer (undrawn k) = refused k
as_answer (unsound k rule) = refused k
