-- The question for a zone's name, for any opened record, any bytes and any zone number. Document 01, "Names" and "Refusal numbers".
-- Assumes nothing.
use Rattle.std.specs.Prelude.{ℕ, ◌+◌, ◌*◌, List, [], length}
use Rattle.fields.specs.Part.{part}
use Rattle.answer.specs.Answers.{Answer, ok, refused, need, ◌then◌}
use Rattle.answer.specs.Checks.{at_most, below}
use Rattle.opened.specs.declared.Opened.{Opened}
use Rattle.reader_names.specs.Names.{edge}

-- Where the name stands in the file: a zone number too large is 45, the two offsets past the end 44, a name that ends before it starts 23, its bytes past the end 44.
unfoldable pub bounds_at : List ℕ → ℕ → ℕ → ℕ → Answer (ℕ × ℕ)
bounds_at s at n zone =
    need 45 (below zone n)
    (need 44 (at_most (at + 4 + 4 * zone + 8) (length s))
    (need 23 (at_most (edge s at n zone) (edge s at n (zone + 1)))
    (need 44 (at_most (edge s at n (zone + 1)) (length s))
    (ok (edge s at n zone, edge s at n (zone + 1))))))

-- A name is handed back as that part of the lent file.
abbrev pub part_at : List ℕ → ℕ × ℕ → Answer (List ℕ)
part_at s b = ok (part s b.0 b.1)

unfoldable pub name_at : Opened → List ℕ → ℕ → Answer (List ℕ)
name_at o s zone = bounds_at s o.names.off o.zones.count zone then part_at s

-- empty if refused
abbrev pub or_empty : Answer (List ℕ) → List ℕ
or_empty (ok name) = name
or_empty (refused k) = []

unfoldable pub name_or : Opened → List ℕ → ℕ → List ℕ
name_or o s zone = or_empty (name_at o s zone)

-- That part begins so many bytes into the lent file: at the name's first, at the file's own where it is refused.
abbrev pub or_start : Answer (ℕ × ℕ) → ℕ
or_start (ok b) = b.0
or_start (refused k) = 0

unfoldable pub name_from : Opened → List ℕ → ℕ → ℕ
name_from o s zone = or_start (bounds_at s o.names.off o.zones.count zone)

-- the place n bytes behind another: a place is a block of memory and how far into it
unfoldable pub behind : ℕ × ℕ → ℕ → ℕ × ℕ
behind place n = (place.0, n + place.1)

-- A second question gives its number or 0.
unfoldable pub refusal_of : Answer (List ℕ) → ℕ
refusal_of (ok name) = 0
refusal_of (refused k) = k.number
