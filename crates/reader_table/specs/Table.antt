-- Document 01, "Opening, in this order", the section table: 12 to 16.
-- Assumes nothing.
use Rattle.std.specs.Prelude.{ℕ, ◌+◌, ◌-◌, ◌*◌, ◌%◌, Bool, true, false, List, [], ◌∷◌, length}
use Rattle.fields.specs.Le.{le}
use Rattle.answer.specs.Answers.{Check}
use Rattle.answer.specs.Checks.{claim, deny, first, each, seek, at_most, below, same, both, either}
use Rattle.opened.specs.declared.Section.{Section}

-- entries of 16 bytes from 64: type, offset, length, four unread
abbrev pub sections : List ℕ → ℕ
sections s = le 4 s 20

abbrev pub entry_field : List ℕ → ℕ → ℕ → ℕ
entry_field s i k = le 4 s (64 + 16 * i + k)

abbrev pub type_at : List ℕ → ℕ → ℕ
type_at s i = entry_field s i 0

abbrev pub off_at : List ℕ → ℕ → ℕ
off_at s i = entry_field s i 4

abbrev pub len_at : List ℕ → ℕ → ℕ
len_at s i = entry_field s i 8

unfoldable pub is_type : List ℕ → ℕ → ℕ → Bool
is_type s t i = same (type_at s i) t

-- one of the first n entries has type t
unfoldable pub has : List ℕ → ℕ → ℕ → Bool
has s t n = below (seek (is_type s t) n 0) n

-- types 1 to 14 not seen before (14)
unfoldable pub repeats : List ℕ → ℕ → ℕ → Bool
repeats s t i = both (at_most 1 t) (both (at_most t 14) (has s t i))

-- of these, 1 to 10 allowed (15)
unfoldable pub banned : ℕ → Bool
banned t = both (at_most 11 t) (at_most t 14)

-- no byte shared, an empty part sharing none: m bytes from a, n bytes from b
unfoldable pub apart : ℕ → ℕ → ℕ → ℕ → Bool
apart a m b n = either (same m 0) (either (same n 0) (either (at_most (a + m) b) (at_most (b + n) a)))

unfoldable pub apart_at : List ℕ → ℕ → ℕ → Check
apart_at s i j = claim 16 (apart (off_at s i) (len_at s i) (off_at s j) (len_at s j))

-- Offset divisible by 4 (12); offset not before the table's end, end not past size less 4 (13);
unfoldable pub placed_check : List ℕ → ℕ → Check
placed_check s i =
    first
    (claim 12 (same (off_at s i % 4) 0)
    ∷ claim 13 (at_most (64 + 16 * sections s) (off_at s i))
    ∷ claim 13 (at_most (off_at s i + len_at s i) (length s - 4))
    ∷ [])

-- types 1 to 14 not seen before (14); of these, 1 to 10 allowed (15);
unfoldable pub typed_check : List ℕ → ℕ → Check
typed_check s i = first (deny 14 (repeats s (type_at s i) i) ∷ deny 15 (banned (type_at s i)) ∷ [])

-- no byte shared with an earlier entry (16).
unfoldable pub entry_check : List ℕ → ℕ → Check
entry_check s i = first (placed_check s i ∷ typed_check s i ∷ each (apart_at s i) i 0 ∷ [])

-- Each entry in turn.
unfoldable pub entries_check : List ℕ → Check
entries_check s = each (entry_check s) (sections s) 0

-- the section with type t: 0 and 0 where there is none
abbrev pub pick_section : Bool → Section → Section → Section
pick_section true a b = a
pick_section false a b = b

unfoldable pub entry_at : List ℕ → ℕ → Section
entry_at s k = record { off = off_at s k; len = len_at s k }

unfoldable pub section_of : List ℕ → ℕ → Section
section_of s t = pick_section (has s t (sections s)) (entry_at s (seek (is_type s t) (sections s) 0)) (record { off = 0; len = 0 })
