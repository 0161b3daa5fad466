-- Document 01, "Opening, in this order", 1 to 11.
-- Assumes nothing.
use Rattle.std.specs.Prelude.{ℕ, ◌+◌, ◌-◌, ◌*◌, ◌≤◌, Bool, ◌&&◌, ◌||◌, not, ltb, leb, eqb, List, [], ◌∷◌, length, get_or, take}
use Rattle.fields.specs.Part.{part}
use Rattle.fields.specs.Le.{le}
use Rattle.utf8.specs.Rfc3629.{utf8}
use Rattle.checksum.specs.Crc32.{crc32}
use Rattle.answer.specs.Answers.{Check}
use Rattle.answer.specs.Checks.{claim, deny, first, seek, at_most, same}
use Rattle.std.specs.List.{starts_with}

-- "TZFB"
abbrev pub tzfb : List ℕ
tzfb = 84 ∷ 90 ∷ 70 ∷ 66 ∷ []

-- Size 68 to 4,294,967,295 (1). The first four bytes are "TZFB" and byte 4 is 1 (2). Byte 48: 0 goes on, 1 is 3, else 4.
unfoldable pub start_check : List ℕ → Check
start_check s =
    first
    (deny 1 (ltb (length s) 68 || ltb 4_294_967_295 (length s))
    ∷ claim 2 (starts_with eqb s tzfb)
    ∷ claim 2 (same (get_or s 4 0) 1)
    ∷ deny 3 (same (get_or s 48 0) 1)
    ∷ claim 4 (eqb (get_or s 48 0) 0)
    ∷ [])

-- from 1 to 65,535
unfoldable pub is_count : ℕ → Bool
is_count n = leb 1 n && leb n 65_535

-- The u16 at 6 is 64, the u32 at 12 is 100,000, the u32 at 16 is the size (5). Zone count at 40, 1 to 65,535 (6). Chunk target at 44, same range (7).
unfoldable pub fields_check : List ℕ → Check
fields_check s =
    first
    (deny 5 (not (eqb (le 2 s 6) 64) || (not (eqb (le 4 s 12) 100_000) || not (eqb (le 4 s 16) (length s))))
    ∷ claim 6 (is_count (le 4 s 40))
    ∷ claim 7 (is_count (le 4 s 44))
    ∷ [])

-- Version at 24 to 39: zero from its first zero byte on (8), UTF-8 before it (9).
unfoldable pub is_zero : List ℕ → ℕ → Bool
is_zero s i = same (get_or s i 0) 0

unfoldable pub not_zero : List ℕ → ℕ → Bool
not_zero s i = not (same (get_or s i 0) 0)

unfoldable pub version_end : List ℕ → ℕ
version_end s = seek (is_zero s) 16 24

unfoldable pub version_check : List ℕ → Check
version_check s =
    first
    (claim 8 (same (seek (not_zero s) (40 - version_end s) (version_end s)) 40)
    ∷ claim 9 (utf8 [] (part s 24 (version_end s)))
    ∷ [])

-- Section count at 20; entries of 16 bytes from 64 end before the last four bytes (10). Those four hold the IEEE 802.3 CRC-32 of all before them (11).
unfoldable pub bounds_check : List ℕ → Check
bounds_check s =
    first
    (claim 10 (at_most (64 + 16 * le 4 s 20) (length s - 4))
    ∷ claim 11 (same (crc32 (take (length s - 4) s)) (le 4 s (length s - 4)))
    ∷ [])

unfoldable pub head_check : List ℕ → Check
head_check s = first (start_check s ∷ fields_check s ∷ version_check s ∷ bounds_check s ∷ [])

-- what the parts after it know of a file whose head is fine
pub record Headed (s : List ℕ) : Type 0 where
  pub long : 68 ≤ length s
  pub short : length s ≤ 4_294_967_295
  pub table : 64 + 16 * le 4 s 20 ≤ length s - 4
