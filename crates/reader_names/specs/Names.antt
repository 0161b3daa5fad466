-- Document 01, "Names", 21 to 26: n names in len bytes from at on. Blob length, zone count + 1 offsets, blob.
-- Assumes nothing.
use Rattle.std.specs.Prelude.{ℕ, zero, suc, ◌+◌, ◌*◌, Bool, ◌&&◌, ◌||◌, not, List, [], ◌∷◌, ltb, eqb, length}
use Rattle.fields.specs.Le.{le}
use Rattle.fields.specs.Part.{part}
use Rattle.utf8.specs.Rfc3629.{utf8}
use Rattle.answer.specs.Answers.{Check}
use Rattle.answer.specs.Checks.{claim, deny, first, each, seek, at_most, same}
use Rattle.reader_head.specs.Head.{is_zero}

abbrev pub blob_len : List ℕ → ℕ → ℕ
blob_len s at = le 4 s at

abbrev pub offset_at : List ℕ → ℕ → ℕ → ℕ
offset_at s at i = le 4 s (at + 4 + 4 * i)

-- Length below 8 + 4 × zone count is 21; a sum that differs is 22.
unfoldable pub shape_check : List ℕ → ℕ → ℕ → ℕ → Check
shape_check s at len n = first (claim 21 (at_most (8 + 4 * n) len) ∷ claim 22 (same (8 + 4 * n + blob_len s at) len) ∷ [])

-- For each offset: below the one before, above the blob length, or last and not the blob length, 23; equal to the one before, 24.
abbrev pub misplaced : ℕ → ℕ → ℕ → ℕ → ℕ → Bool
misplaced i n prev off blob = ltb off prev || (ltb blob off || (eqb i n && not (eqb off blob)))

abbrev pub empty : ℕ → ℕ → ℕ → Bool
empty i prev off = ltb 0 i && eqb off prev

unfoldable pub offset_rule : ℕ → ℕ → ℕ → ℕ → ℕ → Check
offset_rule i n prev off blob = first (deny 23 (misplaced i n prev off blob) ∷ deny 24 (empty i prev off) ∷ [])

-- The first offset has none before, and may be above 0.
unfoldable pub prior : List ℕ → ℕ → ℕ → ℕ
prior s at zero = 0
prior s at (suc i) = offset_at s at i

unfoldable pub offset_check : List ℕ → ℕ → ℕ → ℕ → Check
offset_check s at n i = offset_rule i n (prior s at i) (offset_at s at i) (blob_len s at)

-- Where the i-th name begins, and the one before it ends: counted from the blob's first byte.
abbrev pub edge : List ℕ → ℕ → ℕ → ℕ → ℕ
edge s at n i = at + 8 + 4 * n + offset_at s at i

abbrev pub text : List ℕ → ℕ → ℕ → ℕ → List ℕ
text s at n i = part s (edge s at n i) (edge s at n (i + 1))

-- Then each name: UTF-8 by RFC 3629 (25), no zero byte (26).
unfoldable pub text_check : List ℕ → Check
text_check name = first (claim 25 (utf8 [] name) ∷ claim 26 (same (seek (is_zero name) (length name) 0) (length name)) ∷ [])

unfoldable pub text_at : List ℕ → ℕ → ℕ → ℕ → Check
text_at s at n i = text_check (text s at n i)

unfoldable pub names_check : List ℕ → ℕ → ℕ → ℕ → Check
names_check s at len n =
    first (shape_check s at len n ∷ each (offset_check s at n) (n + 1) 0 ∷ each (text_at s at n) n 0 ∷ [])
