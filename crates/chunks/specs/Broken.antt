-- Document 02, request 2026-06, "Say where the chunk is broken": what each of the refusals 38 to 43 is about, row by row.
-- `count` points are asked of the bytes s, from place p on: of a chunk's own bytes from 0 on, or of the file's bytes up to the chunk's end from the chunk's start on (`broken_file`, reader_chunks/proofs/Places, leads from the one to the other). The walk along a chunk's points is refused by a row and by nothing else, but for 32 where the count is 0 (`walk_so`, in proofs/Breaking); where a row stands, the walk comes to its refusal (`row_stops`), so at most one refusal has a row (`one_row`).
-- Assumes nothing.
use Rattle.std.specs.Prelude.{ℕ, zero, suc, ◌≤◌, ◌<◌, ◌≡◌, true, false, List, ◌⊎◌, ℤ, pos, ◌+ℤ◌}
use Rattle.answer.specs.declared.Refusal.{Refusal}
use Rattle.answer.specs.Refusals.{refusal, placed_at}
use Rattle.answer.specs.Answers.{Answer, ok, refused, ◌then◌}
use Rattle.plane.specs.declared.I32Point.{I32Point}
use Rattle.plane.specs.Domain.{in_domain}
use Rattle.plane.specs.Places.{point}
use Rattle.varints.specs.Varint.{number_at, at_end}
use Rattle.chunks.specs.Delta.{fits32}
use Rattle.chunks.specs.Points.{first_from, next_at}

-- after n points: the last of them, and the place after it; before the first, where it starts
unfoldable pub reached : List ℕ → ℕ → ℕ → Answer (I32Point × ℕ)
reached s p zero = ok (point (pos 0) (pos 0), p)
reached s p (suc zero) = first_from s p
reached s p (suc (suc n)) = reached s p (suc n) then λ t. next_at s t.0 t.1

-- the numbers x and y that stand after n points, of which q is the last: x at k, y at j
pub record Numbers (s : List ℕ) (p n : ℕ) (q : I32Point) (k : ℕ) (x : ℤ) (j : ℕ) (y : ℤ) (m : ℕ) : Type 0 where
  pub behind : ok (q, k) ≡ reached s p n
  pub first : ok (x, j) ≡ number_at s k
  pub second : ok (y, m) ≡ number_at s j

pub data Broken (s : List ℕ) (p count : ℕ) (r : Refusal) : Type 0 where
  -- 38, 39, 40: after n points, x cannot be read. A number's refusal has the place of its first byte, which for 38 may be the end
  x_unread : (n : ℕ) (q : I32Point) (k : ℕ) → n < count → ok (q, k) ≡ reached s p n → refused r ≡ number_at s k → Broken s p count r
  -- the same of y
  y_unread : (n : ℕ) (q : I32Point) (k : ℕ) → n < count → ok (q, k) ≡ reached s p n → (x : ℤ) (j : ℕ) → ok (x, j) ≡ number_at s k → refused r ≡ number_at s j → Broken s p count r
  -- 41, of a delta: "names the number whose sum left i32", x before y
  x_over : (n : ℕ) (q : I32Point) (k : ℕ) (x : ℤ) (j : ℕ) (y : ℤ) (m : ℕ) → suc n < count → Numbers s p (suc n) q k x j y m → fits32 (q.x +ℤ x) ≡ false → r ≡ placed_at k (refusal 41) → Broken s p count r
  y_over : (n : ℕ) (q : I32Point) (k : ℕ) (x : ℤ) (j : ℕ) (y : ℤ) (m : ℕ) → suc n < count → Numbers s p (suc n) q k x j y m → fits32 (q.x +ℤ x) ≡ true → fits32 (q.y +ℤ y) ≡ false → r ≡ placed_at j (refusal 41) → Broken s p count r
  -- 42: names "the y number", also where x alone is outside: of the first point, which is whole, and of one that a delta leads to
  first_outside : (q : I32Point) (k : ℕ) (x : ℤ) (j : ℕ) (y : ℤ) (m : ℕ) → 0 < count → Numbers s p 0 q k x j y m → in_domain (point x y) ≡ false → r ≡ placed_at j (refusal 42) → Broken s p count r
  outside : (n : ℕ) (q : I32Point) (k : ℕ) (x : ℤ) (j : ℕ) (y : ℤ) (m : ℕ) → suc n < count → Numbers s p (suc n) q k x j y m → fits32 (q.x +ℤ x) ≡ true → fits32 (q.y +ℤ y) ≡ true → in_domain (point (q.x +ℤ x) (q.y +ℤ y)) ≡ false → r ≡ placed_at j (refusal 42) → Broken s p count r
  -- 43, after all points: the place "of the first byte left over"
  left_over : (n : ℕ) (q : I32Point) (k : ℕ) → suc n ≡ count → ok (q, k) ≡ reached s p (suc n) → at_end s k ≡ false → r ≡ placed_at k (refusal 43) → Broken s p count r

-- a refusal's number, of a first point alone. Document 01, "Asking": "Reading a chunk's first point alone gives 37 to 40 or 42, never 43" (37 is of the chunk's range, and not of its bytes)
abbrev pub OfFirst : ℕ → Type 0
OfFirst n = (n ≤ 40) ⊎ (n ≡ 42)

-- n points are asked of a chunk of `count`, and the number r refuses them: all, or the first alone
abbrev pub Asks : ℕ → ℕ → ℕ → Type 0
Asks count n r = (n ≡ count) ⊎ ((n ≡ 1) × OfFirst r)
