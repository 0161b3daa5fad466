-- Document 01, "Chunk bytes": Protocol Buffers' sint32 ("Encoding", base 128 varints and zigzag), in one to five bytes, read from place p of the bytes s.
-- Assumes nothing.
use Rattle.std.specs.Prelude.{ℕ, zero, suc, ◌+◌, ◌-◌, ◌*◌, ◌/◌, ◌%◌, List, [], ◌∷◌, Bool, true, false, ◌||◌, not, cond, length, get_or, ltb, leb, eqb, ℤ, pos, negsuc}
use Rattle.answer.specs.Answers.{Answer, ok, ◌then◌, need, about}

-- zigzag: 0, -1, 1, -2, .. are 0, 1, 2, 3, ..
abbrev pub zig : ℤ → ℕ
zig (pos k) = 2 * k
zig (negsuc k) = 2 * k + 1

abbrev pub unzig : ℕ → ℤ
unzig n = cond (eqb (n % 2) 0) (pos (n / 2)) (negsuc (n / 2))

-- a last byte and the place after it: zero is 39 unless it is the only byte
abbrev pub last : Bool → ℕ → ℕ → Answer (ℕ × ℕ)
last only b q = need 39 (only || not (eqb b 0)) (ok (b, q))

-- a number n below the digits that follow, whose unit is u
abbrev pub below : ℕ → ℕ → Answer (ℕ × ℕ) → Answer (ℕ × ℕ)
below n u x = x then λ t. ok (n + u * t.0, t.1)

-- the digits from p on, least significant first, and the place after them; k more may follow the first. `only`: no byte of the number stands before p.
-- No byte left is 38. A fifth byte above 15 is 40: it has one of the bits 0xf0 (`top_bits`, in proofs/Unreadable).
unfoldable pub digits : ℕ → Bool → List ℕ → ℕ → Answer (ℕ × ℕ)
digits zero only s p =
    need 38 (ltb p (length s))
    (need 40 (leb (get_or s p 0) 15)
    (last only (get_or s p 0) (p + 1)))
digits (suc k) only s p =
    need 38 (ltb p (length s))
    (cond (ltb (get_or s p 0) 128)
    (last only (get_or s p 0) (p + 1))
    (below (get_or s p 0 - 128) 128 (digits k false s (p + 1))))

abbrev pub signed : Answer (ℕ × ℕ) → Answer (ℤ × ℕ)
signed x = x then λ t. ok (unzig t.0, t.1)

-- the number at p, and the place after it. Document 02, request 2026-06: a refusal has "the place [..] of the first byte of the number that was being read".
unfoldable pub number_at : List ℕ → ℕ → Answer (ℤ × ℕ)
number_at s p = about p (signed (digits 4 true s p))

-- no byte is left over: the place is the one after the last byte
abbrev pub at_end : List ℕ → ℕ → Bool
at_end s p = eqb p (length s)

-- the shortest digits of n, of which k more may follow the first
unfoldable pub shortest_digits : ℕ → ℕ → List ℕ
shortest_digits zero n = n ∷ []
shortest_digits (suc k) n = cond (ltb n 128) (n ∷ []) ((n % 128 + 128) ∷ shortest_digits k (n / 128))

-- the shortest encoding of z
unfoldable pub encode : ℤ → List ℕ
encode z = shortest_digits 4 (zig z)
