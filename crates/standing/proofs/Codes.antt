-- Laws of tzb_codes/specs/Codes.
-- Assumes nothing.
use Prim.Native.Nat.{ℕ, ◌≤◌, ◌<◌}
use native.Mathlib.Omega.{arith}
use mathlib.Core.Path.{◌≡◌, refl, ap}
use lib.IntN.{pos, negsuc}
use borrow.Author.Tests.{lt-ltb, le-ltb}
use Rattle.answer.specs.declared.Refusal.{Refusal}
use Rattle.answer.specs.Answers.{ok}
use Rattle.tzb_codes.specs.Codes.{number_code, whole_code, place_code}

-- a number is told as it is
pub number_told : (n : ℕ) → pos n ≡ number_code (ok n)
number_told n = refl

-- a length or a count that is more than a number of 64 bits holds
pub whole_long : (n : ℕ) → 0x8000_0000_0000_0000 ≤ n → pos 0x7fff_ffff_ffff_ffff ≡ whole_code n
whole_long n h = ap pos (omega arith)

-- ---- places
module _ (r : Refusal) where
  pub place_told : r.place < 0x8000_0000_0000_0000 → pos r.place ≡ place_code r
  unfolding place_code
  place_told h = rw (lt-ltb r.place 0x8000_0000_0000_0000 h)

  pub place_none : 0x8000_0000_0000_0000 ≤ r.place → negsuc 0 ≡ place_code r
  unfolding place_code
  place_none h = rw (le-ltb r.place 0x8000_0000_0000_0000 h)
