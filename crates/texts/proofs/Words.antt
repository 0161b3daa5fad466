-- Several bytes at once: where the numbers of both names' next bytes are equal, so are the bytes, and the rests compare as the names do.
-- Assumes nothing.
use Prim.Native.Nat.{ℕ, zero, suc, ◌+◌, ◌≤◌, ◌<◌}
use native.Mathlib.Nat.{add-zero}
use native.Mathlib.Omega.{arith}
use mathlib.Core.Path.{◌≡◌, ap, ◌∙◌}
use mathlib.Core.List.{List}
use lib.ListN.{length, drop, get_or}
use Rattle.fields.specs.Le.{le}
use Rattle.texts.proofs.Bytes.{before_on}
use Rattle.texts.specs.Spelled.{comes_before}

-- two names, whose elements are bytes
module _ (a b : List ℕ) (bytes-a : (i : ℕ) → get_or a i 0 < 256) (bytes-b : (i : ℕ) → get_or b i 0 < 256) where
  -- past n equal bytes
  pub words_on : (n i : ℕ) → i + n ≤ length a → i + n ≤ length b → le n a i ≡ le n b i
      → comes_before (drop (i + n) a) (drop (i + n) b) ≡ comes_before (drop i a) (drop i b)
  unfolding le
  words_on zero i h k e = ap (λ (j : ℕ). comes_before (drop j a) (drop j b)) (add-zero i)
  words_on (suc n) i h k e =
      let q : i + suc n ≡ i + 1 + n = omega arith in
      let x = bytes-a i in
      let y = bytes-b i in
      ap (λ (j : ℕ). comes_before (drop j a) (drop j b)) q
      ∙ words_on n (i + 1) (omega arith) (omega arith) (omega arith)
      ∙ before_on a b i (omega arith) (omega arith) (omega arith)
