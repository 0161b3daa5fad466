-- The blocks that a slice is cut into: the k-th is the n bytes from n * k on.
-- Assumes nothing.
use mathlib.Core.Path.{◌≡◌, ap, ◌∙◌}
use mathlib.Core.List.{List}
use Prim.Native.Nat.{ℕ, zero, suc, ◌+◌, ◌*◌, ◌<◌}
use native.Mathlib.Omega.{arith}
use lib.ListN.{get_or, take, drop}
use lib.Seq.{drop-drop}
use Rattle.std.specs.Simd.{first_chunks}

first_at : {A : Type 0} (n m k : ℕ) (xs d : List A) → k < m → get_or (first_chunks n m xs) k d ≡ take n (drop (k * n) xs)
first_at n zero k xs d h = absurd (omega arith)
first_at n (suc m) zero xs d h = let e : 0 ≡ 0 * n = omega arith in ap (λ (i : ℕ). take n (drop i xs)) e
first_at n (suc m) (suc k) xs d h =
    let e : n + k * n ≡ suc k * n = omega arith in
    first_at n m k (drop n xs) d (omega arith) ∙ ap (take n) (drop-drop (k * n) n xs) ∙ ap (λ (i : ℕ). take n (drop i xs)) e

pub block_at : {A : Type 0} (n : ℕ) (xs : List A) (m k : ℕ) (d : List A) {l : List (List A)} → l ≡ first_chunks n m xs → k < m → get_or l k d ≡ take n (drop (k * n) xs)
block_at n xs m k d e h = ap (λ l. get_or l k d) e ∙ first_at n m k xs d h
