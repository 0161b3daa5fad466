-- Laws of specs/All, as proofs cite them. Nothing here need be believed.
-- Assumes nothing.
use Prim.Native.Nat.{ℕ, suc, ◌+◌, ◌-◌, ◌≤◌, ◌<◌}
use native.Mathlib.Omega.{arith}
use mathlib.Core.Path.{◌≡◌}
use mathlib.Core.Bool.{Bool, true, false}
use Rattle.plane.specs.Runs.{run, every_run, run_every}
use Rattle.reader_cover.specs.All.{all}

-- a loop from j on, up to `to`: what is left passes as the whole does
module _ (P : ℕ → Bool) where
  pub all_start : (to from n b : ℕ) → from ≡ b → to ≡ b + n → all P (to - from) from ≡ all P n b
  all_start to from n b e f =
      let g : to - from ≡ n = omega arith in
      rw (g, e)

  module _ (to j : ℕ) (whole : Bool) (inv : all P (to - j) j ≡ whole) where
    pub all_yes : j < to → P j ≡ true → all P (to - (j + 1)) (j + 1) ≡ whole
    unfolding all run
    all_yes h k =
        let e : to - j ≡ suc (to - (j + 1)) = omega arith in
        rw (e, k) at inv

    pub all_no : j < to → P j ≡ false → false ≡ whole
    unfolding all run
    all_no h k =
        let e : to - j ≡ suc (to - (j + 1)) = omega arith in
        rw (e, k) at inv

    pub all_end : to ≤ j → true ≡ whole
    unfolding all run
    all_end h =
        let e : to - j ≡ 0 = omega arith in
        rw e at inv

  -- each of them
  pub all_at : (n b : ℕ) → all P n b ≡ true → (j : ℕ) → b ≤ j → j < b + n → P j ≡ true
  unfolding all
  all_at n b h = every_run P (λ j. j) n b h

  pub at_all : (n b : ℕ) → ((j : ℕ) → b ≤ j → j < b + n → P j ≡ true) → all P n b ≡ true
  unfolding all
  at_all n b h = run_every P (λ j. j) n b h
