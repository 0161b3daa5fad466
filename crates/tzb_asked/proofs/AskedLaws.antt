-- Laws of specs/Asked, as proofs cite them. Nothing here need be believed.
-- Assumes nothing.
use Prim.Native.Nat.{ℕ, ◌≤◌}
use native.Mathlib.Omega.{arith}
use mathlib.Core.Path.{◌≡◌, refl}
use mathlib.Core.List.{List, [], ◌∷◌}
use lib.ListN.{length, set, drop}

pub two_set : (out : List ℕ) (from to : ℕ) → 2 ≤ length out → set (set out 0 from) 1 to ≡ from ∷ to ∷ drop 2 out
two_set [] from to h = absurd (omega arith)
two_set (x ∷ []) from to h = absurd (omega arith)
two_set (x ∷ y ∷ l) from to h = refl
