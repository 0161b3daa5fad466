-- The order of two names from byte i on, as the code compares them.
-- Assumes nothing.
use Prim.Native.Nat.{ℕ, ◌≤◌, ◌<◌}
use native.Mathlib.Omega.{arith}
use mathlib.Core.Path.{◌≡◌, refl}
use mathlib.Core.Bool.{true, false}
use mathlib.Core.List.{List, [], ◌∷◌}
use borrow.Author.Tests.{lt-ltb, le-ltb, ne_eqb}
use lib.ListN.{length, drop, get_or, drop_of_length-le}
use lib.Seq.{drop-cons}
use Rattle.texts.specs.Spelled.{comes_before}

-- ---- from byte i on
module _ (a b : List ℕ) (i : ℕ) where
  -- b is at its end
  pub before_none : length b ≤ i → false ≡ comes_before (drop i a) (drop i b)
  unfolding comes_before
  before_none h = rw (drop_of_length-le b h) (go (drop i a))
    where
      go : (l : List ℕ) → false ≡ comes_before l []
      go [] = refl
      go (x ∷ l) = refl

  module _ (h : i < length b) where
    -- a is at its end, and b goes on
    pub before_end : length a ≤ i → true ≡ comes_before (drop i a) (drop i b)
    unfolding comes_before
    before_end k = rw (drop_of_length-le a k, drop-cons b i 0 h)

    module _ (k : i < length a) where
      pub before_less : get_or a i 0 < get_or b i 0 → true ≡ comes_before (drop i a) (drop i b)
      unfolding comes_before
      before_less l = rw (drop-cons a i 0 k, drop-cons b i 0 h, lt-ltb (get_or a i 0) (get_or b i 0) l)

      pub before_more : get_or b i 0 < get_or a i 0 → false ≡ comes_before (drop i a) (drop i b)
      unfolding comes_before
      before_more l =
          rw (drop-cons a i 0 k, drop-cons b i 0 h, le-ltb (get_or a i 0) (get_or b i 0) (omega arith), ne_eqb (get_or a i 0) (get_or b i 0) (λ (e : get_or a i 0 ≡ get_or b i 0). omega arith))
