-- Nothing here need be believed: the code's own steps cite it, and no public promise does.
-- The place where a zone goes in.
-- Assumes nothing.
use Rattle.std.specs.Prelude.{ℕ, ◌+◌, cond, List, [], ◌∷◌}
use Rattle.texts.specs.Spelled.{comes_before}

-- how many zones stand in front of the first whose name comes after that one
unfoldable pub place_for : (ℕ → List ℕ) → List ℕ → List ℕ → ℕ
place_for name own [] = 0
place_for name own (x ∷ l) = cond (comes_before own (name x)) 0 (place_for name own l + 1)
