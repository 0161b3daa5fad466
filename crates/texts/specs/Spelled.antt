-- Document 01, "Asking": by name bytes. The order of texts by their bytes.
-- Assumes nothing.
use Rattle.std.specs.Prelude.{ℕ, Bool, true, false, ◌&&◌, ◌||◌, List, [], ◌∷◌, ltb, eqb}

-- a comes before b by its bytes: smaller at the first byte that differs, or at its end while b goes on
unfoldable pub comes_before : List ℕ → List ℕ → Bool
comes_before [] [] = false
comes_before [] (y ∷ b) = true
comes_before (x ∷ a) [] = false
comes_before (x ∷ a) (y ∷ b) = ltb x y || (eqb x y && comes_before a b)

-- the same bytes
unfoldable pub same_bytes : List ℕ → List ℕ → Bool
same_bytes [] [] = true
same_bytes [] (y ∷ b) = false
same_bytes (x ∷ a) [] = false
same_bytes (x ∷ a) (y ∷ b) = eqb x y && same_bytes a b
