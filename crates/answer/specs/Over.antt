-- A list laid over lent memory from a place on, as far as there is room; what lies before and behind is unchanged.
-- Assumes nothing.
use Rattle.std.specs.Prelude.{ℕ, zero, suc, List, [], ◌∷◌}

unfoldable pub over : {A : Type 0} → List A → ℕ → List A → List A
over [] p l = []
over (x ∷ s) (suc p) l = x ∷ over s p l
over (x ∷ s) zero [] = x ∷ s
over (x ∷ s) zero (b ∷ l) = b ∷ over s zero l
