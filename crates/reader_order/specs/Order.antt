-- Document 01, "Asking": zones are listed by name bytes, equal names in candidate order. The order, the list in order, and what it is for a list to be in order.
-- Assumes nothing.
use Rattle.std.specs.Prelude.{ℕ, ◌+◌, Bool, true, ◌&&◌, not, cond, List, [], ◌∷◌, eqb}
use Rattle.texts.specs.Spelled.{comes_before, same_bytes}

-- of zones that have names
module _ (name : ℕ → List ℕ) where
  -- a zone put into a list in order, before the first zone whose name comes after its own
  unfoldable pub insert : ℕ → List ℕ → List ℕ
  insert z [] = z ∷ []
  insert z (x ∷ l) = cond (comes_before (name z) (name x)) (z ∷ x ∷ l) (x ∷ insert z l)

  -- zones put into a list in order, one after another
  unfoldable pub insert_all : List ℕ → List ℕ → List ℕ
  insert_all l [] = l
  insert_all l (z ∷ rest) = insert_all (insert z l) rest

  -- zones in the order of their names, equal names as they come
  unfoldable pub ordered : List ℕ → List ℕ
  ordered l = insert_all [] l

  -- no name comes before the one in front of it
  unfoldable pub in_order : List ℕ → Bool
  in_order [] = true
  in_order (x ∷ []) = true
  in_order (x ∷ y ∷ l) = not (comes_before (name y) (name x)) && in_order (y ∷ l)

  -- the zones with that name, as they come
  unfoldable pub called : List ℕ → List ℕ → List ℕ
  called n [] = []
  called n (x ∷ l) = cond (same_bytes n (name x)) (x ∷ called n l) (called n l)

-- how often a zone is listed
unfoldable pub times : ℕ → List ℕ → ℕ
times z [] = 0
times z (x ∷ l) = cond (eqb z x) 1 0 + times z l
