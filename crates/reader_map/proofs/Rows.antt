-- JSON arrays by the places of their elements.
-- Assumes nothing.
use Prim.Native.Nat.{ℕ, zero, suc, ◌+◌, ◌-◌, ◌≤◌, ◌<◌}
use native.Mathlib.Omega.{arith}
use native.Mathlib.Numerals.{add-one}
use mathlib.Core.Path.{◌≡◌, refl, sym, ap, ap₂, ◌∙◌}
use mathlib.Core.List.{List, ◌∷◌, ◌++◌, map}
use lib.ListN.{length, drop, get_or}
use lib.Seq.{drop-cons, drop-length}
use Rattle.plane.specs.Runs.{run}
use Rattle.geojson.specs.Text.{others, array}
use Rattle.reader_map.specs.Steps.{to_come}

module _ {A : Type 0} where
  others_row : (f : A → List ℕ) (g : ℕ → A) (text : ℕ → List ℕ) (n i : ℕ) → ((j : ℕ) → i ≤ j → f (g j) ≡ text j) → others f (run g n i) ≡ to_come text 44 n i
  unfolding others run to_come
  others_row f g text zero i h = refl
  others_row f g text (suc n) i h =
      ap₂ (λ (a b : List ℕ). 44 ∷ (a ++ b)) (h i (omega arith)) (others_row f g text n (i + 1) (λ j l. h j (omega arith)))

  -- the first element apart
  pub listed_first : (f : A → List ℕ) (a : A) (g : ℕ → A) (text : ℕ → List ℕ) (n i : ℕ) → 0 < n → f a ≡ text i → ((j : ℕ) → i < j → f (g j) ≡ text j) → array f (a ∷ run g (n - 1) (i + 1)) ≡ to_come text 91 n i
  unfolding array to_come
  listed_first f a g text zero i h e k = absurd (omega arith)
  listed_first f a g text (suc n) i h e k =
      let d : suc n - 1 ≡ n = omega arith in
      ap (λ (j : ℕ). array f (a ∷ run g j (i + 1))) d
      ∙ ap₂ (λ (a b : List ℕ). 91 ∷ (a ++ b)) e (others_row f g text n (i + 1) (λ j l. k j (omega arith)))

  pub listed_row : (f : A → List ℕ) (g : ℕ → A) (text : ℕ → List ℕ) (n i : ℕ) → 0 < n → ((j : ℕ) → f (g j) ≡ text j) → array f (run g n i) ≡ to_come text 91 n i
  unfolding run
  listed_row f g text zero i h k = absurd (omega arith)
  listed_row f g text (suc n) i h k =
      let d : n ≡ suc n - 1 = omega arith in
      ap (λ (j : ℕ). array f (g i ∷ run g j (i + 1))) d ∙ listed_first f (g i) g text (suc n) i h (k i) (λ j l. k j)

  -- a list by its places
  run_drop : (l : List A) (d : A) (n i : ℕ) → i + n ≡ length l → run (λ (j : ℕ). get_or l j d) n i ≡ drop i l
  unfolding run
  run_drop l d zero i e =
      let h : length l ≡ i = omega arith in
      sym (drop-length l) ∙ ap (λ (k : ℕ). drop k l) h
  run_drop l d (suc n) i e =
      ap (λ (t : List A). get_or l i d ∷ t) (run_drop l d n (i + 1) (omega arith) ∙ ap (λ (k : ℕ). drop k l) (add-one i))
      ∙ sym (drop-cons l i d (omega arith))

  pub run_list : (l : List A) (d : A) (n : ℕ) → n ≡ length l → run (λ (j : ℕ). get_or l j d) n 0 ≡ l
  run_list l d n e = run_drop l d n 0 (omega arith)

pub run_first : {A : Type 0} (g : ℕ → A) (n i : ℕ) → 0 < n → run g n i ≡ g i ∷ run g (n - 1) (i + 1)
unfolding run
run_first g zero i h = absurd (omega arith)
run_first g (suc n) i h = let e : suc n - 1 ≡ n = omega arith in rw e

pub map_run : {A B : Type 0} (f : A → B) (g : ℕ → A) (n i : ℕ) → map f (run g n i) ≡ run (λ (j : ℕ). f (g j)) n i
unfolding run
map_run f g zero i = refl
map_run f g (suc n) i = ap (λ (t : List _). f (g i) ∷ t) (map_run f g n (i + 1))
