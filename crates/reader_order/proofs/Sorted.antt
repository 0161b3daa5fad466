-- What the sort gives: the zones that went in, each as often as before, in the order of their names, equal names as they came.
-- Assumes nothing.
use Prim.Native.Nat.{ℕ, suc, ◌+◌, ◌≤◌}
use native.Mathlib.Omega.{arith}
use mathlib.Core.Path.{◌≡◌, refl, sym, ap, ◌∙◌}
use mathlib.Core.Bool.{Bool, true, false, not, cond, true≢false}
use mathlib.Core.List.{List, [], ◌∷◌, ◌++◌, append-nil, append_assoc}
use borrow.Author.Tests.{not-true}
use lib.Dec.{eqb}
use lib.ListN.{length, take, drop, take-append-drop}
use lib.Seq.{take-take}
use Rattle.basics.specs.Truth.{and_i, and_l, and_r}
use Rattle.reader_order.specs.Order.{insert, insert_all, ordered, in_order, called, times}
use Rattle.texts.proofs.Bytes.{asym, not_before, never_self, same_eq}
use Rattle.texts.specs.Spelled.{comes_before, same_bytes}

module _ (name : ℕ → List ℕ) where
  -- no name of the list comes before that of z
  abbrev pub From : ℕ → List ℕ → Type 0
  From z [] = Unit {0}
  From z (x ∷ l) = (comes_before (name x) (name z) ≡ false) × From z l

  abbrev pub Sorted : List ℕ → Type 0
  Sorted [] = Unit {0}
  Sorted (x ∷ l) = From x l × Sorted l

  from_less : (z x : ℕ) (l : List ℕ) → comes_before (name x) (name z) ≡ false → From x l → From z l
  from_less z x [] h f = tt
  from_less z x (y ∷ l) h f = (not_before (name z) (name x) (name y) h f.0, from_less z x l h f.1)

  -- ---- in order, as it is stated of neighbours
  pub sorted_in : (l : List ℕ) → in_order name l ≡ true → Sorted l
  unfolding in_order
  sorted_in [] h = tt
  sorted_in (x ∷ []) h = (tt, tt)
  sorted_in (x ∷ y ∷ l) h =
      let e : comes_before (name y) (name x) ≡ false = not-true _ (and_l (not (comes_before (name y) (name x))) (in_order name (y ∷ l)) h) in
      let s = sorted_in (y ∷ l) (and_r (not (comes_before (name y) (name x))) (in_order name (y ∷ l)) h) in
      ((e, from_less x y l e s.0), s)

  pub in_sorted : (l : List ℕ) → Sorted l → in_order name l ≡ true
  unfolding in_order
  in_sorted [] s = refl
  in_sorted (x ∷ []) s = refl
  in_sorted (x ∷ y ∷ l) s = and_i (not (comes_before (name y) (name x))) (in_order name (y ∷ l)) (rw s.0.0) (in_sorted (y ∷ l) s.1)

  -- ---- the first zones of some in order
  sorted_front : (l m : List ℕ) → Sorted (l ++ m) → Sorted l
  sorted_front [] m s = tt
  sorted_front (x ∷ l) m s = (from_front x l s.0, sorted_front l m s.1)
    where
      from_front : (x : ℕ) (l : List ℕ) → From x (l ++ m) → From x l
      from_front x [] f = tt
      from_front x (y ∷ l) f = (f.0, from_front x l f.1)

  pub sorted_take : (m : List ℕ) (k i : ℕ) → i ≤ k → in_order name (take k m) ≡ true → Sorted (take i m)
  sorted_take m k i h e =
      rw (take-take i k m h) at (sorted_front (take i (take k m)) (drop i (take k m)) (rw (take-append-drop i (take k m)) (sorted_in (take k m) e)))

  -- ---- one zone put in
  -- by the test that decides its place
  module _ (z x : ℕ) (l : List ℕ) where
    pub insert_here : comes_before (name z) (name x) ≡ true → insert name z (x ∷ l) ≡ z ∷ x ∷ l
    unfolding insert
    insert_here h = rw h

    pub insert_on : comes_before (name z) (name x) ≡ false → insert name z (x ∷ l) ≡ x ∷ insert name z l
    unfolding insert
    insert_on h = rw h

  from_insert : (x z : ℕ) (l : List ℕ) → comes_before (name z) (name x) ≡ false → From x l → From x (insert name z l)
  unfolding insert
  from_insert x z [] h f = (h, tt)
  from_insert x z (y ∷ l) h f = go (comes_before (name z) (name y)) (from_insert x z l h f.1)
    where
      go : (t : Bool) → From x (insert name z l) → From x (cond t (z ∷ y ∷ l) (y ∷ insert name z l))
      go true g = (h, f)
      go false g = (f.0, g)

  pub insert_sorted : (z : ℕ) (l : List ℕ) → Sorted l → Sorted (insert name z l)
  unfolding insert
  insert_sorted z [] s = (tt, tt)
  insert_sorted z (x ∷ l) s = go (comes_before (name z) (name x)) refl (insert_sorted z l s.1)
    where
      go : (t : Bool) → comes_before (name z) (name x) ≡ t → Sorted (insert name z l) → Sorted (cond t (z ∷ x ∷ l) (x ∷ insert name z l))
      go true e g = let h = asym (name z) (name x) e in ((h, from_less z x l h s.0), s)
      go false e g = (from_insert x z l e s.0, g)

  pub insert_length : (z : ℕ) (l : List ℕ) → length (insert name z l) ≡ suc (length l)
  unfolding insert
  insert_length z [] = refl
  insert_length z (x ∷ l) = go (comes_before (name z) (name x)) (insert_length z l)
    where
      go : (t : Bool) → length (insert name z l) ≡ suc (length l) → length (cond t (z ∷ x ∷ l) (x ∷ insert name z l)) ≡ suc (suc (length l))
      go true h = refl
      go false h = ap suc h

  pub insert_times : (y z : ℕ) (l : List ℕ) → times y (insert name z l) ≡ times y (z ∷ l)
  unfolding insert times
  insert_times y z [] = refl
  insert_times y z (x ∷ l) = go (comes_before (name z) (name x)) (insert_times y z l)
    where
      go : (t : Bool) → times y (insert name z l) ≡ times y (z ∷ l) → times y (cond t (z ∷ x ∷ l) (x ∷ insert name z l)) ≡ times y (z ∷ x ∷ l)
      go true h = refl
      go false h = omega (arith, h)

  -- the zones of one name
  pub called_none : (n : List ℕ) (x : ℕ) (l : List ℕ) → comes_before n (name x) ≡ true → From x l → called name n l ≡ []
  unfolding called
  called_none n x [] h f = refl
  called_none n x (y ∷ l) h f = go (called_none n x l h f.1) (same_bytes n (name y)) refl
    where
      go : called name n l ≡ [] → (t : Bool) → same_bytes n (name y) ≡ t → cond t (y ∷ called name n l) (called name n l) ≡ []
      go rest true e =
          let g : comes_before (name y) (name x) ≡ true = ap (λ (m : List ℕ). comes_before m (name x)) (sym (same_eq n (name y) e)) ∙ h in
          absurd (true≢false (sym g ∙ f.0))
      go rest false e = rest

  insert_called : (n : List ℕ) (z : ℕ) (l : List ℕ) → Sorted l → called name n (insert name z l) ≡ called name n l ++ called name n (z ∷ [])
  unfolding insert called
  insert_called n z [] s = refl
  insert_called n z (x ∷ l) s = go (insert_called n z l s.1) (comes_before (name z) (name x)) refl
    where
      here : comes_before (name z) (name x) ≡ true → (t : Bool) → same_bytes n (name z) ≡ t
          → cond t (z ∷ called name n (x ∷ l)) (called name n (x ∷ l)) ≡ called name n (x ∷ l) ++ cond t (z ∷ []) []
      here e true g =
          let m : n ≡ name z = same_eq n (name z) g in
          let h : comes_before n (name x) ≡ true = ap (λ (k : List ℕ). comes_before k (name x)) m ∙ e in
          let none : called name n (x ∷ l) ≡ [] = called_none n x (x ∷ l) h (never_self (name x), s.0) in
          ap (λ (k : List ℕ). z ∷ k) none ∙ sym (ap (λ (k : List ℕ). k ++ (z ∷ [])) none)
      here e false g = sym (append-nil (called name n (x ∷ l)))

      past : (t : Bool) → called name n (insert name z l) ≡ called name n l ++ called name n (z ∷ [])
          → cond t (x ∷ called name n (insert name z l)) (called name n (insert name z l)) ≡ cond t (x ∷ called name n l) (called name n l) ++ called name n (z ∷ [])
      past true rest = ap (λ (k : List ℕ). x ∷ k) rest
      past false rest = rest

      go : called name n (insert name z l) ≡ called name n l ++ called name n (z ∷ []) → (t : Bool) → comes_before (name z) (name x) ≡ t
          → called name n (cond t (z ∷ x ∷ l) (x ∷ insert name z l)) ≡ called name n (x ∷ l) ++ called name n (z ∷ [])
      go rest true e = here e (same_bytes n (name z)) refl
      go rest false e = past (same_bytes n (name x)) rest

  -- ---- all zones put in
  pub all_last : (l rest : List ℕ) (z : ℕ) → insert_all name l (rest ++ (z ∷ [])) ≡ insert name z (insert_all name l rest)
  unfolding insert_all
  all_last l [] z = refl
  all_last l (x ∷ rest) z = all_last (insert name x l) rest z

  pub all_sorted : (l rest : List ℕ) → Sorted l → Sorted (insert_all name l rest)
  unfolding insert_all
  all_sorted l [] s = s
  all_sorted l (z ∷ rest) s = all_sorted (insert name z l) rest (insert_sorted z l s)

  all_times : (y : ℕ) (l rest : List ℕ) → times y (insert_all name l rest) ≡ times y l + times y rest
  unfolding insert_all times
  all_times y l [] = omega arith
  all_times y l (z ∷ rest) = all_times y (insert name z l) rest ∙ step (insert_times y z l)
    where
      step : times y (insert name z l) ≡ cond (eqb y z) 1 0 + times y l → times y (insert name z l) + times y rest ≡ times y l + (cond (eqb y z) 1 0 + times y rest)
      step h = omega (arith, h)

  pub all_called : (n : List ℕ) (l rest : List ℕ) → Sorted l → called name n (insert_all name l rest) ≡ called name n l ++ called name n rest
  unfolding insert_all called
  all_called n l [] s = sym (append-nil (called name n l))
  all_called n l (z ∷ rest) s =
      all_called n (insert name z l) rest (insert_sorted z l s)
      ∙ ap (λ (k : List ℕ). k ++ called name n rest) (insert_called n z l s)
      ∙ append_assoc (called name n l) (called name n (z ∷ [])) (called name n rest)
      ∙ ap (λ (k : List ℕ). called name n l ++ k) (join (same_bytes n (name z)))
    where
      join : (t : Bool) → cond t (z ∷ []) [] ++ called name n rest ≡ cond t (z ∷ called name n rest) (called name n rest)
      join true = refl
      join false = refl

  all_length : (l rest : List ℕ) → length (insert_all name l rest) ≡ length l + length rest
  unfolding insert_all
  all_length l [] = omega arith
  all_length l (z ∷ rest) = all_length (insert name z l) rest ∙ omega (arith, insert_length z l)

  -- ---- the sort
  -- it is in order
  pub is_ordered : (l : List ℕ) → in_order name (ordered name l) ≡ true
  unfolding ordered
  is_ordered l = in_sorted (insert_all name [] l) (all_sorted [] l tt)

  -- every zone is there as often as it was
  pub same_times : (y : ℕ) (l : List ℕ) → times y (ordered name l) ≡ times y l
  unfolding ordered times
  same_times y l = all_times y [] l ∙ omega arith

  -- the zones of one name stand as they came
  pub as_they_came : (n : List ℕ) (l : List ℕ) → called name n (ordered name l) ≡ called name n l
  unfolding ordered called
  as_they_came n l = all_called n [] l tt

  pub same_length : (l : List ℕ) → length (ordered name l) ≡ length l
  unfolding ordered
  same_length l = all_length [] l ∙ omega arith
