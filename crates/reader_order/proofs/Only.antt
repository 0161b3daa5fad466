-- The sort gives the only list there is: in the order of the names, with the zones of each name as they came.
-- Assumes nothing.
use Prim.Native.Nat.{ℕ}
use mathlib.Core.Path.{◌≡◌, refl, sym, ap, ap₂, ◌∙◌}
use mathlib.Core.Bool.{Bool, true, false, cond}
use mathlib.Core.List.{List, [], ◌∷◌, nil≢cons, cons≢nil, head-eq_of_cons-eq, tail-eq_of_cons-eq}
use Rattle.reader_order.specs.Order.{ordered, in_order, called}
use Rattle.texts.proofs.Bytes.{never_self, neither, same_self}
use Rattle.reader_order.proofs.Sorted.{Sorted, sorted_in, called_none, is_ordered, as_they_came}
use Rattle.texts.specs.Spelled.{comes_before, same_bytes}

module _ (name : ℕ → List ℕ) where
  -- a zone is among those of its name
  own_name : (x : ℕ) (l : List ℕ) → called name (name x) (x ∷ l) ≡ x ∷ called name (name x) l
  unfolding called
  own_name x l = rw (same_self (name x))

  -- the first zone's name comes before none of the other list's
  first_least : (x y : ℕ) (l m : List ℕ) → Sorted name (y ∷ m) → called name (name x) (x ∷ l) ≡ called name (name x) (y ∷ m) → comes_before (name x) (name y) ≡ false
  first_least x y l m s e = go (comes_before (name x) (name y)) refl
    where
      go : (t : Bool) → comes_before (name x) (name y) ≡ t → t ≡ false
      go true h = absurd (nil≢cons (sym (called_none name (name x) y (y ∷ m) h (never_self (name y), s.0)) ∙ sym e ∙ own_name x l))
      go false h = refl

  -- without the first zone, where both lists have the same
  tails : (n : List ℕ) (x y : ℕ) (l m : List ℕ) → x ≡ y → called name n (x ∷ l) ≡ called name n (y ∷ m) → called name n l ≡ called name n m
  unfolding called
  tails n x y l m e h = go (same_bytes n (name x)) (h ∙ ap (λ (z : ℕ). cond (same_bytes n (name z)) (z ∷ called name n m) (called name n m)) (sym e))
    where
      go : (t : Bool) → cond t (x ∷ called name n l) (called name n l) ≡ cond t (x ∷ called name n m) (called name n m) → called name n l ≡ called name n m
      go true g = tail-eq_of_cons-eq g
      go false g = g

  only : (l m : List ℕ) → Sorted name l → Sorted name m → ((n : List ℕ) → called name n l ≡ called name n m) → l ≡ m
  unfolding called
  only [] [] s t h = refl
  only [] (y ∷ m) s t h = absurd (nil≢cons (h (name y) ∙ own_name y m))
  only (x ∷ l) [] s t h = absurd (cons≢nil (sym (own_name x l) ∙ h (name x)))
  only (x ∷ l) (y ∷ m) s t h =
      let n : name x ≡ name y = neither (name x) (name y) (first_least x y l m t (h (name x))) (first_least y x m l s (sym (h (name y)))) in
      let e : x ≡ y = head-eq_of_cons-eq (sym (own_name x l) ∙ h (name x) ∙ ap (λ (k : List ℕ). called name k (y ∷ m)) n ∙ own_name y m) in
      ap₂ (λ (z : ℕ) (r : List ℕ). z ∷ r) e (only l m s.1 t.1 (λ k. tails k x y l m e (h k)))

  pub only_ordered : (l m : List ℕ) → in_order name m ≡ true → ((n : List ℕ) → called name n m ≡ called name n l) → m ≡ ordered name l
  only_ordered l m s h = only m (ordered name l) (sorted_in name m s) (sorted_in name (ordered name l) (is_ordered name l)) (λ n. h n ∙ sym (as_they_came name n l))
