-- The order of two names, byte by byte as the code compares them, and its laws: it is a total order.
-- Assumes nothing.
use Prim.Native.Nat.{ℕ, ◌+◌, ◌-◌, ◌<◌}
use native.Mathlib.Omega.{arith}
use native.Mathlib.Numerals.{add-one}
use mathlib.Core.Path.{◌≡◌, refl, sym, ap₂, ◌∙◌}
use mathlib.Core.Bool.{Bool, true, false, ◌&&◌, true≢false, false≢true}
use mathlib.Core.List.{List, [], ◌∷◌}
use borrow.Author.Tests.{lt-ltb, le-ltb, eq-eqb, ne_eqb, ltb-true, ltb-false, eqb-true}
use lib.Dec.{ltb, eqb}
use lib.ListN.{length, take, drop, get_or}
use lib.Seq.{drop-cons}
use Rattle.std.specs.Prelude.{◌||◌, cond, Some}
use Rattle.std.specs.Ordering.{is_some_and, is_lt, partial_ordering_then, nat_cmp}
use Rattle.std.specs.Cmp.Lexicographic.{slice_partial_cmp}
use Rattle.std.specs.declared.cmp.Ordering.TheVariants.{Less, Equal, Greater}
use Rattle.std.proofs.lemmas.List.{take_rest}
use Rattle.texts.specs.Spelled.{comes_before, same_bytes}

-- ---- from byte i on, where the bytes are equal
module _ (a b : List ℕ) (i : ℕ) (h : i < length b) (k : i < length a) where
  pub before_on : get_or a i 0 ≡ get_or b i 0 → comes_before (drop (i + 1) a) (drop (i + 1) b) ≡ comes_before (drop i a) (drop i b)
  unfolding comes_before
  before_on e =
      rw (add-one, drop-cons a i 0 k, drop-cons b i 0 h, le-ltb (get_or a i 0) (get_or b i 0) (omega arith), eq-eqb (get_or a i 0) (get_or b i 0) e)

-- ---- it is the order of the library, which asks the same byte by byte
pub library_order : (a b : List ℕ) → is_some_and is_lt (slice_partial_cmp (λ (x y : ℕ). Some (nat_cmp x y)) a b) ≡ comes_before a b
unfolding comes_before
library_order [] [] = refl
library_order [] (y ∷ b) = refl
library_order (x ∷ a) [] = refl
library_order (x ∷ a) (y ∷ b) = go (ltb x y) (eqb x y) (library_order a b)
  where
    go : (s t : Bool)
        → is_some_and is_lt (slice_partial_cmp (λ (x y : ℕ). Some (nat_cmp x y)) a b) ≡ comes_before a b
        → is_some_and is_lt (partial_ordering_then (Some (cond s Less (cond t Equal Greater))) (slice_partial_cmp (λ (x y : ℕ). Some (nat_cmp x y)) a b))
        ≡ (s || (t && comes_before a b))
    go true t e = refl
    go false true e = e
    go false false e = refl

-- of what stands from byte i on
pub library_from : (a b : List ℕ) (i : ℕ) (r : Bool) → r ≡ is_some_and is_lt (slice_partial_cmp (λ (x y : ℕ). Some (nat_cmp x y)) (take (length a - i) (drop i a)) (take (length b - i) (drop i b)))
    → r ≡ comes_before (drop i a) (drop i b)
library_from a b i r h = h ∙ library_order _ _ ∙ ap₂ comes_before (take_rest a i) (take_rest b i)

-- ---- a total order
-- the first bytes are less, equal or more
pub data Three (x y : ℕ) : Type 0 where
  less : x < y → Three x y
  equal : x ≡ y → Three x y
  more : y < x → Three x y

pub three : (x y : ℕ) → Three x y
three x y = go (ltb x y) refl (ltb y x) refl
  where
    go : (s : Bool) → ltb x y ≡ s → (t : Bool) → ltb y x ≡ t → Three x y
    go true e t f = less (ltb-true x y e)
    go false e true f = more (ltb-true y x f)
    go false e false f = equal (omega (arith, ltb-false x y e, ltb-false y x f))

module _ (x y : ℕ) (a b : List ℕ) where
  pub head_less : x < y → comes_before (x ∷ a) (y ∷ b) ≡ true
  unfolding comes_before
  head_less h = rw (lt-ltb x y h)

  pub head_more : y < x → comes_before (x ∷ a) (y ∷ b) ≡ false
  unfolding comes_before
  head_more h = rw (le-ltb x y (omega arith), ne_eqb x y (λ (e : x ≡ y). omega arith))

  pub head_same : x ≡ y → comes_before (x ∷ a) (y ∷ b) ≡ comes_before a b
  unfolding comes_before
  head_same e = rw (le-ltb x y (omega arith), eq-eqb x y e)

-- of two names only one comes before the other
pub asym : (a b : List ℕ) → comes_before a b ≡ true → comes_before b a ≡ false
unfolding comes_before
asym [] [] h = absurd (false≢true h)
asym [] (y ∷ b) h = refl
asym (x ∷ a) [] h = absurd (false≢true h)
asym (x ∷ a) (y ∷ b) h = go (asym a b) (three x y)
  where
    go : (comes_before a b ≡ true → comes_before b a ≡ false) → Three x y → comes_before (y ∷ b) (x ∷ a) ≡ false
    go rest (less l) = head_more y x b a l
    go rest (equal e) = head_same y x b a (sym e) ∙ rest (sym (head_same x y a b e) ∙ h)
    go rest (more l) = absurd (true≢false (sym h ∙ head_more x y a b l))

-- what is not before what is not before
pub not_before : (a b c : List ℕ) → comes_before b a ≡ false → comes_before c b ≡ false → comes_before c a ≡ false
unfolding comes_before
not_before a [] [] h k = h
not_before [] [] (z ∷ c) h k = refl
not_before (x ∷ a) [] (z ∷ c) h k = absurd (true≢false h)
not_before a (y ∷ b) [] h k = absurd (true≢false k)
not_before [] (y ∷ b) (z ∷ c) h k = refl
not_before (x ∷ a) (y ∷ b) (z ∷ c) h k = go (not_before a b c) (three y x) (three z y)
  where
    go : (comes_before b a ≡ false → comes_before c b ≡ false → comes_before c a ≡ false) → Three y x → Three z y → comes_before (z ∷ c) (x ∷ a) ≡ false
    go rest (less l) t = absurd (true≢false (sym (head_less y x b a l) ∙ h))
    go rest (equal e) (less m) = absurd (true≢false (sym (head_less z y c b m) ∙ k))
    go rest (equal e) (equal f) = head_same z x c a (f ∙ e) ∙ rest (sym (head_same y x b a e) ∙ h) (sym (head_same z y c b f) ∙ k)
    go rest (equal e) (more m) = head_more z x c a (omega arith)
    go rest (more l) (less m) = absurd (true≢false (sym (head_less z y c b m) ∙ k))
    go rest (more l) (equal f) = head_more z x c a (omega arith)
    go rest (more l) (more m) = head_more z x c a (omega arith)

-- names of which neither comes before the other are the same
pub neither : (a b : List ℕ) → comes_before a b ≡ false → comes_before b a ≡ false → a ≡ b
unfolding comes_before
neither [] [] h k = refl
neither [] (y ∷ b) h k = absurd (true≢false h)
neither (x ∷ a) [] h k = absurd (true≢false k)
neither (x ∷ a) (y ∷ b) h k = go (neither a b) (three x y)
  where
    go : (comes_before a b ≡ false → comes_before b a ≡ false → a ≡ b) → Three x y → x ∷ a ≡ y ∷ b
    go rest (less l) = absurd (true≢false (sym (head_less x y a b l) ∙ h))
    go rest (equal e) = ap₂ (λ (n : ℕ) (l : List ℕ). n ∷ l) e (rest (sym (head_same x y a b e) ∙ h) (sym (head_same y x b a (sym e)) ∙ k))
    go rest (more l) = absurd (true≢false (sym (head_less y x b a l) ∙ k))

pub never_self : (a : List ℕ) → comes_before a a ≡ false
unfolding comes_before
never_self [] = refl
never_self (x ∷ a) = head_same x x a a refl ∙ never_self a

-- the test of sameness tells the truth
pub same_eq : (a b : List ℕ) → same_bytes a b ≡ true → a ≡ b
unfolding same_bytes
same_eq [] [] h = refl
same_eq [] (y ∷ b) h = absurd (false≢true h)
same_eq (x ∷ a) [] h = absurd (false≢true h)
same_eq (x ∷ a) (y ∷ b) h = go (same_eq a b) (eqb x y) refl h
  where
    go : (same_bytes a b ≡ true → a ≡ b) → (t : Bool) → eqb x y ≡ t → t && same_bytes a b ≡ true → x ∷ a ≡ y ∷ b
    go rest true e k = ap₂ (λ (n : ℕ) (l : List ℕ). n ∷ l) (eqb-true x y e) (rest k)
    go rest false e k = absurd (false≢true k)

pub same_self : (a : List ℕ) → same_bytes a a ≡ true
unfolding same_bytes
same_self [] = refl
same_self (x ∷ a) = rw (eq-eqb x x refl) (same_self a)
