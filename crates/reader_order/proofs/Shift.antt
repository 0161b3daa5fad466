-- The move that puts a zone in its place, as the code makes it, and the sort zone by zone: m are the zones as they were, l as they are.
-- Assumes nothing.
use Prim.Native.Nat.{ℕ, suc, ◌+◌, ◌-◌, ◌≤◌, ◌<◌}
use native.Mathlib.Omega.{arith}
use native.Mathlib.Numerals.{add-one}
use mathlib.Core.Path.{◌≡◌, refl, sym, ap, ap₂, ◌∙◌}
use mathlib.Core.Bool.{true}
use mathlib.Core.List.{List, [], ◌∷◌, ◌++◌, append_assoc, append-nil}
use lib.ListN.{length, take, drop, set, get_or, length-append, take-append-drop, drop_of_length-le}
use lib.Seq.{take-suc, drop-cons, get_or_at, drop_at, take_all, drop-drop, length-take-le, take_at, append_snoc, set-append_left, take-set-lt, take-suc-set}
use Rattle.reader_order.specs.Order.{insert, insert_all, ordered, in_order}
use Rattle.reader_order.proofs.Sorted.{all_last, is_ordered, same_length}
use Rattle.std.specs.List.{copy_within}
use Rattle.std.proofs.lemmas.List.{drop-take}

-- ---- the move
part_is : (l : List ℕ) (from to : ℕ) → from ≤ to → take (to - from) (drop from l) ≡ drop from (take to l)
part_is l from to h =
    let e : from + (to - from) ≡ to = omega (arith, h) in
    sym (drop-take from (to - from) l) ∙ ap (λ (n : ℕ). drop from (take n l)) e

-- After the move, which leaves the place n behind those that stay, the zone z is written there.
pub written : (l : List ℕ) (from to dest n z : ℕ) → from ≤ to → dest ≡ suc n → n < length l → set (copy_within l from to dest) n z ≡ take n l ++ z ∷ drop from (take to l) ++ drop (dest + (to - from)) l
written l from to dest n z h left inside =
    let b : List ℕ = drop from (take to l) in
    let d : List ℕ = drop (dest + (to - from)) l in
    ap (λ (p : List ℕ). set (take dest l ++ p ++ d) n z) (part_is l from to h)
    ∙ ap (λ (i : ℕ). set (take i l ++ b ++ d) n z) left
    ∙ ap (λ (x : List ℕ). set x n z) (append_assoc (take (suc n) l) b d)
    ∙ set-append_left (take (suc n) l) (b ++ d) n z (omega (arith, length-take-le (suc n) l (omega (arith, inside))))
    ∙ ap (λ (x : List ℕ). x ++ (b ++ d)) (sym (take-set-lt (suc n) l n z (omega arith)) ∙ take-suc-set l n z inside)
    ∙ append_snoc (take n l) z (b ++ d)
    ∙ sym (append_assoc (take n l) (z ∷ b) d)

module _ (name : ℕ → List ℕ) where
  -- ---- all zones
  -- the first k of the zones m are in order, the others as they were
  pub record Sorting (m l : List ℕ) (k : ℕ) : Type 0 where
    pub so_far : l ≡ ordered name (take k m) ++ drop k m

  module _ (m l : List ℕ) (k : ℕ) (h : Sorting m l k) where
    pub all_there : length l ≡ length m
    all_there =
        ap length h.so_far
        ∙ length-append (ordered name (take k m)) (drop k m)
        ∙ ap (λ (n : ℕ). n + length (drop k m)) (same_length name (take k m))
        ∙ sym (length-append (take k m) (drop k m))
        ∙ ap length (take-append-drop k m)

    pub sort_end : length l ≤ k → l ≡ ordered name m
    sort_end e =
        let g : length m ≤ k = omega (arith, all_there) in
        h.so_far ∙ ap₂ (λ (f b : List ℕ). ordered name f ++ b) (take_all k m g) (drop_of_length-le m g) ∙ append-nil (ordered name m)

    module _ (g : k < length l) where
      fits : length (ordered name (take k m)) ≡ k
      fits = same_length name (take k m) ∙ length-take-le k m (omega (arith, all_there))

      split : drop k m ≡ get_or m k 0 ∷ drop (k + 1) m
      split = drop-cons m k 0 (omega (arith, all_there)) ∙ ap (λ (n : ℕ). get_or m k 0 ∷ drop n m) (sym (add-one k))

      -- the zone at k, the zones before it, and those behind it
      zone_is : get_or l k 0 ≡ get_or m k 0
      zone_is = ap (λ (x : List ℕ). get_or x k 0) (h.so_far ∙ ap (λ (b : List ℕ). ordered name (take k m) ++ b) split) ∙ get_or_at (ordered name (take k m)) (get_or m k 0) (drop (k + 1) m) 0 k fits

      front_of : take k l ≡ ordered name (take k m)
      front_of = ap (take k) h.so_far ∙ take_at (ordered name (take k m)) (drop k m) k fits

      back_of : drop (k + 1) l ≡ drop (k + 1) m
      back_of = sym (drop-drop 1 k l) ∙ ap (drop 1) (ap (drop k) h.so_far ∙ drop_at (ordered name (take k m)) (drop k m) k fits) ∙ drop-drop 1 k m

      pub first_in_order : in_order name (take k l) ≡ true
      first_in_order = rw front_of (is_ordered name (take k m))

      pub sort_on : (next : List ℕ) → next ≡ insert name (get_or l k 0) (take k l) ++ drop (k + 1) l → Sorting m next (k + 1)
      unfolding ordered
      sort_on next e =
          let t : take (k + 1) m ≡ take k m ++ (get_or m k 0 ∷ []) = ap (λ (n : ℕ). take n m) (add-one k) ∙ take-suc m k 0 (omega (arith, all_there)) in
          record { so_far = e ∙ ap₂ (λ (f b : List ℕ). f ++ b) (ap₂ (insert name) zone_is front_of ∙ sym (all_last name [] (take k m) (get_or m k 0)) ∙ ap (insert_all name []) (sym t)) back_of }

  -- one zone alone is in order
  pub sort_start : (m : List ℕ) → Sorting m m 1
  unfolding ordered insert_all insert
  sort_start [] = record { so_far = refl }
  sort_start (x ∷ m) = record { so_far = refl }
