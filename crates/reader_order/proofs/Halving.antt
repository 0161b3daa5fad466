-- The place where a zone goes in, found by halving: what one test says of it in a list in order, and the insertion at that place.
-- Assumes nothing.
use Prim.Native.Nat.{ℕ, zero, suc, ◌+◌, ◌-◌, ◌≤◌, ◌<◌}
use native.Mathlib.Omega.{arith}
use native.Mathlib.Nat.{le_of_lt}
use native.Mathlib.Numerals.{add-one}
use mathlib.Core.Path.{◌≡◌, refl, sym, ap, ◌∙◌}
use mathlib.Core.Bool.{Bool, true, false, cond}
use mathlib.Core.List.{List, [], ◌∷◌, ◌++◌}
use lib.ListN.{length, take, drop, set, get_or}
use lib.Seq.{length-take-le, take-take}
use Rattle.reader_order.specs.Order.{insert, in_order}
use Rattle.std.specs.List.{copy_within}
use Rattle.reader_order.specs.Steps.{place_for}
use Rattle.texts.proofs.Bytes.{not_before}
use Rattle.reader_order.proofs.Sorted.{From, Sorted, sorted_in}
use Rattle.reader_order.proofs.Shift.{written}
use Rattle.texts.specs.Spelled.{comes_before}

module _ (name : ℕ → List ℕ) where
  -- ---- what a test says
  module _ (own : List ℕ) where
    place_most : (l : List ℕ) → place_for name own l ≤ length l
    unfolding place_for
    place_most [] = omega arith
    place_most (x ∷ l) = go (comes_before own (name x)) (place_most l)
      where
        go : (t : Bool) → place_for name own l ≤ length l → cond t 0 (place_for name own l + 1) ≤ suc (length l)
        go true h = omega arith
        go false h = omega arith

    -- own comes before the zone at i
    place_down : (l : List ℕ) (i : ℕ) → i < length l → comes_before own (name (get_or l i 0)) ≡ true → place_for name own l ≤ i
    unfolding place_for
    place_down [] i k h = absurd (omega (arith, k))
    place_down (x ∷ l) zero k h = rw h (omega arith)
    place_down (x ∷ l) (suc i) k h = go (comes_before own (name x)) (place_down l i (omega (arith, k)) h)
      where
        go : (t : Bool) → place_for name own l ≤ i → cond t 0 (place_for name own l + 1) ≤ suc i
        go true g = omega arith
        go false g = omega (arith, g)

    from_at : (x : ℕ) (l : List ℕ) (i : ℕ) → i < length l → From name x l → comes_before (name (get_or l i 0)) (name x) ≡ false
    from_at x [] i k f = absurd (omega (arith, k))
    from_at x (y ∷ l) zero k f = f.0
    from_at x (y ∷ l) (suc i) k f = from_at x l i (omega (arith, k)) f.1

    -- it does not, and the list is in order
    place_up : (l : List ℕ) (i : ℕ) → i < length l → Sorted name l → comes_before own (name (get_or l i 0)) ≡ false → i < place_for name own l
    unfolding place_for
    place_up [] i k s h = absurd (omega (arith, k))
    place_up (x ∷ l) zero k s h = rw h (omega arith)
    place_up (x ∷ l) (suc i) k s h =
        let j : i < length l = omega (arith, k) in
        rw (not_before (name x) (name (get_or l i 0)) own (from_at x l i j s.0) h) (omega (arith, place_up l i j s.1 h))

  pub place_inside : (own l : List ℕ) (place : ℕ) → place ≡ place_for name own l → place ≤ length l
  place_inside own l place p = omega (arith, p, place_most own l)

  -- ---- the loop: the place lies from low to high
  pub record Halving (m own : List ℕ) (low high : ℕ) : Type 0 where
    pub sorted : in_order name m ≡ true
    pub from_low : low ≤ place_for name own m
    pub to_high : place_for name own m ≤ high
    pub inside : high ≤ length m

  module _ (m own : List ℕ) where
    pub halving_start : in_order name m ≡ true → Halving m own 0 (length m)
    halving_start s = record {
      sorted = s;
      from_low = omega arith;
      to_high = place_most own m;
      inside = omega arith;
    }

    module _ (low high : ℕ) (h : Halving m own low high) where
      pub halving_end : high ≤ low → low ≡ place_for name own m
      halving_end e = omega (arith, e, h.from_low, h.to_high)

      -- the zone at a place between, and the test whether own comes before it
      module _ (i : ℕ) (g : i < high) (r : Bool) (t : r ≡ comes_before own (name (get_or m i 0))) (l u : ℕ) where
        within : i < length m
        within = omega (arith, g, h.inside)

        pub halves_down : r ≡ true → l ≡ low → u ≡ i → Halving m own l u
        halves_down e p q = rw (p, q) (record {
          sorted = h.sorted;
          from_low = h.from_low;
          to_high = place_down own m i within (sym t ∙ e);
          inside = omega (arith, g, h.inside);
        })

        pub halves_up : r ≡ false → l ≡ i + 1 → u ≡ high → Halving m own l u
        halves_up e p q = rw (p, q) (record {
          sorted = h.sorted;
          from_low = omega (arith, place_up own m i within (sorted_in name m h.sorted) (sym t ∙ e));
          to_high = h.to_high;
          inside = h.inside;
        })

  -- ---- the insertion, at that place
  insert_at : (z : ℕ) (l : List ℕ) → insert name z l ≡ take (place_for name (name z) l) l ++ z ∷ drop (place_for name (name z) l) l
  unfolding insert place_for
  insert_at z [] = refl
  insert_at z (x ∷ l) = go (comes_before (name z) (name x)) (insert_at z l)
    where
      go : (t : Bool) → insert name z l ≡ take (place_for name (name z) l) l ++ z ∷ drop (place_for name (name z) l) l
          → cond t (z ∷ x ∷ l) (x ∷ insert name z l) ≡ take (cond t 0 (place_for name (name z) l + 1)) (x ∷ l) ++ z ∷ drop (cond t 0 (place_for name (name z) l + 1)) (x ∷ l)
      go true h = refl
      go false h = rw (add-one (place_for name (name z) l)) (ap (λ (k : List ℕ). x ∷ k) h)

  -- the zone at k, put into the zones before it
  module _ (m : List ℕ) (k : ℕ) (room : k < length m) (own : List ℕ) (e : own ≡ name (get_or m k 0)) (place : ℕ) (p : place ≡ place_for name own (take k m)) where
    pub before : place ≤ k
    before = omega (arith, place_inside own (take k m) place p, length-take-le k m (le_of_lt room))

    at_place : take place m ++ get_or m k 0 ∷ drop place (take k m) ++ drop (k + 1) m ≡ insert name (get_or m k 0) (take k m) ++ drop (k + 1) m
    at_place =
        let z : ℕ = get_or m k 0 in
        let q : place ≡ place_for name (name z) (take k m) = p ∙ ap (λ (n : List ℕ). place_for name n (take k m)) e in
        ap (λ (f : List ℕ). f ++ z ∷ drop place (take k m) ++ drop (k + 1) m) (sym (take-take place k m before))
        ∙ ap (λ (f : List ℕ). f ++ drop (k + 1) m) (ap (λ (i : ℕ). take i (take k m) ++ z ∷ drop i (take k m)) q ∙ sym (insert_at z (take k m)))

    -- those from its place on moved up, and the zone written there
    pub settled : (l : List ℕ) → l ≡ copy_within m place k (place + 1) → set l place (get_or m k 0) ≡ insert name (get_or m k 0) (take k m) ++ drop (k + 1) m
    settled l g =
        let i : place < length m = omega (arith, before, room) in
        let end : place + 1 + (k - place) ≡ k + 1 = omega (arith, before) in
        ap (λ (x : List ℕ). set x place (get_or m k 0)) g ∙ written m place k (place + 1) place (get_or m k 0) before (add-one place) i
        ∙ ap (λ (j : ℕ). take place m ++ get_or m k 0 ∷ drop place (take k m) ++ drop j m) end ∙ at_place
