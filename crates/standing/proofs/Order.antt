-- The move that puts a zone in its place, step by step, the place found by halving, and the insertion and the merging that the move makes.
-- Assumes nothing.
use Prim.Native.Nat.{ℕ, zero, suc, ◌+◌, ◌-◌, ◌≤◌, ◌<◌}
use native.Mathlib.Omega.{arith}
use native.Mathlib.Nat.{le_of_lt}
use native.Mathlib.Numerals.{add-one}
use mathlib.Core.Path.{◌≡◌, refl, sym, ap, ap₂, ◌∙◌}
use mathlib.Core.Bool.{Bool, true, false, cond}
use mathlib.Core.List.{List, [], ◌∷◌, ◌++◌, append_assoc}
use lib.ListN.{length, take, drop, set, get_or, length-set, length-append, length-drop, take-append-drop, drop_of_length-le}
use lib.Seq.{drop-cons, get_or-set_same, drop-set-lt, take-set-le, get_or-take, take-take, length-take-le, append_snoc, set-append_left, take-set-lt, take-suc-set}
use Rattle.std.specs.List.{copy_within}
use Rattle.std.proofs.lemmas.List.{drop-take}
use Rattle.texts.specs.Spelled.{comes_before}
use Rattle.texts.proofs.Bytes.{not_before}
use Rattle.reader_order.specs.Order.{insert, in_order}
use Rattle.reader_order.specs.Steps.{place_for}
use Rattle.reader_order.proofs.Sorted.{From, Sorted, sorted_in}
use Rattle.reader_order.proofs.Merged as M
use Rattle.reader_order.proofs.Merged.{Merging}

-- the zones of the places from one to another moved up; what they leave behind stays until it is written over
unfoldable pub moved_up : List ℕ → ℕ → ℕ → ℕ → List ℕ
moved_up l from to by = take (from + by) l ++ drop from (take to l) ++ drop (to + by) l

-- ---- the move
-- The zones from place i on, up to the last that is to move, have moved up.
pub record Moving (m l : List ℕ) (from to by i : ℕ) : Type 0 where
  pub room : to + by ≤ length m
  pub down_to : from ≤ i
  pub up_to_law : i ≤ to
  pub same : length l ≡ length m
  pub kept : take (i + by) l ≡ take (i + by) m
  pub behind : drop (i + by) l ≡ drop i (take to m) ++ drop (to + by) m

pub move_start : (m : List ℕ) (from to by : ℕ) → from ≤ to → to + by ≤ length m → Moving m m from to by to
move_start m from to by h g = record {
  room = g;
  down_to = h;
  up_to_law = omega arith;
  same = refl;
  kept = refl;
  behind = rw (drop_of_length-le (take to m) {i = to} (omega (arith, length-take-le to m (omega (arith, g)))));
}

module _ (m l : List ℕ) (from to by i : ℕ) (h : Moving m l from to by i) where
  pub move_end : i ≤ from → l ≡ moved_up m from to by
  unfolding moved_up
  move_end e =
      let p : i ≡ from = omega (arith, e, h.down_to) in
      sym (take-append-drop (i + by) l)
      ∙ ap₂ (λ (f b : List ℕ). f ++ b) h.kept h.behind
      ∙ sym (append_assoc (take (i + by) m) (drop i (take to m)) (drop (to + by) m))
      ∙ ap (λ (n : ℕ). take (n + by) m ++ drop n (take to m) ++ drop (to + by) m) p

  -- one zone more
  pub move_on : from < i → Moving m (set l (i - 1 + by) (get_or l (i - 1) 0)) from to by (i - 1)
  move_on g = record {
    room = h.room;
    down_to = omega (arith, g);
    up_to_law = omega (arith, h.up_to_law);
    same = length-set l n x ∙ h.same;
    kept = take-set-le n l n x (omega arith) ∙ sym (take-take n (i + by) l (omega arith)) ∙ ap (take n) h.kept ∙ take-take n (i + by) m (omega arith);
    behind =
        drop-cons (set l n x) n 0 (omega (arith, length-set l n x, inside))
        ∙ ap₂ (λ (y : ℕ) (b : List ℕ). y ∷ b) (get_or-set_same l n x 0 inside ∙ x_is) (drop-set-lt (suc n) l n x (omega arith) ∙ ap (λ (j : ℕ). drop j l) after ∙ h.behind)
        ∙ ap (λ (f : List ℕ). f ++ drop (to + by) m) (sym front);
  }
    where
      n : ℕ
      n = i - 1 + by

      x : ℕ
      x = get_or l (i - 1) 0

      after : suc n ≡ i + by
      after = omega (arith, g)

      inside : n < length l
      inside = omega (arith, g, h.up_to_law, h.room, h.same)

      short : length (take to m) ≡ to
      short = length-take-le to m (omega (arith, h.room))

      x_is : x ≡ get_or (take to m) (i - 1) 0
      x_is =
          sym (get_or-take (i + by) l (i - 1) 0 (omega (arith, g)))
          ∙ ap (λ (f : List ℕ). get_or f (i - 1) 0) h.kept
          ∙ get_or-take (i + by) m (i - 1) 0 (omega (arith, g))
          ∙ sym (get_or-take to m (i - 1) 0 (omega (arith, g, h.up_to_law)))

      front : drop (i - 1) (take to m) ≡ get_or (take to m) (i - 1) 0 ∷ drop i (take to m)
      front =
          let j : suc (i - 1) ≡ i = omega (arith, g) in
          drop-cons (take to m) (i - 1) 0 (omega (arith, g, h.up_to_law, short)) ∙ ap (λ (n : ℕ). get_or (take to m) (i - 1) 0 ∷ drop n (take to m)) j

-- After the move one zone is written into the last of the places that were left: z at n.
module _ (l : List ℕ) (from to by n z : ℕ) (left : from + by ≡ suc n) (inside : n < length l) where
  pub written : set (moved_up l from to by) n z ≡ take n l ++ z ∷ drop from (take to l) ++ drop (to + by) l
  unfolding moved_up
  written =
      let b : List ℕ = drop from (take to l) in
      let d : List ℕ = drop (to + by) l in
      ap (λ (i : ℕ). set (take i l ++ b ++ d) n z) left
      ∙ ap (λ (x : List ℕ). set x n z) (append_assoc (take (suc n) l) b d)
      ∙ set-append_left (take (suc n) l) (b ++ d) n z (omega (arith, length-take-le (suc n) l (omega (arith, inside))))
      ∙ ap (λ (x : List ℕ). x ++ (b ++ d)) (sym (take-set-lt (suc n) l n z (omega arith)) ∙ take-suc-set l n z inside)
      ∙ append_snoc (take n l) z (b ++ d)
      ∙ sym (append_assoc (take n l) (z ∷ b) d)

pub moved_length : (l : List ℕ) (from to by : ℕ) → from ≤ to → to + by ≤ length l → length (moved_up l from to by) ≡ length l
unfolding moved_up
moved_length l from to by h g =
    omega (
      arith,
      h,
      g,
      length-append (take (from + by) l ++ drop from (take to l)) (drop (to + by) l),
      length-append (take (from + by) l) (drop from (take to l)),
      length-take-le (from + by) l (omega (arith, h, g)),
      length-drop from (take to l),
      length-take-le to l (omega (arith, g)),
      length-drop (to + by) l,
    )

module _ (name : ℕ → List ℕ) where
  -- ---- what a test says
  module _ (own : List ℕ) where
    place_most : (l : List ℕ) → place_for name own l ≤ length l
    unfolding place_for
    place_most [] = omega arith
    place_most (x ∷ l) = go (comes_before own (name x)) (place_most l)
      where
        go : (t : Bool) → place_for name own l ≤ length l → cond t 0 (place_for name own l + 1) ≤ suc (length l)
        go true h = omega arith
        go false h = omega arith

    -- own comes before the zone at i
    place_down : (l : List ℕ) (i : ℕ) → i < length l → comes_before own (name (get_or l i 0)) ≡ true → place_for name own l ≤ i
    unfolding place_for
    place_down [] i k h = absurd (omega (arith, k))
    place_down (x ∷ l) zero k h = rw h (omega arith)
    place_down (x ∷ l) (suc i) k h = go (comes_before own (name x)) (place_down l i (omega (arith, k)) h)
      where
        go : (t : Bool) → place_for name own l ≤ i → cond t 0 (place_for name own l + 1) ≤ suc i
        go true g = omega arith
        go false g = omega (arith, g)

    from_at : (x : ℕ) (l : List ℕ) (i : ℕ) → i < length l → From name x l → comes_before (name (get_or l i 0)) (name x) ≡ false
    from_at x [] i k f = absurd (omega (arith, k))
    from_at x (y ∷ l) zero k f = f.0
    from_at x (y ∷ l) (suc i) k f = from_at x l i (omega (arith, k)) f.1

    -- it does not, and the list is in order
    place_up : (l : List ℕ) (i : ℕ) → i < length l → Sorted name l → comes_before own (name (get_or l i 0)) ≡ false → i < place_for name own l
    unfolding place_for
    place_up [] i k s h = absurd (omega (arith, k))
    place_up (x ∷ l) zero k s h = rw h (omega arith)
    place_up (x ∷ l) (suc i) k s h =
        let j : i < length l = omega (arith, k) in
        rw (not_before (name x) (name (get_or l i 0)) own (from_at x l i j s.0) h) (omega (arith, place_up l i j s.1 h))

  -- ---- the loop: the place lies from low to high
  pub record Halving (m own : List ℕ) (k low high : ℕ) : Type 0 where
    pub room : k ≤ length m
    pub sorted : in_order name (take k m) ≡ true
    pub from_low : low ≤ place_for name own (take k m)
    pub to_high : place_for name own (take k m) ≤ high
    pub inside : high ≤ k

  module _ (m own : List ℕ) (k : ℕ) where
    pub place_inside : k ≤ length m → (place : ℕ) → place ≡ place_for name own (take k m) → place ≤ k
    place_inside h place p = omega (arith, p, place_most own (take k m), length-take-le k m h)

    pub halving_start : k ≤ length m → in_order name (take k m) ≡ true → Halving m own k 0 k
    halving_start h s = record {
      room = h;
      sorted = s;
      from_low = omega arith;
      to_high = place_inside h _ refl;
      inside = omega arith;
    }

    module _ (low high : ℕ) (h : Halving m own k low high) where
      pub halving_end : high ≤ low → low ≡ place_for name own (take k m)
      halving_end e = omega (arith, e, h.from_low, h.to_high)

      -- the zone at a place between, and the test whether own comes before it
      module _ (i : ℕ) (g : i < high) (r : Bool) (t : r ≡ comes_before own (name (get_or m i 0))) where
        within : i < length (take k m)
        within = omega (arith, g, h.inside, length-take-le k m h.room)

        test_is : r ≡ comes_before own (name (get_or (take k m) i 0))
        test_is = t ∙ ap (λ (z : ℕ). comes_before own (name z)) (sym (get_or-take k m i 0 (omega (arith, g, h.inside))))

        halve_down : r ≡ true → Halving m own k low i
        halve_down e = record {
          room = h.room;
          sorted = h.sorted;
          from_low = h.from_low;
          to_high = place_down own (take k m) i within (sym test_is ∙ e);
          inside = omega (arith, g, h.inside);
        }

        halve_up : r ≡ false → Halving m own k (i + 1) high
        halve_up e = record {
          room = h.room;
          sorted = h.sorted;
          from_low = omega (arith, place_up own (take k m) i within (sorted_in name (take k m) h.sorted) (sym test_is ∙ e));
          to_high = h.to_high;
          inside = h.inside;
        }

        module _ (l u : ℕ) where
          pub halves_down : r ≡ true → l ≡ low → u ≡ i → Halving m own k l u
          halves_down e p q = rw (p, q) (halve_down e)

          pub halves_up : r ≡ false → l ≡ i + 1 → u ≡ high → Halving m own k l u
          halves_up e p q = rw (p, q) (halve_up e)

  -- ---- the insertion, at that place
  insert_at : (z : ℕ) (l : List ℕ) → insert name z l ≡ take (place_for name (name z) l) l ++ z ∷ drop (place_for name (name z) l) l
  unfolding insert place_for
  insert_at z [] = refl
  insert_at z (x ∷ l) = go (comes_before (name z) (name x)) (insert_at z l)
    where
      go : (t : Bool) → insert name z l ≡ take (place_for name (name z) l) l ++ z ∷ drop (place_for name (name z) l) l
          → cond t (z ∷ x ∷ l) (x ∷ insert name z l) ≡ take (cond t 0 (place_for name (name z) l + 1)) (x ∷ l) ++ z ∷ drop (cond t 0 (place_for name (name z) l + 1)) (x ∷ l)
      go true h = refl
      go false h = rw (add-one (place_for name (name z) l)) (ap (λ (k : List ℕ). x ∷ k) h)

  -- the zone at k, put into the zones before it
  module _ (m : List ℕ) (k : ℕ) (room : k < length m) (own : List ℕ) (e : own ≡ name (get_or m k 0)) where
    inside : (place : ℕ) → place ≡ place_for name own (take k m) → place ≤ k
    inside = place_inside m own k (le_of_lt room)

    at_place : (place : ℕ) → place ≡ place_for name own (take k m) → take place m ++ get_or m k 0 ∷ drop place (take k m) ++ drop (k + 1) m ≡ insert name (get_or m k 0) (take k m) ++ drop (k + 1) m
    at_place place p =
        let z : ℕ = get_or m k 0 in
        let q : place ≡ place_for name (name z) (take k m) = p ∙ ap (λ (n : List ℕ). place_for name n (take k m)) e in
        ap (λ (f : List ℕ). f ++ z ∷ drop place (take k m) ++ drop (k + 1) m) (sym (take-take place k m (inside place p)))
        ∙ ap (λ (f : List ℕ). f ++ drop (k + 1) m) (ap (λ (i : ℕ). take i (take k m) ++ z ∷ drop i (take k m)) q ∙ sym (insert_at z (take k m)))

    -- those from its place on moved up, and the zone written there
    pub settled : (place : ℕ) → place ≡ place_for name own (take k m) → (l : List ℕ) → l ≡ moved_up m place k 1 → set l place (get_or m k 0) ≡ insert name (get_or m k 0) (take k m) ++ drop (k + 1) m
    settled place p l g =
        let i : place < length m = omega (arith, inside place p, room) in
        ap (λ (x : List ℕ). set x place (get_or m k 0)) g ∙ written m place k 1 place (get_or m k 0) (add-one place) i ∙ at_place place p

-- ---- the merging
part_is : (l : List ℕ) (from to : ℕ) → from ≤ to → take (to - from) (drop from l) ≡ drop from (take to l)
part_is l from to h =
    let e : from + (to - from) ≡ to = omega (arith, h) in
    sym (drop-take from (to - from) l) ∙ ap (λ (n : ℕ). drop from (take n l)) e

-- the move is std's, to where it ends
moved_copied : (l : List ℕ) (from to by dest : ℕ) → from ≤ to → from + by ≡ dest → moved_up l from to by ≡ copy_within l from to dest
unfolding moved_up
moved_copied l from to by dest h e =
    let f : to + by ≡ dest + (to - from) = omega (arith, h, e) in
    ap (λ (i : ℕ). take i l ++ drop from (take to l) ++ drop (to + by) l) e
    ∙ ap (λ (i : ℕ). take dest l ++ drop from (take to l) ++ drop i l) f
    ∙ ap (λ (p : List ℕ). take dest l ++ p ++ drop (dest + (to - from)) l) (sym (part_is l from to h))

module _ (name : ℕ → List ℕ) where
  module _ (m held l : List ℕ) (k i j : ℕ) (h : Merging name m held l k i j) where
    -- the last of the zones that are left goes in
    module _ (g : 0 < j) (own : List ℕ) (e : own ≡ name (get_or held (j - 1) 0)) (place : ℕ) (p : place ≡ place_for name own (take i l)) where
      fits : place ≤ i
      fits = M.fits name m held l k i j h g own e place p

      room_above : i + j ≤ length l
      room_above = M.room_above name m held l k i j h g own e place p

      abbrev n : ℕ
      n = place + (j - 1)

      abbrev y : ℕ
      y = get_or held (j - 1) 0

      module _ (next : List ℕ) (v : next ≡ moved_up l place i j) where
        pub merge_on : Merging name m held (set next n y) k place (j - 1)
        merge_on =
            let d : place + j ≡ n + 1 = omega (arith, g) in
            M.merge_on name m held l k i j h g own e place p next
            (v ∙ moved_copied l place i j (n + 1) fits d)
            (ap length v ∙ moved_length l place i j fits room_above)
