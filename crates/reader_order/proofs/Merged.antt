-- Zones in order put into others in order, the last of them first, as the code merges them; and the sort block by block: m are the zones as they were, l as they are.
-- Assumes nothing.
use Prim.Native.Nat.{ℕ, suc, ◌+◌, ◌-◌, ◌≤◌, ◌<◌, min}
use Rattle.std.proofs.lemmas.Grind.{common_steps}
use native.Mathlib.Omega.{arith}
use native.Mathlib.Nat.{le_of_lt}
use native.Mathlib.Numerals.{add-one}
use mathlib.Core.Path.{◌≡◌, refl, sym, ap, ap₂, ◌∙◌}
use mathlib.Core.Bool.{Bool, true, false, cond, true≢false}
use mathlib.Core.List.{List, [], ◌∷◌, ◌++◌, append_assoc, append-nil}
use lib.ListN.{length, take, drop, set, get_or, length-set, length-append, length-drop, take-append-drop, drop_of_length-le}
use lib.Seq.{take-length, take-suc, take-take, take_all, take-add, take_at, take-append-le, drop_at, drop-drop, length-take-le}
use Rattle.reader_order.specs.Order.{insert, insert_all, ordered, in_order, called}
use Rattle.texts.proofs.Bytes.{not_before}
use Rattle.reader_order.proofs.Sorted.{From, Sorted, sorted_in, in_sorted, sorted_take, insert_here, insert_on, all_last, all_sorted, all_called, is_ordered, as_they_came, same_length}
use Rattle.reader_order.proofs.Shift.{written, Sorting, all_there}
use Rattle.reader_order.proofs.Halving.{place_inside}
use Rattle.reader_order.proofs.Only.{only_ordered}
use Rattle.texts.specs.Spelled.{comes_before, same_bytes}
use Rattle.std.specs.List.{copy_within}
use Rattle.reader_order.specs.Steps.{place_for}

-- ---- the first zones, up to the end of all where that is nearer
take_min : (n : ℕ) (l : List ℕ) → take (min (length l) n) l ≡ take n l
take_min n l = grind (arith, common_steps)

drop_min : (n : ℕ) (l : List ℕ) → drop (min (length l) n) l ≡ drop n l
drop_min n l = grind (arith, common_steps)

-- ---- the zones from place k on
module _ (m : List ℕ) (k : ℕ) (h : k ≤ length m) where
  pub part_is : take (length m - k) (drop k m) ≡ drop k m
  part_is = take_all (length m - k) (drop k m) (omega (arith, length-drop k m))

module _ (name : ℕ → List ℕ) where
  -- no zone of the list comes after y
  abbrev NoneAfter : ℕ → List ℕ → Type 0
  NoneAfter y [] = Unit {0}
  NoneAfter y (x ∷ l) = (comes_before (name y) (name x) ≡ false) × NoneAfter y l

  -- the first zone of the list, if there is one, comes after y
  abbrev Ahead : ℕ → List ℕ → Type 0
  Ahead y [] = Unit {0}
  Ahead y (x ∷ l) = comes_before (name y) (name x) ≡ true

  abbrev AllAhead : List ℕ → List ℕ → Type 0
  AllAhead [] back = Unit {0}
  AllAhead (z ∷ b) back = Ahead z back × AllAhead b back

  -- ---- one zone
  -- it goes in behind zones that do not come after it
  insert_through : (y : ℕ) (front back : List ℕ) → NoneAfter y front → insert name y (front ++ back) ≡ front ++ insert name y back
  insert_through y [] back h = refl
  insert_through y (x ∷ front) back h = insert_on name y x (front ++ back) h.0 ∙ ap (λ (l : List ℕ). x ∷ l) (insert_through y front back h.1)

  insert_ahead : (z : ℕ) (back : List ℕ) → Ahead z back → insert name z back ≡ z ∷ back
  unfolding insert
  insert_ahead z [] h = refl
  insert_ahead z (x ∷ back) h = insert_here name z x back h

  -- and in front of those that do
  insert_front : (z : ℕ) (front back : List ℕ) → Ahead z back → insert name z (front ++ back) ≡ insert name z front ++ back
  unfolding insert
  insert_front z [] back h = insert_ahead z back h
  insert_front z (y ∷ front) back h = go (comes_before (name z) (name y)) (insert_front z front back h)
    where
      go : (t : Bool) → insert name z (front ++ back) ≡ insert name z front ++ back
          → cond t (z ∷ y ∷ front ++ back) (y ∷ insert name z (front ++ back)) ≡ cond t (z ∷ y ∷ front) (y ∷ insert name z front) ++ back
      go true rest = refl
      go false rest = ap (λ (l : List ℕ). y ∷ l) rest

  none_after_insert : (y z : ℕ) (l : List ℕ) → comes_before (name y) (name z) ≡ false → NoneAfter y l → NoneAfter y (insert name z l)
  unfolding insert
  none_after_insert y z [] h n = (h, tt)
  none_after_insert y z (x ∷ l) h n = go (comes_before (name z) (name x)) (none_after_insert y z l h n.1)
    where
      go : (t : Bool) → NoneAfter y (insert name z l) → NoneAfter y (cond t (z ∷ x ∷ l) (x ∷ insert name z l))
      go true g = (h, n)
      go false g = (n.0, g)

  -- ---- more zones
  all_front : (front back b : List ℕ) → AllAhead b back → insert_all name (front ++ back) b ≡ insert_all name front b ++ back
  unfolding insert_all
  all_front front back [] h = refl
  all_front front back (z ∷ b) h = ap (λ (l : List ℕ). insert_all name l b) (insert_front z front back h.0) ∙ all_front (insert name z front) back b h.1

  none_after_all : (y : ℕ) (l b : List ℕ) → NoneAfter y l → NoneAfter y b → NoneAfter y (insert_all name l b)
  unfolding insert_all
  none_after_all y l [] h n = h
  none_after_all y l (z ∷ b) h n = none_after_all y (insert name z l) b (none_after_insert y z l n.0 h) n.1

  -- what does not come after y comes before what does
  ahead_too : (y z : ℕ) (back : List ℕ) → comes_before (name y) (name z) ≡ false → Ahead y back → Ahead z back
  ahead_too y z [] h a = tt
  ahead_too y z (x ∷ back) h a = go (comes_before (name z) (name x)) refl
    where
      go : (t : Bool) → comes_before (name z) (name x) ≡ t → t ≡ true
      go true e = refl
      go false e = absurd (true≢false (sym a ∙ not_before (name x) (name z) (name y) e h))

  all_ahead : (y : ℕ) (b back : List ℕ) → NoneAfter y b → Ahead y back → AllAhead b back
  all_ahead y [] back n a = tt
  all_ahead y (z ∷ b) back n a = (ahead_too y z back n.0 a, all_ahead y b back n.1 a)

  sorted_last : (b : List ℕ) (y : ℕ) → Sorted name (b ++ (y ∷ [])) → NoneAfter y b
  sorted_last [] y s = tt
  sorted_last (x ∷ b) y s = (from_last b s.0, sorted_last b y s.1)
    where
      from_last : (b : List ℕ) → From name x (b ++ (y ∷ [])) → comes_before (name y) (name x) ≡ false
      from_last [] f = f.0
      from_last (w ∷ b) f = from_last b f.1

  -- the place of y parts a list
  before_place : (y : ℕ) (a : List ℕ) → NoneAfter y (take (place_for name (name y) a) a)
  unfolding place_for
  before_place y [] = tt
  before_place y (x ∷ a) = go (comes_before (name y) (name x)) refl (before_place y a)
    where
      go : (t : Bool) → comes_before (name y) (name x) ≡ t → NoneAfter y (take (place_for name (name y) a) a) → NoneAfter y (take (cond t 0 (place_for name (name y) a + 1)) (x ∷ a))
      go true e n = tt
      go false e n = rw (add-one (place_for name (name y) a)) (e, n)

  from_place : (y : ℕ) (a : List ℕ) → Ahead y (drop (place_for name (name y) a) a)
  unfolding place_for
  from_place y [] = tt
  from_place y (x ∷ a) = go (comes_before (name y) (name x)) refl (from_place y a)
    where
      go : (t : Bool) → comes_before (name y) (name x) ≡ t → Ahead y (drop (place_for name (name y) a) a) → Ahead y (drop (cond t 0 (place_for name (name y) a + 1)) (x ∷ a))
      go true e n = e
      go false e n = rw (add-one (place_for name (name y) a)) n

  -- ---- the last of the zones that are put in
  put_last : (a b : List ℕ) (y p : ℕ) → p ≡ place_for name (name y) a → NoneAfter y b
      → insert_all name a (b ++ (y ∷ [])) ≡ insert_all name (take p a) b ++ y ∷ drop p a
  put_last a b y p e n =
      let q : ℕ = place_for name (name y) a in
      let back : List ℕ = drop q a in
      let ahead : Ahead y back = from_place y a in
      let few : NoneAfter y (insert_all name (take q a) b) = none_after_all y (take q a) b (before_place y a) n in
      all_last name a b y
      ∙ ap (λ (l : List ℕ). insert name y (insert_all name l b)) (sym (take-append-drop q a))
      ∙ ap (insert name y) (all_front (take q a) back b (all_ahead y b back n ahead))
      ∙ insert_through y (insert_all name (take q a) b) back few
      ∙ ap (λ (l : List ℕ). insert_all name (take q a) b ++ l) (insert_ahead y back ahead)
      ∙ ap (λ (i : ℕ). insert_all name (take i a) b ++ y ∷ drop i a) (sym e)

  -- ---- the merge
  -- The first j of the held zones are still to be put into the first i zones; the others are in their places.
  pub record Merging (m held l : List ℕ) (k i j : ℕ) : Type 0 where
    pub room : k + length held ≡ length m
    pub sorted : in_order name (take k m) ≡ true
    pub held_sorted : in_order name held ≡ true
    pub front : i ≤ k
    pub left : j ≤ length held
    pub same : length l ≡ length m
    pub kept : take i l ≡ take i m
    pub placed : insert_all name (take i m) (take j held) ++ drop (i + j) l ≡ insert_all name (take k m) held

  pub merge_start : (m held : List ℕ) (k : ℕ) → k + length held ≡ length m → in_order name (take k m) ≡ true → in_order name held ≡ true → Merging m held m k k (length held)
  merge_start m held k h s g = record {
    room = h;
    sorted = s;
    held_sorted = g;
    front = omega arith;
    left = omega arith;
    same = refl;
    kept = refl;
    placed =
        ap₂ (λ (f b : List ℕ). insert_all name (take k m) f ++ b) (take-length held) (drop_of_length-le m {i = k + length held} (omega (arith, h)))
        ∙ append-nil (insert_all name (take k m) held);
  }

  module _ (m held l : List ℕ) (k i j : ℕ) (h : Merging m held l k i j) where
    pub merge_end : j ≤ 0 → l ≡ insert_all name (take k m) held
    unfolding insert_all
    merge_end e =
        let z : j ≡ 0 = omega arith in
        let n : i + j ≡ i = omega arith in
        sym (take-append-drop i l)
        ∙ ap₂ (λ (f b : List ℕ). f ++ b) h.kept (ap (λ (x : ℕ). drop x l) (sym n))
        ∙ ap (λ (x : ℕ). insert_all name (take i m) (take x held) ++ drop (i + j) l) (sym z)
        ∙ h.placed

    pub still_in_order : in_order name (take i l) ≡ true
    still_in_order = rw h.kept (in_sorted name (take i m) (sorted_take name m k i h.front h.sorted))

    pub still_room : i ≤ length l
    still_room = omega (arith, h.front, h.same, h.room)

    -- the last of the zones that are left goes in
    module _ (g : 0 < j) (own : List ℕ) (e : own ≡ name (get_or held (j - 1) 0)) (place : ℕ) (p : place ≡ place_for name own (take i l)) where
      pub fits : place ≤ i
      fits = omega (arith, place_inside name own (take i l) place p, length-take-le i l still_room)

      pub room_above : i + j ≤ length l
      room_above = omega (arith, h.front, h.left, h.same, h.room)

      abbrev pub n : ℕ
      n = place + (j - 1)

      abbrev pub y : ℕ
      y = get_or held (j - 1) 0

      pub inside : n < length l
      inside = omega (arith, g, fits, room_above)

      front_is : take i l ≡ take i m
      front_is = h.kept

      place_is : place ≡ place_for name (name y) (take i m)
      place_is = p ∙ ap₂ (place_for name) e front_is

      first_is : take place (take i m) ≡ take place m
      first_is = take-take place i m fits

      held_is : take j held ≡ take (j - 1) held ++ (y ∷ [])
      held_is =
          let s : j ≡ suc (j - 1) = omega (arith, g) in
          ap (λ (x : ℕ). take x held) s ∙ take-suc held (j - 1) 0 (omega (arith, g, h.left))

      none_after : NoneAfter y (take (j - 1) held)
      none_after = sorted_last (take (j - 1) held) y (rw held_is at (sorted_take name held (length held) j h.left (rw (take-length held) h.held_sorted)))

      module _ (next : List ℕ) (v : next ≡ copy_within l place i (n + 1)) (s : length next ≡ length l) where
        now_is : set next n y ≡ take n l ++ (y ∷ drop place (take i m) ++ drop (i + j) l)
        now_is =
            let end : n + 1 + (i - place) ≡ i + j = omega (arith, g, fits) in
            ap (λ (x : List ℕ). set x n y) v
            ∙ written l place i (n + 1) n y fits (add-one n) inside
            ∙ ap (λ (k : ℕ). take n l ++ y ∷ drop place (take i l) ++ drop k l) end
            ∙ ap (λ (f : List ℕ). take n l ++ y ∷ drop place f ++ drop (i + j) l) front_is
            ∙ append_assoc (take n l) (y ∷ drop place (take i m)) (drop (i + j) l)

        short : length (take n l) ≡ n
        short = length-take-le n l (le_of_lt inside)

        pub merge_on : Merging m held (set next n y) k place (j - 1)
        merge_on = record {
          room = h.room;
          sorted = h.sorted;
          held_sorted = h.held_sorted;
          front = omega (arith, fits, h.front);
          left = omega (arith, h.left);
          same = length-set next n y ∙ s ∙ h.same;
          kept =
              ap (take place) now_is
              ∙ take-append-le place (take n l) (y ∷ drop place (take i m) ++ drop (i + j) l) (omega (arith, short))
              ∙ take-take place n l (omega arith)
              ∙ sym (take-take place i l fits)
              ∙ ap (take place) front_is
              ∙ first_is;
          placed =
              ap (λ (b : List ℕ). insert_all name (take place m) (take (j - 1) held) ++ b) (ap (drop n) now_is ∙ drop_at (take n l) (y ∷ drop place (take i m) ++ drop (i + j) l) n short)
              ∙ sym (append_assoc (insert_all name (take place m) (take (j - 1) held)) (y ∷ drop place (take i m)) (drop (i + j) l))
              ∙ ap (λ (f : List ℕ). insert_all name f (take (j - 1) held) ++ y ∷ drop place (take i m) ++ drop (i + j) l) (sym first_is)
              ∙ ap (λ (f : List ℕ). f ++ drop (i + j) l) (sym (put_last (take i m) (take (j - 1) held) y place place_is none_after) ∙ ap (insert_all name (take i m)) (sym held_is))
              ∙ h.placed;
        }

  -- ---- a block: the zones from place k on
  called_append : (n a b : List ℕ) → called name n (a ++ b) ≡ called name n a ++ called name n b
  unfolding called
  called_append n [] b = refl
  called_append n (x ∷ a) b = go (same_bytes n (name x)) (called_append n a b)
    where
      go : (t : Bool) → called name n (a ++ b) ≡ called name n a ++ called name n b
          → cond t (x ∷ called name n (a ++ b)) (called name n (a ++ b)) ≡ cond t (x ∷ called name n a) (called name n a) ++ called name n b
      go true e = ap (λ (l : List ℕ). x ∷ l) e
      go false e = e

  -- zones sorted, put into zones sorted: all of them sorted
  joined : (a b : List ℕ) → insert_all name (ordered name a) (ordered name b) ≡ ordered name (a ++ b)
  joined a b =
      let s : Sorted name (ordered name a) = sorted_in name (ordered name a) (is_ordered name a) in
      only_ordered name (a ++ b) (insert_all name (ordered name a) (ordered name b)) (in_sorted name _ (all_sorted name (ordered name a) (ordered name b) s))
      (λ n. all_called name n (ordered name a) (ordered name b) s ∙ ap₂ (λ (f c : List ℕ). f ++ c) (as_they_came name n a) (as_they_came name n b) ∙ sym (called_append n a b))

  module _ (m : List ℕ) (k : ℕ) (h : k ≤ length m) where
    short_front : length (take k m) ≡ k
    short_front = length-take-le k m h

    -- that block sorted by itself
    module _ (b : List ℕ) (e : b ≡ ordered name (take (length m - k) (drop k m))) where
      block_is : take k m ++ (b ++ drop (length m - k) (drop k m)) ≡ take k m ++ ordered name (drop k m)
      block_is =
          ap (λ (l : List ℕ). take k m ++ l)
          (ap₂ (λ (f c : List ℕ). f ++ c) (e ∙ ap (ordered name) (part_is m k h)) (drop_of_length-le (drop k m) {i = length m - k} (omega (arith, length-drop k m))) ∙ append-nil (ordered name (drop k m)))

      block_front : take k (take k m ++ (b ++ drop (length m - k) (drop k m))) ≡ take k m
      block_front = take_at (take k m) (b ++ drop (length m - k) (drop k m)) k short_front

      block_back : drop k (take k m ++ (b ++ drop (length m - k) (drop k m))) ≡ ordered name (drop k m)
      block_back = ap (drop k) block_is ∙ drop_at (take k m) (ordered name (drop k m)) k short_front

      block_length : length (take k m ++ (b ++ drop (length m - k) (drop k m))) ≡ length m
      block_length =
          ap length block_is ∙ omega (arith, h, length-append (take k m) (ordered name (drop k m)), short_front, same_length name (drop k m), length-drop k m)

      -- and held in other memory
      module _ (held : List ℕ) (g : held ≡ take (length (take k m ++ (b ++ drop (length m - k) (drop k m))) - k) (drop k (take k m ++ (b ++ drop (length m - k) (drop k m))))) where
        kept_is : held ≡ drop k (take k m ++ (b ++ drop (length m - k) (drop k m)))
        kept_is = g ∙ part_is (take k m ++ (b ++ drop (length m - k) (drop k m))) k (omega (arith, h, block_length))

        pub held_in_order : in_order name held ≡ true
        held_in_order = ap (in_order name) (kept_is ∙ block_back) ∙ is_ordered name (drop k m)

        held_length : length held ≡ length (take k m ++ (b ++ drop (length m - k) (drop k m))) - k
        held_length = ap length kept_is ∙ length-drop k (take k m ++ (b ++ drop (length m - k) (drop k m)))

        pub held_room : length held ≤ length (take k m ++ (b ++ drop (length m - k) (drop k m)))
        held_room = omega (arith, held_length)

        before_held : length (take k m ++ (b ++ drop (length m - k) (drop k m))) - length held ≡ k
        before_held = omega (arith, h, block_length, held_length)

        held_front : take (length (take k m ++ (b ++ drop (length m - k) (drop k m))) - length held) (take k m ++ (b ++ drop (length m - k) (drop k m))) ≡ take k m
        held_front = ap (λ (i : ℕ). take i (take k m ++ (b ++ drop (length m - k) (drop k m)))) before_held ∙ block_front

        pub front_in_order : in_order name (take k m) ≡ true → in_order name (take (length (take k m ++ (b ++ drop (length m - k) (drop k m))) - length held) (take k m ++ (b ++ drop (length m - k) (drop k m)))) ≡ true
        front_in_order s = ap (in_order name) held_front ∙ s

        pub block_merged : insert_all name (take (length (take k m ++ (b ++ drop (length m - k) (drop k m))) - length held) (take k m ++ (b ++ drop (length m - k) (drop k m)))) held ≡ insert_all name (take k m) (ordered name (drop k m))
        block_merged = ap₂ (insert_all name) held_front (kept_is ∙ block_back)

      pub block_alone : k ≤ 0 → take k m ++ (b ++ drop (length m - k) (drop k m)) ≡ insert_all name (take k m) (ordered name (drop k m))
      unfolding ordered
      block_alone g =
          let z : k ≡ 0 = omega arith in
          block_is ∙ rw z (only_ordered name (ordered name m) (ordered name m) (is_ordered name m) (λ n. refl))

  -- ---- the sort, block by block
  pub blocks_start : (m : List ℕ) → Sorting name m m 0
  unfolding ordered insert_all
  blocks_start m = record { so_far = refl }

  module _ (m l : List ℕ) (k : ℕ) (h : Sorting name m l k) (end : ℕ) (g : k < end) (room : end ≤ length m) where
    there : length l ≡ length m
    there = all_there name m l k h

    so_many : length (ordered name (take k m)) ≡ k
    so_many = same_length name (take k m) ∙ length-take-le k m (omega (arith, g, room))

    front_of : take k l ≡ ordered name (take k m)
    front_of = ap (take k) h.so_far ∙ take_at (ordered name (take k m)) (drop k m) k so_many

    back_of : drop k l ≡ drop k m
    back_of = ap (drop k) h.so_far ∙ drop_at (ordered name (take k m)) (drop k m) k so_many

    pub prefix_length : length (take end l) ≡ end
    prefix_length = length-take-le end l (omega (arith, room, there))

    pub prefix_in_order : in_order name (take k (take end l)) ≡ true
    prefix_in_order = rw (take-take k end l (le_of_lt g), front_of) (is_ordered name (take k m))

    -- what lies between is as it was
    between : (x : List ℕ) → end ≤ length x → drop k (take end x) ≡ take (end - k) (drop k x)
    between x r =
        let n : end ≡ k + (end - k) = omega (arith, g) in
        ap (λ (i : ℕ). drop k (take i x)) n ∙ ap (drop k) (take-add k (end - k) x) ∙ drop_at (take k x) (take (end - k) (drop k x)) k (length-take-le k x (omega (arith, g, r)))

    behind : (x : List ℕ) → drop end x ≡ drop (end - k) (drop k x)
    behind x =
        let n : end ≡ k + (end - k) = omega (arith, g) in
        ap (λ (i : ℕ). drop i x) n ∙ sym (drop-drop (end - k) k x)

    pub blocks_on : (r : List ℕ) → r ≡ insert_all name (take k (take end l)) (ordered name (drop k (take end l))) → Sorting name m (r ++ drop end l) end
    blocks_on r e =
        let f : take k (take end l) ≡ ordered name (take k m) = take-take k end l (le_of_lt g) ∙ front_of in
        let b : drop k (take end l) ≡ drop k (take end m) =
        between l (omega (arith, room, there)) ∙ ap (take (end - k)) back_of ∙ sym (between m room) in
        let a : take k m ++ drop k (take end m) ≡ take end m =
        ap (λ (x : List ℕ). x ++ drop k (take end m)) (sym (take-take k end m (le_of_lt g))) ∙ take-append-drop k (take end m) in
        record {
          so_far =
              ap₂ (λ (x y : List ℕ). x ++ y)
              (e ∙ ap₂ (λ (x y : List ℕ). insert_all name x (ordered name y)) f b ∙ joined (take k m) (drop k (take end m)) ∙ ap (ordered name) a)
              (behind l ∙ ap (drop (end - k)) back_of ∙ sym (behind m));
        }

    -- the same where the end is the end of all zones, or that of a whole block
    pub block_on : (n next : ℕ) → end ≡ min (length m) n → n ≡ next → (r : List ℕ) → r ≡ insert_all name (take k (take end l)) (ordered name (drop k (take end l))) → Sorting name m (r ++ drop end l) next
    block_on n next a q r e =
        let s = blocks_on r e in
        rw (← q) (record {
          so_far = s.so_far ∙ ap₂ (λ (x y : List ℕ). ordered name x ++ y) (ap (λ (i : ℕ). take i m) a ∙ take_min n m) (ap (λ (i : ℕ). drop i m) a ∙ drop_min n m);
        })
