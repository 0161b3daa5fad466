-- What the loops that write keep: the chunks of a stripe, the stripes of a group, the entries and the stripes of all groups. Nothing here need be believed.
-- Assumes nothing.
use Prim.Native.Nat.{ℕ, suc, ◌+◌, ◌-◌, ◌*◌, ◌≤◌, ◌<◌}
use native.Mathlib.Omega.{arith}
use mathlib.Core.Path.{◌≡◌, refl, sym, ap, ap₂, ◌∙◌}
use mathlib.Core.Bool.{Bool, true, false, cond}
use mathlib.Core.List.{List, [], ◌∷◌, ◌++◌}
use lib.ListN.{length, set, length-append}
use Rattle.plane.specs.Runs.{run}
use Rattle.boxes.specs.declared.BBox.{BBox}
use Rattle.answer.specs.Over.{over}
use Rattle.answer.proofs.OverLaws.{over_one, over_none}
use Rattle.opened.specs.declared.Opened.{Opened}
use Rattle.stripes.specs.declared.Striping.{Striping}
use Rattle.stripes.specs.Stripes.{Boxed, striping_in, stands_in, chunks_in, stripes_from, group_stripes}
use Rattle.stripes.specs.Numbers.{group_entry, group_entries, all_stripes}
use Rattle.stripes.proofs.NeedLaws.{entry_length, group_length}
use Rattle.reader_stripes.specs.declared.cut.Cut.{Cut}
use Rattle.reader_stripes.specs.Steps.{box_read, boxed_read, all_read, boxes_of, CutFrom}
use Rattle.reader_stripes.proofs.Laying.{Laying, laying_start, laying_same, laying_room, laying_on, laying_end}
use Rattle.reader_stripes.proofs.Reading.{length_run}

-- ---- what stands at the places that are left
module _ {A : Type 0} (f : ℕ → A) (n i : ℕ) where
  run_on : (b c d : ℕ) → c ≡ b + i → d ≡ b + (i + 1) → i < n → run f (n - i) c ≡ f c ∷ run f (n - (i + 1)) d
  unfolding run
  run_on b c d g k h =
      let e : n - i ≡ suc (n - (i + 1)) = omega arith in
      let m : c + 1 ≡ d = omega arith in
      rw (e, m)

  run_off : (c : ℕ) → n ≤ i → run f (n - i) c ≡ []
  unfolding run
  run_off c h = let e : n - i ≡ 0 = omega arith in rw e

  run_all : (b c : ℕ) → i ≡ 0 → c ≡ b → run f (n - i) c ≡ run f n b
  run_all b c h k = let e : n - i ≡ n = omega arith in rw (e, k)

-- ---- the chunks of a stripe, from chunk j on, of n from `first` on
module _ (o : Opened) (s : List ℕ) (t : Striping) (n first stripe : ℕ) where
  unfoldable pub chunks_left : ℕ → List ℕ
  chunks_left j = chunks_in t stripe j (run (box_read o s) (n - j) (first + j))

  module _ (j : ℕ) where
    pub chunks_none : n ≤ j → chunks_left j ≡ []
    unfolding chunks_left chunks_in
    chunks_none h = ap (chunks_in t stripe j) (run_off (box_read o s) n j (first + j) h)

    module _ (h : j < n) (b : BBox) (k : b ≡ box_read o s (first + j)) (r : Bool) (m : r ≡ stands_in t stripe b) where
      here : chunks_left j ≡ cond r (j ∷ chunks_left (j + 1)) (chunks_left (j + 1))
      unfolding chunks_left chunks_in
      here =
          let stands : stands_in t stripe (box_read o s (first + j)) ≡ r = ap (stands_in t stripe) (sym k) ∙ sym m in
          ap (chunks_in t stripe j) (run_on (box_read o s) n j first (first + j) (first + (j + 1)) refl refl h)
          ∙ ap (λ (b : Bool). cond b (j ∷ chunks_left (j + 1)) (chunks_left (j + 1))) stands

      chunks_in_law : r ≡ true → chunks_left j ≡ (j ∷ []) ++ chunks_left (j + 1)
      chunks_in_law y = here ∙ ap (λ (b : Bool). cond b (j ∷ chunks_left (j + 1)) (chunks_left (j + 1))) y

      module _ (s₀ : List ℕ) (p : ℕ) (all : List ℕ) (q : ℕ) (now : List ℕ) (g : Laying s₀ p all (chunks_left j) q now) (q' : ℕ) (now' : List ℕ) where
        -- it was put
        pub chunks_took : q < length now → q' ≡ q + 1 → now' ≡ set now q j → r ≡ true → Laying s₀ p all (chunks_left (j + 1)) q' now'
        chunks_took i e f y = laying_on s₀ p all (chunks_left j) q now g (j ∷ []) (chunks_left (j + 1)) q' now' (chunks_in_law y) e (f ∙ sym (over_one now q j i))

        -- it was passed by
        pub chunks_passed : q' ≡ q → now' ≡ now → r ≡ false → Laying s₀ p all (chunks_left (j + 1)) q' now'
        chunks_passed e f y =
            let rest : chunks_left j ≡ chunks_left (j + 1) = here ∙ ap (λ (b : Bool). cond b (j ∷ chunks_left (j + 1)) (chunks_left (j + 1))) y in
            laying_on s₀ p all (chunks_left j) q now g [] (chunks_left (j + 1)) q' now' rest (e ∙ omega arith) (f ∙ sym (over_none now q))

-- they are no more than the chunks
few_in : (t : Striping) (stripe j : ℕ) (l : List BBox) → length (chunks_in t stripe j l) ≤ length l
unfolding chunks_in
few_in t stripe j [] = omega arith
few_in t stripe j (b ∷ l) = go (stands_in t stripe b) (few_in t stripe (j + 1) l)
  where
    go : (r : Bool) → length (chunks_in t stripe (j + 1) l) ≤ length l → length (cond r (j ∷ chunks_in t stripe (j + 1) l) (chunks_in t stripe (j + 1) l)) ≤ suc (length l)
    go true h = omega arith
    go false h = omega arith

few_chunks : (o : Opened) (s : List ℕ) (c : Cut) (stripe : ℕ) → length (chunks_in c.striping stripe 0 (boxes_of o s c)) ≤ c.count
unfolding boxes_of
few_chunks o s c stripe = omega (arith, few_in c.striping stripe 0 (run (box_read o s) c.count c.first), length_run (box_read o s) c.count c.first)

-- all of them, of a group that is cut
module _ (o : Opened) (s : List ℕ) (c : Cut) (stripe : ℕ) where
  chunks_all : chunks_left o s c.striping c.count c.first stripe 0 ≡ chunks_in c.striping stripe 0 (boxes_of o s c)
  unfolding chunks_left boxes_of
  chunks_all = ap (chunks_in c.striping stripe 0) (run_all (box_read o s) c.count 0 c.first (c.first + 0) refl (omega arith))

  module _ (m : List ℕ) (from : ℕ) where
    -- room for the next
    pub chunks_fit_law : from + length (chunks_in c.striping stripe 0 (boxes_of o s c)) ≤ length m → (j q : ℕ) (now : List ℕ) → Laying m from (chunks_left o s c.striping c.count c.first stripe 0) (chunks_left o s c.striping c.count c.first stripe j) q now
        → j < c.count → (b : BBox) → b ≡ box_read o s (c.first + j) → (r : Bool) → r ≡ stands_in c.striping stripe b → r ≡ true → q < length now
    chunks_fit_law h j q now g i b k r e y =
        omega (arith, laying_room m from (chunks_left o s c.striping c.count c.first stripe 0) (chunks_left o s c.striping c.count c.first stripe j) q now g (omega (arith, ap length chunks_all)) (j ∷ []) (chunks_left o s c.striping c.count c.first stripe (j + 1)) (chunks_in_law o s c.striping c.count c.first stripe j i b k r e y))

    -- the last
    pub chunks_put : c.count < 0x1_0000_0000 → (j q : ℕ) (now : List ℕ) → Laying m from (chunks_left o s c.striping c.count c.first stripe 0) (chunks_left o s c.striping c.count c.first stripe j) q now → c.count ≤ j
        → (q ≡ from + length (chunks_in c.striping stripe 0 (boxes_of o s c))) × (q < from + 0x1_0000_0000) × (now ≡ over m from (chunks_in c.striping stripe 0 (boxes_of o s c)))
    chunks_put h j q now g k =
        let w = laying_end m from (chunks_left o s c.striping c.count c.first stripe 0) (chunks_left o s c.striping c.count c.first stripe j) q now g (chunks_none o s c.striping c.count c.first stripe j k) in
        let z : q ≡ from + length (chunks_in c.striping stripe 0 (boxes_of o s c)) = w.next ∙ ap (λ (l : List ℕ). from + length l) chunks_all in
        (z, omega (arith, few_chunks o s c stripe), w.is ∙ ap (over m from) chunks_all)

-- ---- the stripes of a group, from stripe i on
module _ (t : Striping) (l : List BBox) (k i : ℕ) where
  pub stripes_all : i ≡ 0 → stripes_from t l (k - i) i ≡ stripes_from t l k 0
  stripes_all h = let e : k - i ≡ k = omega arith in rw (e, h)

  pub stripes_on : i < k → stripes_from t l (k - i) i ≡ (chunks_in t i 0 l ∷ []) ++ stripes_from t l (k - (i + 1)) (i + 1)
  unfolding stripes_from
  stripes_on h = let e : k - i ≡ suc (k - (i + 1)) = omega arith in rw e

  pub stripes_off : k ≤ i → stripes_from t l (k - i) i ≡ []
  unfolding stripes_from
  stripes_off h = let e : k - i ≡ 0 = omega arith in rw e

-- the stripes of a group as it was cut
cut_stripes : (o : Opened) (s : List ℕ) (i : ℕ) (c : Cut) → CutFrom o s i c → stripes_from c.striping (boxes_of o s c) c.striping.k 0 ≡ group_stripes (boxed_read o s i)
unfolding group_stripes
cut_stripes o s i c e = ap₂ (λ (t : Striping) (l : List BBox). stripes_from t l t.k 0) e.striping e.boxes

-- ---- all groups, from group i on
module _ (o : Opened) (s : List ℕ) where
  unfoldable pub groups_left : ℕ → List Boxed
  groups_left i = run (boxed_read o s) (o.groups.count - i) i

  pub groups_all : groups_left 0 ≡ all_read o s
  unfolding groups_left all_read
  groups_all = run_all (boxed_read o s) o.groups.count 0 0 0 refl refl

  module _ (i : ℕ) where
    groups_one : i < o.groups.count → groups_left i ≡ boxed_read o s i ∷ groups_left (i + 1)
    unfolding groups_left
    groups_one h = run_on (boxed_read o s) o.groups.count i 0 i (i + 1) (omega arith) (omega arith) h

    groups_none : o.groups.count ≤ i → groups_left i ≡ []
    unfolding groups_left
    groups_none h = run_off (boxed_read o s) o.groups.count i i h

    stripes_one : i < o.groups.count → all_stripes (groups_left i) ≡ group_stripes (boxed_read o s i) ++ all_stripes (groups_left (i + 1))
    unfolding all_stripes
    stripes_one h = ap all_stripes (groups_one h)

    -- the same as it is cut
    pub stripes_cut : i < o.groups.count → (c : Cut) → CutFrom o s i c → all_stripes (groups_left i) ≡ stripes_from c.striping (boxes_of o s c) c.striping.k 0 ++ all_stripes (groups_left (i + 1))
    stripes_cut h c e = stripes_one h ∙ ap (λ (l : List (List ℕ)). l ++ all_stripes (groups_left (i + 1))) (sym (cut_stripes o s i c e))

    pub stripes_none : o.groups.count ≤ i → all_stripes (groups_left i) ≡ []
    unfolding all_stripes
    stripes_none h = ap all_stripes (groups_none h)

    entries_one : i < o.groups.count → (place : ℕ) → group_entries (groups_left i) place ≡ group_entry (striping_in (boxed_read o s i)) place ++ group_entries (groups_left (i + 1)) (place + 3 * (striping_in (boxed_read o s i)).k)
    unfolding group_entries
    entries_one h place = ap (λ (l : List Boxed). group_entries l place) (groups_one h)

    entries_none : o.groups.count ≤ i → (place : ℕ) → group_entries (groups_left i) place ≡ []
    unfolding group_entries
    entries_none h place = ap (λ (l : List Boxed). group_entries l place) (groups_none h)

  -- their entries: the next group's stripes go to `place`
  pub record Entering (m : List ℕ) (place i : ℕ) (now : List ℕ) : Type 0 where
    pub few : place ≤ 5 * o.groups.count + 768 * i
    pub place_on : place + 3 * length (all_stripes (groups_left i)) ≡ 5 * o.groups.count + 3 * length (all_stripes (all_read o s))
    pub laying : Laying m 0 (group_entries (all_read o s) (5 * o.groups.count)) (group_entries (groups_left i) place) (5 * i) now

  module _ (m : List ℕ) where
    pub entering_start : (place : ℕ) → place ≡ 5 * o.groups.count → Entering m place 0 m
    entering_start place e =
        record {
          few = omega arith;
          place_on = ap₂ (λ (p : ℕ) (l : List Boxed). p + 3 * length (all_stripes l)) e groups_all;
          laying = laying_start m 0 (group_entries (all_read o s) (5 * o.groups.count)) (group_entries (groups_left 0) place) (ap₂ group_entries groups_all e);
        }

    module _ (place i : ℕ) (now : List ℕ) (g : Entering m place i now) where
      pub entering_same : length now ≡ length m
      entering_same = laying_same m 0 (group_entries (all_read o s) (5 * o.groups.count)) (group_entries (groups_left i) place) (5 * i) now g.laying

      pub entering_on : i < o.groups.count → (c : Cut) → CutFrom o s i c → (after : List ℕ) → after ≡ over now (5 * i) (group_entry c.striping place) → (k : ℕ) → k ≡ c.striping.k → Entering m (place + 3 * k) (i + 1) after
      entering_on h c e after f k d =
          let t : c.striping ≡ striping_in (boxed_read o s i) = e.striping in
          let same : k ≡ (striping_in (boxed_read o s i)).k = d ∙ ap (λ (u : Striping). u.k) t in
          let many : length (all_stripes (groups_left i)) ≡ (striping_in (boxed_read o s i)).k + length (all_stripes (groups_left (i + 1))) = ap length (stripes_one i h) ∙ length-append (group_stripes (boxed_read o s i)) (all_stripes (groups_left (i + 1))) ∙ ap (λ (j : ℕ). j + length (all_stripes (groups_left (i + 1)))) (group_length (boxed_read o s i)) in
          record {
            few = omega (arith, g.few, c.few);
            place_on = omega (arith, g.place_on);
            laying =
                laying_on m 0 (group_entries (all_read o s) (5 * o.groups.count)) (group_entries (groups_left i) place) (5 * i) now g.laying
                (group_entry (striping_in (boxed_read o s i)) place)
                (group_entries (groups_left (i + 1)) (place + 3 * k))
                (5 * (i + 1))
                after
                (entries_one i h place ∙ ap (λ (j : ℕ). group_entry (striping_in (boxed_read o s i)) place ++ group_entries (groups_left (i + 1)) (place + 3 * j)) (sym same))
                (omega (arith, entry_length (striping_in (boxed_read o s i)) place))
                (f ∙ ap (λ (u : Striping). over now (5 * i) (group_entry u place)) t);
          }

      module _ (h : o.groups.count ≤ i) where
        pub entering_place : place ≡ 5 * o.groups.count + 3 * length (all_stripes (all_read o s))
        entering_place = omega (arith, g.place_on, ap length (stripes_none i h))

        pub entering_end : now ≡ over m 0 (group_entries (all_read o s) (5 * o.groups.count))
        entering_end = (laying_end m 0 (group_entries (all_read o s) (5 * o.groups.count)) (group_entries (groups_left i) place) (5 * i) now g.laying (entries_none i h place)).is
