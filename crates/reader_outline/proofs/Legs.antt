-- A ring op of a sound file whose groups are covered: its leg is its group's points, stored or turned, and starts where the group is entered. Legs one after another, as the loop strings them.
-- Assumes nothing.
use Prim.Native.Nat.{ℕ, ◌+◌, ◌-◌, ◌≤◌, ◌<◌}
use native.Mathlib.Omega.{arith}
use mathlib.Core.Path.{◌≡◌, refl, sym, ap, ap₂, ◌∙◌, subst}
use mathlib.Core.Bool.{Bool, true, false, cond}
use mathlib.Core.List.{List, [], ◌∷◌, ◌++◌, map, reverse}
use lib.ListN.{length, drop, length-append, length-reverse}
use lib.IntN.{ℤ}
use Rattle.plane.specs.declared.I32Point.{I32Point}
use Rattle.plane.specs.Lines.{first_of, last_of, first_reverse}
use Rattle.plane.specs.Runs.{run}
use Rattle.answer.specs.declared.Refusal.{Refusal}
use Rattle.answer.specs.Answers.{Answer, ok, refused}
use Rattle.answer.proofs.AnswersLaws.{ok_inv}
use Rattle.shapes.specs.Shapes.{group_points, leg_points}
use Rattle.shapes.specs.Layout as Layout
use Rattle.shapes.specs.Outline.{strung, ring_positions, closed}
use Rattle.shapes.proofs.Fits.{chunks_fit_law, group_fits_law}
use Rattle.shapes.proofs.Sound.{Sits, sits}
use Rattle.opened.specs.declared.Opened.{Opened}
use Rattle.reader_records.specs.declared.GroupRecord.{GroupRecord}
use Rattle.reader_records.specs.declared.RingRecord.{RingRecord}
use Rattle.reader_records.specs.Records.{op_at, group_at, ring_at, group_index, turns_round}
use Rattle.directories.specs.Directories.{directories, chunk_shape, op_word, op_group, group_record, ring_record}
use Rattle.directories.proofs.Rows.{run_one, group_row_law}
use Rattle.reader_exact.proofs.Given.{op_is, op_named, group_is, group_ruled, ring_is, ring_ruled}
use Rattle.reader_exact.proofs.Exact.{sound_named}
use Rattle.reader_outline.specs.Held.{points_in}
use Rattle.reader_outline.specs.Told.{Ready, few_enough, Keeps, positions_at}
use Rattle.reader_outline.specs.Steps.{row_points, side_points, legs_row, entry_of, joined_on, legs_on, Starts}
use Rattle.reader_outline.proofs.Filling.{never, upto, fills, fills_no, stands_there}
use Rattle.reader_outline.proofs.Rows.{row_one}
use Rattle.reader_outline.proofs.Stringing.{strung_is, legs_longer, closed_longer}

abbrev P : Type 0
P = I32Point

-- a list that has a first point
first_rest : (l : List P) → 0 < length l → l ≡ first_of l ∷ drop 1 l
first_rest [] h = absurd (omega arith)
first_rest (a ∷ r) h = refl

module _ (o : Opened) (s : List ℕ) (k : Ready o s) where
  -- ---- a group
  module _ (j : ℕ) (h : j < o.groups.count) where
    abbrev rec : GroupRecord
    rec = group_record o s j

    abbrev row : List P
    row = row_points o s (group_record o s j).count (group_record o s j).first

    row_is : group_points (Layout.group_at (directories o s) j) ≡ row
    unfolding row_points
    row_is = group_row_law o s j (group_ruled o s k.sound j h).names.some

    row_some : 0 < length row
    row_some =
        let e = row_one o s rec.count rec.first (group_ruled o s k.sound j h).names.some in
        let c = chunk_shape o s rec.first in
        omega (arith, ap length e, length-append (c.first ∷ c.rest) (row_points o s (rec.count - 1) (rec.first + 1)))

    ends : Sits (Layout.group_at (directories o s) j)
    unfolding directories
    ends =
        let d = directories o s in
        sits (Layout.group_at d j) (chunks_fit_law d (sound_named o s k.sound) k.covered j h) (group_fits_law d (sound_named o s k.sound) k.covered j h)

    entry_is_law : rec.entry ≡ first_of row
    unfolding Layout.group_at directories
    entry_is_law = ends.entry_is_law ∙ ap first_of row_is

    exit_is : rec.exit ≡ last_of row
    unfolding Layout.group_at directories
    exit_is = ends.exit_is ∙ ap last_of row_is

    -- stored or turned, it starts where it is entered
    side_starts : (t : Bool) → side_points o s rec t ≡ entry_of rec t ∷ drop 1 (side_points o s rec t)
    unfolding side_points entry_of
    side_starts true =
        first_rest (reverse row) (omega (arith, row_some, length-reverse row))
        ∙ ap (λ (x : P). x ∷ drop 1 (reverse row)) (first_reverse row ∙ sym exit_is)
    side_starts false = first_rest row row_some ∙ ap (λ (x : P). x ∷ drop 1 row) (sym entry_is_law)

    group_found : (g : GroupRecord) → ok g ≡ group_at o s j → g ≡ rec
    group_found g e = ok_inv g rec (e ∙ sym (group_is o s k.sound j h))

  -- ---- an op
  module _ (i : ℕ) (h : i < o.ops.count) where
    pub op_there : (r : Refusal) → refused r ≡ op_at o s i → ⊥
    op_there r e = never (op_word o s i) r (op_at o s i) (op_is o s k.sound i h) e

    module _ (w : ℕ) (e : ok w ≡ op_at o s i) where
      word_is : w ≡ op_word o s i
      word_is = ok_inv w (op_word o s i) (e ∙ sym (op_is o s k.sound i h))

      group_at_law : group_index w ≡ op_group o s i
      group_at_law = ap group_index word_is

      pub group_there : (r : Refusal) → refused r ≡ group_at o s (group_index w) → ⊥
      group_there r f = never (group_record o s (op_group o s i)) r (group_at o s (op_group o s i)) (group_is o s k.sound (op_group o s i) (op_named o s k.sound i h)) (f ∙ ap (group_at o s) group_at_law)

      module _ (g : GroupRecord) (f : ok g ≡ group_at o s (group_index w)) where
        found : g ≡ group_record o s (op_group o s i)
        found = group_found (op_group o s i) (op_named o s k.sound i h) g (f ∙ ap (group_at o s) group_at_law)

        -- its chunks are there
        pub chunks_there : g.first + g.count ≤ o.chunks.count
        chunks_there =
            let t = group_ruled o s k.sound (op_group o s i) (op_named o s k.sound i h) in
            omega (arith, t.names.fits, ap (λ (x : GroupRecord). x.first) found, ap (λ (x : GroupRecord). x.count) found)

        module _ (t : Bool) (b : t ≡ turns_round w) where
          -- its points, stored or turned
          leg_is : leg_points (Layout.leg_at (directories o s) i) ≡ side_points o s g t
          unfolding Layout.leg_at directories side_points
          leg_is =
              let q = ap turns_round (sym word_is) ∙ sym b in
              let r = row_is (op_group o s i) (op_named o s k.sound i h) in
              ap₂ (λ (u : Bool) (l : List P). cond u (reverse l) l) q
              (r ∙ ap (λ (x : GroupRecord). row_points o s x.count x.first) (sym found))

          leg_starts : leg_points (Layout.leg_at (directories o s) i) ≡ entry_of g t ∷ drop 1 (side_points o s g t)
          leg_starts =
              leg_is
              ∙ ap (λ (x : GroupRecord). side_points o s x t) found
              ∙ side_starts (op_group o s i) (op_named o s k.sound i h) t
              ∙ ap (λ (x : GroupRecord). entry_of x t ∷ drop 1 (side_points o s x t)) (sym found)

          -- written from place j on, it goes on from the first n positions
          leg_goes_on : (m : List ℤ) (n j : ℕ) → Starts m n (entry_of g t) j → points_in m j ++ side_points o s g t ≡ joined_on (points_in m n) (leg_points (Layout.leg_at (directories o s) i))
          leg_goes_on m n j a =
              ap (λ (l : List P). points_in m j ++ l) (sym leg_is ∙ leg_starts)
              ∙ a.goes_on (drop 1 (side_points o s g t))
              ∙ ap (joined_on (points_in m n)) (sym leg_starts)

          pub leg_filled : (m : List ℤ) (n : ℕ) (x : P) → x ≡ entry_of g t → (j : ℕ) → Starts m n x j → (a : Answer ℕ) (w : List ℤ) → a ≡ few_enough (points_in m j ++ side_points o s g t) → Keeps w (points_in m j ++ side_points o s g t)
              → (a ≡ few_enough (joined_on (points_in m n) (leg_points (Layout.leg_at (directories o s) i)))) × Keeps w (joined_on (points_in m n) (leg_points (Layout.leg_at (directories o s) i)))
          leg_filled m n x e j b a w c d =
              let q = leg_goes_on m n j (subst (λ (y : P). Starts m n y j) e b) in
              (c ∙ ap few_enough q, subst (Keeps w) q d)

    pub leg_some : 0 < length (leg_points (Layout.leg_at (directories o s) i))
    leg_some =
        let e = leg_starts (op_word o s i) (op_is o s k.sound i h) (group_record o s (op_group o s i)) (group_is o s k.sound (op_group o s i) (op_named o s k.sound i h)) (turns_round (op_word o s i)) refl in
        omega (arith, ap length e)

-- ---- legs in a row
module _ (o : Opened) (s : List ℕ) where
  abbrev leg : ℕ → List P
  leg i = leg_points (Layout.leg_at (directories o s) i)

  legs_none : (n i : ℕ) → n ≡ 0 → legs_row o s n i ≡ []
  unfolding legs_row run
  legs_none n i e = rw e

  legs_one : (n i : ℕ) → 0 < n → legs_row o s n i ≡ leg i ∷ legs_row o s (n - 1) (i + 1)
  unfolding legs_row
  legs_one n i h = ap (map leg_points) (run_one (Layout.leg_at (directories o s)) n i h)

  -- m are the numbers now, which hold n positions; the legs up to op first + count, from op i on, are to come
  pub record Legging (m : List ℤ) (first count n i : ℕ) : Type 0 where
    pub size : length m ≡ 20_000
    pub room : n ≤ 10_000
    pub all : legs_on (points_in m n) (legs_row o s (first + count - i) i) ≡ legs_on [] (legs_row o s count first)

  pub legs_start : (m : List ℤ) (first count : ℕ) → length m ≡ 20_000 → Legging m first count 0 first
  unfolding points_in
  legs_start m first count l =
      let z : first + count - first ≡ count = omega arith in
      record { size = l; room = omega arith; all = rw z }

  module _ (m : List ℤ) (first count n i : ℕ) (w : Legging m first count n i) where
    module _ (h : i < first + count) where
      less : first + count - i - 1 ≡ first + count - (i + 1)
      less = omega arith

      joined : legs_on (joined_on (points_in m n) (leg i)) (legs_row o s (first + count - (i + 1)) (i + 1)) ≡ legs_on [] (legs_row o s count first)
      unfolding legs_on
      joined =
          ap (λ (x : ℕ). legs_on (joined_on (points_in m n) (leg i)) (legs_row o s x (i + 1))) (sym less)
          ∙ ap (legs_on (points_in m n)) (sym (legs_one (first + count - i) i (omega arith)))
          ∙ w.all

      pub legs_no : (r : Refusal) → refused r ≡ few_enough (joined_on (points_in m n) (leg i)) → (m' : List ℤ) → (refused r ≡ few_enough (legs_on [] (legs_row o s count first))) × Keeps m' (legs_on [] (legs_row o s count first))
      legs_no r e m' =
          fills_no m' (legs_on [] (legs_row o s count first)) (joined_on (points_in m n) (leg i)) r e
          (omega (arith, ap length joined, legs_longer (joined_on (points_in m n) (leg i)) (legs_row o s (first + count - (i + 1)) (i + 1))))

      pub legs_on_law : (m' : List ℤ) → length m' ≡ 20_000 → (n' : ℕ) → ok n' ≡ few_enough (joined_on (points_in m n) (leg i)) → Keeps m' (joined_on (points_in m n) (leg i)) → Legging m' first count n' (i + 1)
      legs_on_law m' l n' e g =
          let f = stands_there m' (joined_on (points_in m n) (leg i)) n' e g in
          record {
            size = l;
            room = f.1;
            all = ap (λ (x : List P). legs_on x (legs_row o s (first + count - (i + 1)) (i + 1))) f.0 ∙ joined;
          }

    pub legs_end : first + count ≤ i → (ok n ≡ few_enough (legs_on [] (legs_row o s count first))) × Keeps m (legs_on [] (legs_row o s count first))
    unfolding legs_on
    legs_end h =
        fills m (legs_on [] (legs_row o s count first)) n w.room w.size
        (ap (legs_on (points_in m n)) (sym (legs_none (first + count - i) i (omega arith))) ∙ w.all)

-- ---- a ring
module _ (o : Opened) (s : List ℕ) (k : Ready o s) (i : ℕ) (h : i < o.rings.count) where
  pub ring_there : (r : Refusal) → refused r ≡ ring_at o s i → ⊥
  ring_there r e = never (ring_record o s i) r (ring_at o s i) (ring_is o s k.sound i h) e

  module _ (v : RingRecord) (e : ok v ≡ ring_at o s i) where
    ring_found : v ≡ ring_record o s i
    ring_found = ok_inv v (ring_record o s i) (e ∙ sym (ring_is o s k.sound i h))

    pub ops_there : v.first + v.count ≤ o.ops.count
    ops_there =
        let t = ring_ruled o s k.sound i h in
        omega (arith, t.names.fits, ap (λ (x : RingRecord). x.first) ring_found, ap (λ (x : RingRecord). x.count) ring_found)

    some : 0 < v.count
    some = omega (arith, (ring_ruled o s k.sound i h).names.some, ap (λ (x : RingRecord). x.count) ring_found)

    legs : legs_row o s v.count v.first ≡ leg o s v.first ∷ legs_row o s (v.count - 1) (v.first + 1)
    legs = legs_one o s v.count v.first some

    first_leg : 0 < length (leg o s v.first)
    first_leg = leg_some o s k v.first (omega (arith, ops_there, some))

    -- strung together there is at least one position
    pub strung_some : 0 < length (legs_on [] (legs_row o s v.count v.first))
    unfolding legs_on joined_on
    strung_some = omega (arith, first_leg, ap (λ (x : List (List P)). length (legs_on [] x)) legs, legs_longer (leg o s v.first) (legs_row o s (v.count - 1) (v.first + 1)))

    pub positions_are : closed (legs_on [] (legs_row o s v.count v.first)) ≡ positions_at o s i
    unfolding ring_positions Layout.ring_at directories legs_row
    positions_are =
        ap closed
        (ap (legs_on []) legs
        ∙ strung_is (leg o s v.first) (legs_row o s (v.count - 1) (v.first + 1)) first_leg
        ∙ ap strung (sym legs)
        ∙ ap (λ (x : RingRecord). strung (legs_row o s x.count x.first)) ring_found)

    -- the legs as the code fills them, from where the ring says, and then the ring closed
    abbrev filled : List P
    filled = legs_on [] (legs_row o s v.count v.first)

    pub ring_no : (r : Refusal) → refused r ≡ few_enough filled → (m : List ℤ) → (refused r ≡ few_enough (positions_at o s i)) × Keeps m (positions_at o s i)
    ring_no r g m = fills_no m (positions_at o s i) filled r g (omega (arith, closed_longer filled, ap length positions_are))

    module _ (n : ℕ) (g : ok n ≡ few_enough filled) where
      pub ring_room : (0 < n) × (n ≤ 10_000)
      ring_room =
          let u = upto filled n g in
          (omega (arith, u.0, strung_some), omega (arith, u))

      pub ring_closed : (m : List ℤ) → Keeps m filled → (x : Answer ℕ) (w : List ℤ) → x ≡ few_enough (closed (points_in m n)) → Keeps w (closed (points_in m n)) → (x ≡ few_enough (positions_at o s i)) × Keeps w (positions_at o s i)
      ring_closed m q x w b d =
          let y : closed (points_in m n) ≡ positions_at o s i = ap closed (stands_there m filled n g q).0 ∙ positions_are in
          (b ∙ ap few_enough y, subst (Keeps w) y d)
