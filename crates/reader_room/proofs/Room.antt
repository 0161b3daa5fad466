-- The walk that counts a ring's segments answers whether the ring has room in it, where nothing that it reads is refused.
-- Assumes nothing.
use Prim.Native.Nat.{ℕ, zero, suc, ◌+◌, ◌-◌, ◌≤◌, ◌<◌}
use native.Mathlib.Omega.{arith}
use mathlib.Core.Path.{◌≡◌, refl, sym, ap, ap₂, ◌∙◌, subst}
use mathlib.Core.Bool.{Bool, true, false, cond}
use mathlib.Core.List.{List, [], ◌∷◌, ◌++◌, map, reverse}
use lib.Dec.{ltb, leb}
use borrow.Author.Tests.{lt-ltb, le-leb, leb-true, leb-false}
use Rattle.basics.specs.Truth.{and_r}
use Rattle.plane.specs.declared.I32Point.{I32Point}
use Rattle.plane.specs.Segment.{same_point}
use Rattle.plane.specs.Lines.{last_from, first_of, last_of, first_reverse, last_reverse}
use Rattle.plane.specs.Runs.{run}
use Rattle.answer.specs.declared.Refusal.{Refusal}
use Rattle.answer.specs.Answers.{Answer, ok, refused, ◌then◌, Given, holds, behind}
use Rattle.answer.proofs.AnswersLaws.{holds_ok}
use Rattle.boxes.specs.Box.{box_in_domain}
use Rattle.chunks.specs.Along.{over_from}
use Rattle.chunks.specs.Count.{with_side, counter}
use Rattle.chunks.proofs.Counting.{counted_list, counted_behind}
use Rattle.shapes.specs.Shapes.{points, group_points, leg_points}
use Rattle.shapes.specs.Layout as Layout
use Rattle.shapes.specs.Words.{sides_from, neighbours, joining, round_to, sides_of, ring_sides, proper, has_room}
use Rattle.shapes.proofs.Room.{apart, apart_self, proper_none, proper_joining, proper_append, proper_next, last_joined, proper_joined, proper_reverse}
use Rattle.opened.specs.declared.Opened.{Opened}
use Rattle.opened.specs.Widths.{ring_wide, group_wide}
use Rattle.reader_records.specs.declared.RingRecord.{RingRecord}
use Rattle.reader_records.specs.declared.GroupRecord.{GroupRecord}
use Rattle.reader_records.specs.Records.{record_at, ring_in, ring_rule, ring_at, group_in, group_rule, group_at, group_index, turns_round, op_at, fits_below}
use Rattle.reader_records.proofs.RecordsLaws.{ruled_kept, within_some, within_fits, group_within}
use Rattle.reader_chunks.specs.Chunks.{count_in, count_at, chunk_points}
use Rattle.directories.specs.Directories.{no_ring, chunk_shape, group_record, op_word, ring_record, directories}
use Rattle.directories.proofs.Held as Held
use Rattle.directories.proofs.Held.{Holds, first_given}
use Rattle.directories.proofs.Rows.{run_one, group_row_law}
use Rattle.reader_room.specs.declared.Line.{Line}
use Rattle.reader_room.specs.Steps.{chunks_count, line_of, group_line, line_at, lines_room, room_of}

abbrev P : Type 0
P = I32Point

-- ---- one segment more
module _ (a b : P) (k : ℕ) where
  side_is : k < 3 → with_side a b k ≡ k + apart a b
  unfolding with_side
  side_is h = rw (lt-ltb k 3 h) (go (same_point a b))
    where
      go : (t : Bool) → cond t k (suc k) ≡ k + cond t 0 1
      go true = omega arith
      go false = omega arith

  side_least : k ≤ with_side a b k
  unfolding with_side
  side_least = go (same_point a b) (ltb k 3)
    where
      go : (t u : Bool) → k ≤ cond t k (cond u (suc k) k)
      go true u = omega arith
      go false true = omega arith
      go false false = omega arith

-- ---- what a count answers, where there are n segments and the last point is q: both, below three; else three or more
record Counts (x : Answer (ℕ × P)) (n : ℕ) (q : P) : Type 0 where
  many : ℕ
  at : P
  is : ok (many, at) ≡ x
  over : 3 ≤ n → 3 ≤ many
  under : n < 3 → (many ≡ n) × (at ≡ q)

counts_as : (x y : Answer (ℕ × P)) (n m : ℕ) (q r : P) → x ≡ y → n ≡ m → q ≡ r → Counts x n q → Counts y m r
counts_as x y n m q r e f g c =
    record {
      many = c.many;
      at = c.at;
      is = c.is ∙ e;
      over = λ h. c.over (omega (arith, f, h));
      under = λ h. let u = c.under (omega (arith, f, h)) in (u.0 ∙ f, u.1 ∙ g);
    }

-- what is counted from there on
module _ (f : P → ℕ → Answer (ℕ × P)) where
  abbrev on : Answer (ℕ × P) → Answer (ℕ × P)
  on x = x then λ t. cond (leb 3 t.0) (ok t) (f t.1 t.0)

  on_stops : (x : Answer (ℕ × P)) (k : ℕ) (p : P) → ok (k, p) ≡ x → leb 3 k ≡ true → ok (k, p) ≡ on x
  on_stops x k p e h = rw (← e, h)

  on_goes : (x : Answer (ℕ × P)) (k : ℕ) (p : P) → ok (k, p) ≡ x → leb 3 k ≡ false → f p k ≡ on x
  on_goes x k p e h = rw (← e, h)

  counts_on : (x : Answer (ℕ × P)) (n : ℕ) (q : P) → Counts x n q → (m : ℕ) (r : P) → n ≤ m → (n < 3 → Counts (f q n) m r) → Counts (on x) m r
  counts_on x n q c m r l rest = go (leb 3 n) refl
    where
      go : (b : Bool) → leb 3 n ≡ b → Counts (on x) m r
      go true e =
          let h : 3 ≤ n = leb-true 3 n e in
          record {
            many = c.many;
            at = c.at;
            is = on_stops x c.many c.at c.is (le-leb 3 c.many (c.over h));
            over = λ g. c.over h;
            under = λ g. absurd (omega (arith, h, l, g));
          }
      go false e =
          let h : n < 3 = leb-false 3 n e in
          let u = c.under h in
          let same : f q n ≡ f c.at c.many = ap₂ f (sym u.1) (sym u.0) in
          counts_as (f q n) (on x) m m r r (same ∙ on_goes x c.many c.at c.is (ap (leb 3) u.0 ∙ e)) refl refl (rest h)

-- ---- over points that are known
over_counts : (a : P) (l : List P) (k : ℕ) → k < 3 → Counts (over_from counter a l k) (k + proper (sides_from a l)) (last_from a l)
unfolding over_from
over_counts a [] k h =
    record {
      many = k;
      at = a;
      is = refl;
      over = λ g. omega (arith, g, proper_none);
      under = λ g. (omega (arith, proper_none), refl);
    }
over_counts a (t ∷ l) k h = go (leb 3 (with_side a t k)) refl (λ g. over_counts t l (with_side a t k) g)
  where
    sum : with_side a t k + proper (sides_from t l) ≡ k + proper (sides_from a (t ∷ l))
    sum = omega (arith, side_is a t k h, proper_next a t l)

    go : (b : Bool) → leb 3 (with_side a t k) ≡ b
        → (with_side a t k < 3 → Counts (over_from counter t l (with_side a t k)) (with_side a t k + proper (sides_from t l)) (last_from t l))
        → Counts (cond b (ok (with_side a t k, t)) (over_from counter t l (with_side a t k))) (k + proper (sides_from a (t ∷ l))) (last_from t l)
    go true e rest =
        let g : 3 ≤ with_side a t k = leb-true 3 (with_side a t k) e in
        record {
          many = with_side a t k;
          at = t;
          is = refl;
          over = λ m. g;
          under = λ m. absurd (omega (arith, g, m, sum));
        }
    go false e rest = counts_as _ _ _ _ _ _ refl sum refl (rest (leb-false 3 (with_side a t k) e))

-- ---- what a group's line answers: how many segments there are then, where it is entered and where it is left, below three; else three or more
record Lined (x : Answer Line) (n : ℕ) (a b : P) : Type 0 where
  line : Line
  is : ok line ≡ x
  over : 3 ≤ n → 3 ≤ line.sides
  under : n < 3 → (line.sides ≡ n) × (line.entry ≡ a) × (line.exit ≡ b)

abbrev side : Bool → List P → List P
side t l = cond t (reverse l) l

-- of the points l, stored or turned round
lined_side : (t : Bool) (k : ℕ) (a : P) (l : List P) → a ≡ first_of l → (x : Answer (ℕ × P)) → Counts x (k + proper (neighbours l)) (last_of l)
    → Lined (x then λ u. ok (line_of t a u)) (k + proper (neighbours (side t l))) (first_of (side t l)) (last_of (side t l))
unfolding line_of
lined_side true k a l e x c =
    record {
      line = record { sides = c.many; entry = c.at; exit = a };
      is = rw (← c.is);
      over = λ h. c.over (omega (arith, h, proper_reverse l));
      under = λ h.
          let u = c.under (omega (arith, h, proper_reverse l)) in
          (omega (arith, u.0, proper_reverse l), u.1 ∙ sym (first_reverse l), e ∙ sym (last_reverse l));
    }
lined_side false k a l e x c =
    record {
      line = record { sides = c.many; entry = a; exit = c.at };
      is = rw (← c.is);
      over = c.over;
      under = λ h. let u = c.under h in (u.0, e, u.1);
    }

-- a line that starts at its own first point
own_first_law : (a : P) (l : List P) → proper (sides_from a (a ∷ l)) ≡ proper (neighbours (a ∷ l))
own_first_law a l = omega (arith, proper_next a a l, apart_self a)

counts_own : (x : Answer (ℕ × P)) (k : ℕ) (a : P) (l m : List P) → l ≡ a ∷ m → Counts x (k + proper (sides_from a l)) (last_from a l) → Counts x (k + proper (neighbours l)) (last_of l)
counts_own x k a l m e c =
    counts_as x x _ _ _ _ refl
    (ap (λ (p : List P). k + proper (sides_from a p)) e ∙ ap (λ (n : ℕ). k + n) (own_first_law a m) ∙ ap (λ (p : List P). k + proper (neighbours p)) (sym e))
    (ap (last_from a) e ∙ ap last_of (sym e))
    c

module _ (o : Opened) (s : List ℕ) where
  -- ---- a chunk
  count_given : (i : ℕ) → Holds o s i → (a : P) (k : ℕ) → over_from counter a ((chunk_shape o s i).first ∷ (chunk_shape o s i).rest) k ≡ count_at o s i a k
  unfolding count_at count_in
  count_given i h a k =
      let c = chunk_shape o s i in
      rw (← h.there, ← h.ends, ← h.spans) (counted_behind _ a (c.first ∷ c.rest) k ∙ ap (behind _) (sym (counted_list h.bytes h.found.count c.first c.rest h.decodes a k)))

  -- ---- chunks in a row
  abbrev row : ℕ → ℕ → List P
  row n i = points (run (chunk_shape o s) n i)

  chunks_count_law : (n i : ℕ) (a : P) (k : ℕ) → k < 3 → ((j : ℕ) → i ≤ j → j < i + n → Holds o s j) → Counts (chunks_count o s n i a k) (k + proper (sides_from a (row n i))) (last_from a (row n i))
  unfolding chunks_count run
  chunks_count_law zero i a k h held =
      record {
        many = k;
        at = a;
        is = refl;
        over = λ g. omega (arith, g, proper_none);
        under = λ g. (omega (arith, proper_none), refl);
      }
  chunks_count_law (suc n) i a k h held =
      let c = chunk_shape o s i in
      let l = c.first ∷ c.rest in
      let m = row n (i + 1) in
      let e = proper_joined a l m in
      let one : Counts (count_at o s i a k) (k + proper (sides_from a l)) (last_from a l) =
      counts_as _ _ _ _ _ _ (count_given i (held i (omega arith) (omega arith)) a k) refl refl (over_counts a l k h) in
      counts_on (chunks_count o s n (i + 1)) (count_at o s i a k) (k + proper (sides_from a l)) (last_from a l) one
      (k + proper (sides_from a (l ++ m))) (last_from a (l ++ m)) (omega (arith, e))
      (λ g. counts_as _ _ _ _ _ _ refl (omega (arith, e)) (sym (last_joined a l m))
      (chunks_count_law n (i + 1) (last_from a l) (k + proper (sides_from a l)) g (λ j u v. held j (omega (arith, u)) (omega (arith, v)))))

  row_one : (n i : ℕ) → 0 < n → row n i ≡ (chunk_shape o s i).first ∷ ((chunk_shape o s i).rest ++ row (n - 1) (i + 1))
  row_one n i h = ap points (run_one (chunk_shape o s) n i h)

  -- ---- a group
  group_lined : (t : Bool) (k : ℕ) (g : GroupRecord) → k < 3 → 0 < g.count → ((j : ℕ) → g.first ≤ j → j < g.first + g.count → Holds o s j)
      → Lined (group_line o s t k g) (k + proper (neighbours (side t (row g.count g.first)))) (first_of (side t (row g.count g.first))) (last_of (side t (row g.count g.first)))
  unfolding group_line
  group_lined t k g h some held =
      let i = g.first in
      let n = g.count in
      let c = chunk_shape o s i in
      let e = row_one n i some in
      rw (← first_given o s i (held i (omega arith) (omega (arith, some))))
      (lined_side t k c.first (row n i) (ap first_of (sym e)) (chunks_count o s n i c.first k)
      (counts_own (chunks_count o s n i c.first k) k c.first (row n i) (c.rest ++ row (n - 1) (i + 1)) e (chunks_count_law n i c.first k h held)))

  -- ---- the leg of an op
  leg : ℕ → List P
  leg j = leg_points (Layout.leg_at (directories o s) j)

  legs : ℕ → ℕ → List (List P)
  legs n j = map leg_points (run (Layout.leg_at (directories o s)) n j)

  module _ (j w : ℕ) (e : ok w ≡ op_at o s j) (g : GroupRecord) (f : ok g ≡ group_at o s (group_index w)) where
    word_is : op_word o s j ≡ w
    unfolding op_word
    word_is = rw (← e)

    record_is : group_record o s (group_index w) ≡ g
    unfolding group_record
    record_is = rw (← f)

    keeps : fits_below g.first g.count o.chunks.count ≡ true
    unfolding group_at
    keeps = group_within o.chunks.count g (ruled_kept (record_at s o.groups group_wide (group_index w)) (group_in s) (group_rule o.chunks.count) 34 g f)

    some : 0 < g.count
    some = within_some g.first g.count o.chunks.count keeps

    points_are : group_points (Layout.group_at (directories o s) (group_index w)) ≡ row g.count g.first
    points_are =
        group_row_law o s (group_index w) (omega (arith, some, ap (λ (x : GroupRecord). x.count) record_is))
        ∙ ap (λ (x : GroupRecord). row x.count x.first) record_is

    leg_is : leg j ≡ side (turns_round w) (row g.count g.first)
    unfolding leg Layout.leg_at directories
    leg_is =
        ap (λ (x : ℕ). side (turns_round x) (group_points (Layout.group_at (directories o s) (group_index x)))) word_is
        ∙ ap (side (turns_round w)) points_are

    line_is : (k : ℕ) → group_line o s (turns_round w) k g ≡ line_at o s j k
    unfolding line_at
    line_is k = rw (← e, ← f)

    leg_lined : ((i : ℕ) → i < o.chunks.count → Holds o s i) → (k : ℕ) → k < 3 → Lined (line_at o s j k) (k + proper (neighbours (leg j))) (first_of (leg j)) (last_of (leg j))
    leg_lined held k h =
        let fits = within_fits g.first g.count o.chunks.count keeps in
        let l = group_lined (turns_round w) k g h some (λ i u v. held i (omega (arith, fits, v))) in
        subst (λ (x : List P). Lined (line_at o s j k) (k + proper (neighbours x)) (first_of x) (last_of x)) (sym leg_is)
        (subst (λ (x : Answer Line). Lined x (k + proper (neighbours (side (turns_round w) (row g.count g.first)))) (first_of (side (turns_round w) (row g.count g.first))) (last_of (side (turns_round w) (row g.count g.first)))) (line_is k) l)

-- ---- lines one after another, for what is done after a line
-- with the segment from the point a to where it is entered
module _ (a : P) (f : P → ℕ → Answer Bool) where
  abbrev go_on : Line → Answer Bool
  go_on t = cond (leb 3 (with_side a t.entry t.sides)) (ok true) (f t.exit (with_side a t.entry t.sides))

  on_enough : (x : Answer Line) (t : Line) → ok t ≡ x → leb 3 (with_side a t.entry t.sides) ≡ true → ok true ≡ (x then go_on)
  on_enough x t e h = rw (← e, h)

  on_further : (x : Answer Line) (t : Line) (m : ℕ) (q : P) → ok t ≡ x → with_side a t.entry t.sides ≡ m → t.exit ≡ q → leb 3 m ≡ false → f q m ≡ (x then go_on)
  on_further x t m q e g u h = rw (← e, g, h) (ap (λ (p : P). f p m) (sym u))

  line_on : (x : Answer Line) (n : ℕ) (p q : P) → Lined x n p q → (total : ℕ) → n + apart a p ≤ total → (n + apart a p < 3 → ok (leb 3 total) ≡ f q (n + apart a p)) → ok (leb 3 total) ≡ (x then go_on)
  line_on x n p q l total le rest = go (leb 3 n) (leb 3 (n + apart a p)) refl refl
    where
      full : 3 ≤ total → ok true ≡ (x then go_on) → ok (leb 3 total) ≡ (x then go_on)
      full h e = ap ok (le-leb 3 total h) ∙ e

      counted : n < 3 → with_side a l.line.entry l.line.sides ≡ n + apart a p
      counted h = let u = l.under h in ap₂ (with_side a) u.1 u.0 ∙ side_is a p n h

      go : (b c : Bool) → leb 3 n ≡ b → leb 3 (n + apart a p) ≡ c → ok (leb 3 total) ≡ (x then go_on)
      go true c h g =
          let m : 3 ≤ n = leb-true 3 n h in
          let t = l.line in
          full (omega (arith, m, le)) (on_enough x t l.is (le-leb 3 (with_side a t.entry t.sides) (omega (arith, l.over m, side_least a t.entry t.sides))))
      go false true h g =
          full (omega (arith, leb-true 3 (n + apart a p) g, le)) (on_enough x l.line l.is (ap (leb 3) (counted (leb-false 3 n h)) ∙ g))
      go false false h g =
          let m : n < 3 = leb-false 3 n h in
          rest (leb-false 3 (n + apart a p) g) ∙ on_further x l.line (n + apart a p) q l.is (counted m) (l.under m).2 g

-- the first, with no segment before it
module _ (f : P → P → ℕ → Answer Bool) where
  abbrev go_first : Line → Answer Bool
  go_first t = cond (leb 3 t.sides) (ok true) (f t.entry t.exit t.sides)

  first_enough : (x : Answer Line) (t : Line) → ok t ≡ x → leb 3 t.sides ≡ true → ok true ≡ (x then go_first)
  first_enough x t e h = rw (← e, h)

  first_further : (x : Answer Line) (t : Line) (n : ℕ) (p q : P) → ok t ≡ x → t.sides ≡ n → t.entry ≡ p → t.exit ≡ q → leb 3 n ≡ false → f p q n ≡ (x then go_first)
  first_further x t n p q e g u v h = rw (← e, g, h) (ap₂ (λ (y z : P). f y z n) (sym u) (sym v))

  line_first : (x : Answer Line) (n : ℕ) (p q : P) → Lined x n p q → (total : ℕ) → n ≤ total → (n < 3 → ok (leb 3 total) ≡ f p q n) → ok (leb 3 total) ≡ (x then go_first)
  line_first x n p q l total le rest = go (leb 3 n) refl
    where
      go : (b : Bool) → leb 3 n ≡ b → ok (leb 3 total) ≡ (x then go_first)
      go true h =
          let m : 3 ≤ n = leb-true 3 n h in
          ap ok (le-leb 3 total (omega (arith, m, le))) ∙ first_enough x l.line l.is (le-leb 3 l.line.sides (l.over m))
      go false h =
          let m : n < 3 = leb-false 3 n h in
          let u = l.under m in
          rest m ∙ first_further x l.line n p q l.is u.0 u.1 u.2 h

module _ (o : Opened) (s : List ℕ) (held : (i : ℕ) → i < o.chunks.count → Holds o s i) where
  -- an op and its group are there
  abbrev There : ℕ → Type 0
  There j = (w : ℕ) × (g : GroupRecord) × (ok w ≡ op_at o s j) × (ok g ≡ group_at o s (group_index w))

  lined : (j : ℕ) → There j → (k : ℕ) → k < 3 → Lined (line_at o s j k) (k + proper (neighbours (leg o s j))) (first_of (leg o s j)) (last_of (leg o s j))
  lined j t k h = leg_lined o s j t.0 t.2 t.1 t.3 held k h

  -- ---- the legs after the first, and back to the start
  lines_room_law : (n j : ℕ) (start a : P) (k : ℕ) → k < 3 → ((i : ℕ) → j ≤ i → i < j + n → There i) → ok (leb 3 (k + proper (round_to start a (legs o s n j)))) ≡ lines_room o s start n j a k
  unfolding lines_room legs leg run
  lines_room_law zero j start a k h there = ap (λ (m : ℕ). ok (leb 3 m)) (ap (λ (m : ℕ). k + m) (proper_joining a start) ∙ sym (side_is a start k h))
  lines_room_law (suc n) j start a k h there =
      let l = leg o s j in
      let rest = round_to start (last_of l) (legs o s n (j + 1)) in
      let m = k + proper (neighbours l) in
      let total = k + proper (joining a (first_of l) ++ (neighbours l ++ rest)) in
      let sum : total ≡ m + apart a (first_of l) + proper rest =
      omega (arith, proper_append (joining a (first_of l)) (neighbours l ++ rest), proper_append (neighbours l) rest, proper_joining a (first_of l)) in
      line_on a (lines_room o s start n (j + 1)) (line_at o s j k) m (first_of l) (last_of l) (lined j (there j (omega arith) (omega arith)) k h)
      total (omega (arith, sum))
      (λ g. ap (λ (x : ℕ). ok (leb 3 x)) sum ∙ lines_room_law n (j + 1) start (last_of l) (m + apart a (first_of l)) g (λ i u v. there i (omega (arith, u)) (omega (arith, v))))

  -- ---- the ring
  module _ (v : RingRecord) (some : 0 < v.count) (there : (j : ℕ) → v.first ≤ j → j < v.first + v.count → There j) where
    legs_one : legs o s v.count v.first ≡ leg o s v.first ∷ legs o s (v.count - 1) (v.first + 1)
    unfolding legs leg
    legs_one = ap (map leg_points) (run_one (Layout.leg_at (directories o s)) v.count v.first some)

    room_of_law : ok (leb 3 (proper (sides_of (legs o s v.count v.first)))) ≡ room_of o s v
    unfolding room_of
    room_of_law =
        let l = leg o s v.first in
        let ls = legs o s (v.count - 1) (v.first + 1) in
        let rest = round_to (first_of l) (last_of l) ls in
        let m = 0 + proper (neighbours l) in
        let total = proper (sides_of (l ∷ ls)) in
        let sum : total ≡ m + proper rest = omega (arith, proper_append (neighbours l) rest) in
        ap (λ (x : List (List P)). ok (leb 3 (proper (sides_of x)))) legs_one
        ∙ line_first (λ p q k. lines_room o s p (v.count - 1) (v.first + 1) q k) (line_at o s v.first 0) m (first_of l) (last_of l) (lined v.first (there v.first (omega arith) (omega (arith, some))) 0 (omega arith))
        total (omega (arith, sum))
        (λ g. ap (λ (x : ℕ). ok (leb 3 x)) sum ∙ lines_room_law (v.count - 1) (v.first + 1) (first_of l) (last_of l) m g (λ j u w. there j (omega (arith, u)) (omega (arith, some, w))))

-- ---- THE LAW: of a ring that is there, with its ops and their groups, in a file whose chunks decode
module _ (o : Opened) (s : List ℕ)
    (decode : (i : ℕ) → i < o.chunks.count → Given (chunk_points o s i))
    (i : ℕ) (v : RingRecord) (there : ok v ≡ ring_at o s i)
    (legs-there : (j : ℕ) → v.first ≤ j → j < v.first + v.count → (w : ℕ) × (g : GroupRecord) × (ok w ≡ op_at o s j) × (ok g ≡ group_at o s (group_index w)))
  where
    ring_is : ring_record o s i ≡ v
    unfolding ring_record
    ring_is = rw (← there)

    ring_some : 0 < v.count
    unfolding ring_at ring_rule
    ring_some =
        within_some v.first v.count o.ops.count
        (and_r (box_in_domain v.bbox) (fits_below v.first v.count o.ops.count) (ruled_kept (record_at s o.rings ring_wide i) (ring_in s) (ring_rule o.ops.count) 34 v there))

    has_room_law : leb 3 (proper (sides_of (legs o s v.count v.first))) ≡ has_room (Layout.ring_at (directories o s) i)
    unfolding has_room ring_sides Layout.ring_at directories legs
    has_room_law = ap (λ (x : RingRecord). leb 3 (proper (sides_of (map leg_points (run (Layout.leg_at (directories o s)) x.count x.first))))) (sym ring_is)

    pub room_is : holds (λ b. b) (room_of o s v) ≡ has_room (Layout.ring_at (directories o s) i)
    room_is =
        let b = leb 3 (proper (sides_of (legs o s v.count v.first))) in
        sym (holds_ok (λ c. c) (room_of o s v) b (room_of_law o s (λ j h. Held.holds o s j (decode j h)) v ring_some legs-there) b refl)
        ∙ has_room_law

-- a ring that is not there has none
pub room_none : (o : Opened) (s : List ℕ) (i : ℕ) (k : Refusal) → refused k ≡ ring_at o s i → false ≡ has_room (Layout.ring_at (directories o s) i)
unfolding has_room proper ring_sides Layout.ring_at directories ring_record run no_ring
room_none o s i k e = rw (← e)
