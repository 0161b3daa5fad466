-- A ring of a sound file: the walk over its ops' bytes is the walk over its shape, and the count rule is never in the way.
-- Assumes nothing.
use Prim.Native.Nat.{ℕ, zero, suc, ◌+◌, ◌-◌, ◌≤◌, ◌<◌}
use native.Mathlib.Omega.{arith}
use mathlib.Core.Path.{◌≡◌, refl, sym, ap, ◌∙◌}
use mathlib.Core.Bool.{Bool, true, false, ◌&&◌, cond}
use mathlib.Core.List.{List, ◌∷◌, map}
use Rattle.plane.specs.declared.Point.{Point}
use Rattle.plane.specs.declared.I32Point.{I32Point}
use Rattle.plane.specs.Sight.{Sight}
use Rattle.plane.specs.Tally as Tally
use Rattle.plane.specs.Tally.{◌⊕◌, none, ⊕_assoc}
use Rattle.plane.specs.Lines.{link, onward, around, Stretch}
use Rattle.plane.specs.Runs.{run}
use Rattle.answer.specs.Answers.{ok}
use Rattle.answer.specs.Walks.{Walk, ◌go◌, done, verdict}
use Rattle.boxes.specs.Box.{contains}
use Rattle.rays.specs.Ray.{ray_of}
use Rattle.chunks.specs.Scan.{past}
use Rattle.shapes.specs.Walk.{float_tests, leg_walk, ring_walk}
use Rattle.shapes.specs.Layout.{leg_at}
use Rattle.shapes.specs.Layout as Layout
use Rattle.opened.specs.declared.Opened.{Opened}
use Rattle.reader_records.specs.declared.GroupRecord.{GroupRecord}
use Rattle.reader_records.specs.declared.RingRecord.{RingRecord}
use Rattle.reader_records.specs.Records.{group_index, turns_round, count_rule}
use Rattle.reader_groups.specs.Groups.{One}
use Rattle.reader_ways.specs.Ways.{plain}
use Rattle.reader_rings.specs.declared.Turned.{Turned}
use Rattle.reader_rings.specs.declared.Round.{Round}
use Rattle.reader_rings.specs.Rings.{turn_of, turned_at, joint_of, group_walk, turn_walk, op_step, ops_from, ring_end, ring_rest, ring_of, ring_contains}
use Rattle.directories.specs.Directories.{ring_record, op_word, op_group, op_points, group_record, directories}
use Rattle.reader_exact.specs.Sound.{Sound}
use Rattle.reader_exact.proofs.Walks.{past_go, past_done, go_assoc, past_verdict}
use Rattle.reader_exact.proofs.Given.{ring_is, ring_ruled, op_is, op_named, group_is}
use Rattle.reader_exact.proofs.Groups.{group_walk_law}
use Rattle.basics.specs.Total.{total}
use Rattle.answer.proofs.WalksLaws.{add_none}
use Rattle.reader_rings.proofs.RingsLaws.{turned_is, end_is}
use Rattle.plane.specs.Segment.{same_point}

-- ---- a group as an op has it
turn_is : (w : ℕ) (g : GroupRecord) → record { entry = cond (turns_round w) g.exit g.entry; exit = cond (turns_round w) g.entry g.exit; index = group_index w; group = g } ≡ turn_of w g
unfolding turn_of
turn_is w g = either (turns_round w)
  where
    either : (b : Bool) → ◌≡◌ {A = Turned} (record { entry = cond b g.exit g.entry; exit = cond b g.entry g.exit; index = group_index w; group = g }) (cond b (record { entry = g.exit; exit = g.entry; index = group_index w; group = g }) (record { entry = g.entry; exit = g.exit; index = group_index w; group = g }))
    either true = refl
    either false = refl

-- ---- the segment that joins two ends
joint_link : (p : Point) (a b : I32Point) → joint_of p a b ≡ past (link (λ x y. ray_of x y p) a b) tt
unfolding joint_of
joint_link p a b = either (same_point a b)
  where
    either : (t : Bool) → ◌≡◌ {A = Walk One} (cond t (done tt) (past (ray_of a b p) tt)) (past (cond t none (ray_of a b p)) tt)
    either true = refl
    either false = refl

module _ (o : Opened) (s : List ℕ) (k : Sound o s) (p : Point) where
  abbrev seg : I32Point → I32Point → Sight
  seg a b = ray_of a b p

  -- op i, as a stretch of its ring
  abbrev leg : ℕ → Stretch
  leg i = leg_walk (float_tests p) (leg_at (directories o s) i)

  abbrev group : ℕ → GroupRecord
  group i = group_record o s (op_group o s i)

  abbrev turned_leg : ℕ → Turned
  turned_leg i = record { entry = (leg i).from; exit = (leg i).to; index = op_group o s i; group = group i }

  -- ---- one op
  module _ (i : ℕ) (h : i < o.ops.count) where
    turned_given : ok (turned_leg i) ≡ turned_at o s i
    unfolding leg_walk leg_at directories Layout.group_at
    turned_given = turned_is o s i (op_word o s i) (op_is o s k i h) (group i) (group_is o s k (op_group o s i) (op_named o s k i h)) (turned_leg i) (turn_is (op_word o s i) (group i))

    leg_tally : group_walk plain o s p (op_group o s i) (group i) ≡ past (leg i).tally tt
    unfolding leg_walk leg_at directories
    leg_tally = group_walk_law o s p k (op_group o s i) (op_named o s k i h)

    turn_walk_law : (a : I32Point) → turn_walk plain o s p a (turned_leg i) ≡ past (link seg a (leg i).from ⊕ (leg i).tally) tt
    unfolding turn_walk
    turn_walk_law a = rw (joint_link p a (leg i).from) (past_go (link seg a (leg i).from) tt (λ u. group_walk plain o s p (op_group o s i) (group i)) (leg i).tally tt leg_tally)

    step_walk : (z : Round) → op_step plain o s p i z ≡ past (link seg z.exit (leg i).from ⊕ (leg i).tally) (record { exit = (leg i).to; sum = z.sum + op_points o s i })
    unfolding op_step
    step_walk z = rw (← turned_given, turn_walk_law z.exit) (past_done (link seg z.exit (leg i).from ⊕ (leg i).tally) tt (record { exit = (leg i).to; sum = z.sum + op_points o s i }))

  -- ---- the ops after the first, and back to the start
  end_walk : (r : RingRecord) (start : I32Point) (z : Round) → count_rule r z.sum ≡ true → ring_end p r start z ≡ past (link seg z.exit start) tt
  end_walk r start z e = sym (end_is p r start z e) ∙ joint_link p z.exit start

  ops_walk : (r : RingRecord) (start : I32Point) (n i : ℕ) → i + n ≤ o.ops.count → (z : Round) → count_rule r (z.sum + total (op_points o s) n i) ≡ true
      → (ops_from plain o s p n i z go λ w. ring_end p r start w) ≡ past (onward seg start z.exit (map (leg_walk (float_tests p)) (run (leg_at (directories o s)) n i))) tt
  unfolding ops_from total run
  ops_walk r start zero i h z e =
      let none_left : z.sum ≡ z.sum + 0 = omega arith in
      add_none (ring_end p r start z) ∙ end_walk r start z (ap (count_rule r) none_left ∙ e)
  ops_walk r start (suc n) i h z e =
      let one : z.sum + op_points o s i + total (op_points o s) n (i + 1) ≡ z.sum + (op_points o s i + total (op_points o s) n (i + 1)) = omega arith in
      let later = onward seg start (leg i).to (map (leg_walk (float_tests p)) (run (leg_at (directories o s)) n (i + 1))) in
      let next : Round = record { exit = (leg i).to; sum = z.sum + op_points o s i } in
      go_assoc (op_step plain o s p i z) (λ w. ops_from plain o s p n (i + 1) w) (λ w. ring_end p r start w)
      ∙ rw (step_walk i (omega arith) z)
      (past_go (link seg z.exit (leg i).from ⊕ (leg i).tally) next (λ w. ops_from plain o s p n (i + 1) w go λ y. ring_end p r start y) later tt (ops_walk r start n (i + 1) (omega arith) next (ap (count_rule r) one ∙ e))
      ∙ ap (λ (u : Sight). past u tt) (⊕_assoc (link seg z.exit (leg i).from) (leg i).tally later))

  -- ---- a ring
  module _ (i : ℕ) (h : i < o.rings.count) where
    abbrev r : RingRecord
    r = ring_record o s i

    legs_split : run (leg_at (directories o s)) r.count r.first ≡ leg_at (directories o s) r.first ∷ run (leg_at (directories o s)) (r.count - 1) (r.first + 1)
    unfolding run
    legs_split =
        let e : r.count ≡ suc (r.count - 1) = omega (arith, (ring_ruled o s k i h).names.some) in
        ap (λ (n : ℕ). run (leg_at (directories o s)) n r.first) e

    points_split : total (op_points o s) r.count r.first ≡ op_points o s r.first + total (op_points o s) (r.count - 1) (r.first + 1)
    unfolding total
    points_split =
        let e : r.count ≡ suc (r.count - 1) = omega (arith, (ring_ruled o s k i h).names.some) in
        ap (λ (n : ℕ). total (op_points o s) n r.first) e

    ring_of_law : ring_of plain o s p (ring_record o s i) ≡ past (around seg (map (leg_walk (float_tests p)) (run (leg_at (directories o s)) r.count r.first))) tt
    unfolding ring_of ring_rest
    ring_of_law =
        let n = (ring_ruled o s k i h).names in
        let j : r.first < o.ops.count = omega (arith, n.some, n.fits) in
        let after = onward seg (leg r.first).from (leg r.first).to (map (leg_walk (float_tests p)) (run (leg_at (directories o s)) (r.count - 1) (r.first + 1))) in
        let start : Round = record { exit = (leg r.first).to; sum = op_points o s r.first } in
        rw (← turned_given r.first j, legs_split, leg_tally r.first j)
        (past_go (leg r.first).tally tt (λ u. ops_from plain o s p (r.count - 1) (r.first + 1) start go λ z. ring_end p r (leg r.first).from z) after tt
        (ops_walk r (leg r.first).from (r.count - 1) (r.first + 1) (omega (arith, n.some, n.fits)) start (ap (count_rule r) (sym points_split) ∙ k.ring_counts i h)))

  pub ring_walk_law : (edge : Bool) (i : ℕ) → i < o.rings.count → ring_contains plain o s p edge i ≡ ok (ring_walk (float_tests p) edge (Layout.ring_at (directories o s) i))
  unfolding ring_contains ring_walk Layout.ring_at directories
  ring_walk_law edge i h = rw (← ring_is o s k i h) (either (contains (ring_record o s i).bbox p))
    where
      legs : Sight
      legs = around seg (map (leg_walk (float_tests p)) (run (leg_at (directories o s)) (ring_record o s i).count (ring_record o s i).first))

      either : (b : Bool) → cond b (verdict edge (ring_of plain o s p (ring_record o s i))) (ok false) ≡ ok (b && Tally.verdict edge legs)
      either true = ap (verdict edge) (ring_of_law i h) ∙ past_verdict edge legs tt
      either false = refl
