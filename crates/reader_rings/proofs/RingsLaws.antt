-- Laws of specs/Rings, as proofs cite them. Nothing here need be believed.
-- Assumes nothing.
use Prim.Native.Nat.{ℕ, suc, ◌+◌, ◌-◌, ◌≤◌, ◌<◌}
use native.Mathlib.Omega.{arith}
use mathlib.Core.Path.{◌≡◌, sym, ap, ◌∙◌}
use mathlib.Core.Bool.{Bool, true, false}
use mathlib.Core.List.{List}
use Rattle.std.specs.declared.option.Option.{Option}
use Rattle.std.specs.declared.option.Option.TheVariants.{None, Some}
use Rattle.basics.specs.Parity.{◌⊻◌, ⊻_idr}
use Rattle.plane.specs.declared.Point.{Point}
use Rattle.plane.specs.declared.I32Point.{I32Point}
use Rattle.answer.specs.declared.Refusal.{Refusal}
use Rattle.answer.specs.Answers.{ok}
use Rattle.answer.specs.Walks.{Walk, broken, on, off, add, ◌go◌}
use Rattle.answer.proofs.WalksLaws.{add_none, breaks, hits, keeps, ends}
use Rattle.opened.specs.declared.Opened.{Opened}
use Rattle.reader_records.specs.declared.GroupRecord.{GroupRecord}
use Rattle.reader_records.specs.declared.RingRecord.{RingRecord}
use Rattle.reader_records.specs.Records.{group_index, op_at, group_at, count_rule}
use Rattle.reader_groups.specs.Groups.{One}
use Rattle.reader_ways.specs.Ways.{Way, group_scan_by}
use Rattle.reader_rings.specs.declared.Turned.{Turned}
use Rattle.reader_rings.specs.declared.Round.{Round}
use Rattle.reader_rings.specs.Steps.{beside_told}
use Rattle.reader_rings.specs.Rings.{turn_of, turned_at, joint_of, group_walk, turn_walk, op_step, ops_from, ring_end}

-- the group of an op
pub turned_is : (o : Opened) (s : List ℕ) (i w : ℕ) → ok w ≡ op_at o s i → (g : GroupRecord) → ok g ≡ group_at o s (group_index w) → (t : Turned) → t ≡ turn_of w g → ok t ≡ turned_at o s i
unfolding turned_at
turned_is o s i w h g k t e = rw (← h, ← k, e)

-- by what the code says of a group beside the point
module _ (w : Way) (o : Opened) (s : List ℕ) (p : Point) (i : ℕ) (g : GroupRecord) (r : Option Bool) (h : beside_told r (group_scan_by w o s p i g) ≡ group_walk w o s p i g) where
  pub walk_past : (b : Bool) → r ≡ Some b → off b tt ≡ group_walk w o s p i g
  walk_past b k = sym (ap (λ (x : Option Bool). beside_told x (group_scan_by w o s p i g)) k) ∙ h

  pub walk_through : r ≡ None → (v : Walk One) → v ≡ group_scan_by w o s p i g → v ≡ group_walk w o s p i g
  walk_through k v e = e ∙ sym (ap (λ (x : Option Bool). beside_told x (group_scan_by w o s p i g)) k) ∙ h

-- a group beside the point, from the exit a of the group before
pub turn_past : (w : Way) (o : Opened) (s : List ℕ) (p : Point) (a : I32Point) (t : Turned) (b : Bool) → off b tt ≡ joint_of p a t.entry
    → (d : Bool) → off d tt ≡ group_walk w o s p t.index t.group → (n : Bool) → n ≡ b ⊻ d → off n tt ≡ turn_walk w o s p a t
unfolding turn_walk add
turn_past w o s p a t b h d e n k = rw (← h, ← e, k)

-- op i, after z
pub step_is : (w : Way) (o : Opened) (s : List ℕ) (p : Point) (i : ℕ) (z : Round) (t : Turned) → ok t ≡ turned_at o s i
    → (b : Bool) → off b tt ≡ turn_walk w o s p z.exit t → off b (record { exit = t.exit; sum = z.sum + t.group.points }) ≡ op_step w o s p i z
unfolding op_step add
step_is w o s p i z t h b k = rw (← h, ← k) (ap (λ (x : Bool). off x (record { exit = t.exit; sum = z.sum + t.group.points })) (sym (⊻_idr b)))

-- ---- the loop over ops: past i - from of n ops, with the parity so far
module _ (w : Way) (o : Opened) (s : List ℕ) (p : Point) (n from : ℕ) (m : Walk Round) where
  pub ops_start : (z : Round) → ops_from w o s p n from z ≡ m → add false (ops_from w o s p (from + n - from) from z) ≡ m
  ops_start z e =
      let k : from + n - from ≡ n = omega arith in
      rw k (add_none _ ∙ e)

  module _ (i : ℕ) (odd : Bool) (z : Round) (v : add odd (ops_from w o s p (from + n - i) i z) ≡ m) where
    pub ops_end : from + n ≤ i → off odd z ≡ m
    unfolding ops_from
    ops_end h =
        let k : from + n - i ≡ 0 = omega arith in
        ends odd _ _ v z (rw k)

    module _ (h : i < from + n) where
      ops_one : (y : Walk Round) → y ≡ op_step w o s p i z → (y go λ x. ops_from w o s p (from + n - (i + 1)) (i + 1) x) ≡ ops_from w o s p (from + n - i) i z
      unfolding ops_from
      ops_one y e =
          let k : from + n - i ≡ suc (from + n - (i + 1)) = omega arith in
          rw (k, e)

      pub ops_no : (r : Refusal) → broken r ≡ op_step w o s p i z → broken r ≡ m
      ops_no r e = breaks odd _ _ v r (ops_one (broken r) e)

      pub ops_on : on ≡ op_step w o s p i z → on ≡ m
      ops_on e = hits odd _ _ v (ops_one on e)

      pub ops_off : (b c : Bool) (y : Round) → off b y ≡ op_step w o s p i z → c ≡ odd ⊻ b → add c (ops_from w o s p (from + n - (i + 1)) (i + 1) y) ≡ m
      ops_off b c y e f = keeps odd _ _ v b c _ f (ops_one (off b y) e)

pub end_is : (p : Point) (r : RingRecord) (q : I32Point) (z : Round) → count_rule r z.sum ≡ true → joint_of p z.exit q ≡ ring_end p r q z
unfolding ring_end
end_is p r q z h = rw h
