-- A group's points behind the positions so far, stored or turned round.
-- Assumes nothing.
use Prim.Native.Nat.{ℕ, ◌+◌, ◌*◌, ◌≤◌}
use native.Mathlib.Omega.{arith}
use mathlib.Core.Path.{◌≡◌, refl, sym, ap, ◌∙◌}
use mathlib.Core.Bool.{Bool, true, false, cond}
use mathlib.Core.List.{List, ◌++◌, reverse}
use lib.ListN.{length, take, length-append, length-reverse}
use lib.IntN.{ℤ}
use Rattle.plane.specs.declared.I32Point.{I32Point}
use Rattle.answer.specs.declared.Refusal.{Refusal}
use Rattle.answer.specs.Answers.{ok, refused}
use Rattle.opened.specs.declared.Opened.{Opened}
use Rattle.reader_records.specs.declared.GroupRecord.{GroupRecord}
use Rattle.reader_outline.specs.Held.{spots, points_in}
use Rattle.reader_outline.specs.Told.{few_enough, Keeps}
use Rattle.reader_outline.specs.Steps.{row_points, side_points, turned_in}
use Rattle.reader_outline.proofs.Spots.{spots_room, points_length}
use Rattle.reader_outline.proofs.Turning.{turned_behind}
use Rattle.reader_outline.proofs.Filling.{upto, fills, fills_no, stands_there}

-- m are the numbers before, of which the first k positions stay; a is where the group's chunks start
module _ (o : Opened) (s : List ℕ) (g : GroupRecord) (t : Bool) (m : List ℤ) (k : ℕ) (size : length m ≡ 20_000) (small : k ≤ 10_000) where
  abbrev row : List I32Point
  row = row_points o s g.count g.first

  side : side_points o s g t ≡ cond t (reverse row) row
  unfolding side_points
  side = refl

  side_length : length (side_points o s g t) ≡ length row
  side_length = ap length side ∙ go t
    where
      go : (b : Bool) → length (cond b (reverse row) row) ≡ length row
      go true = length-reverse row
      go false = refl

  many : length (points_in m k ++ row) ≡ k + length row
  many = length-append (points_in m k) row ∙ ap (λ (n : ℕ). n + length row) (points_length k m (omega (arith, size, small)))

  pub side_no : (r : Refusal) → refused r ≡ few_enough (points_in m k ++ row) → (w : List ℤ) → (refused r ≡ few_enough (points_in m k ++ side_points o s g t)) × Keeps w (points_in m k ++ side_points o s g t)
  side_no r f w =
      fills_no w (points_in m k ++ side_points o s g t) (points_in m k ++ row) r f
      (omega (arith, side_length, length-append (points_in m k) (side_points o s g t), length-append (points_in m k) row))

  -- n positions stand in the numbers m' now
  module _ (n : ℕ) (f : ok n ≡ few_enough (points_in m k ++ row)) (m' : List ℤ) (size' : length m' ≡ 20_000) (h : Keeps m' (points_in m k ++ row)) where
    so : (points_in m' n ≡ points_in m k ++ row) × (n ≤ 10_000)
    so = stands_there m' (points_in m k ++ row) n f h

    pub turn_room : (k ≤ n) × (2 * n ≤ length m')
    turn_room = (omega (arith, (upto (points_in m k ++ row) n f).0, many), omega (arith, so.1, size'))

    pub side_stored : t ≡ false → (ok n ≡ few_enough (points_in m k ++ side_points o s g t)) × Keeps m' (points_in m k ++ side_points o s g t)
    side_stored b =
        fills m' (points_in m k ++ side_points o s g t) n so.1 size'
        (so.0 ∙ ap (λ (l : List I32Point). points_in m k ++ l) (sym (side ∙ ap (λ (u : Bool). cond u (reverse row) row) b)))

    pub side_turned : t ≡ true → (w : List ℤ) → length w ≡ 20_000 → spots w ≡ turned_in (spots m') k n → (ok n ≡ few_enough (points_in m k ++ side_points o s g t)) × Keeps w (points_in m k ++ side_points o s g t)
    unfolding points_in
    side_turned b w z q =
        fills w (points_in m k ++ side_points o s g t) n so.1 z
        (ap (take n) q
        ∙ turned_behind (spots m') (points_in m k) row k n (points_length k m (omega (arith, size, small))) so.0 (sym ((upto (points_in m k ++ row) n f).0 ∙ many)) (spots_room n m' turn_room.1)
        ∙ ap (λ (l : List I32Point). points_in m k ++ l) (sym (side ∙ ap (λ (u : Bool). cond u (reverse row) row) b)))
