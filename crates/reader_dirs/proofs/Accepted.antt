-- What is known of a file whose chunks and groups were found fine: every question about a chunk or a group by its index is answered, and with what.
-- Assumes nothing.
use Prim.Native.Nat.{ℕ, zero, suc, ◌≤◌, ◌<◌}
use native.Mathlib.Omega.{arith}
use mathlib.Core.Path.{◌≡◌, refl}
use mathlib.Core.Bool.{Bool, true, false}
use borrow.Author.Tests.{ltb-true, ltb-false}
use lib.Dec.{ltb}
use mathlib.Core.List.{List}
use Rattle.answer.proofs.CheckLaws.{fine_one, fine_rest, fine_claim, at_le, below_lt, same_eq, each_at}
use Rattle.answer.specs.Answers.{ok, fine}
use Rattle.opened.specs.declared.Opened.{Opened}
use Rattle.opened.specs.Widths.{group_wide, chunk_wide}
use Rattle.reader_records.specs.Records.{chunk_at, chunk_in, chunk_rule, group_at, group_in, group_rule}
use Rattle.reader_dirs.specs.Dirs.{chunk_of, group_of, chunk_check, chunk_check_at, chunks_check, least_off, count_at, group_check, group_check_at, groups_check, Room}
use Rattle.basics.specs.Total.{total}
use Rattle.reader_records.proofs.RecordsLaws.{ruled_there}

module _ (s : List ℕ) (o : Opened) (room : Room s o) (passes : chunks_check s o ≡ fine) where
  module _ (i : ℕ) (h : i < o.chunks.count) where
    checked : chunk_check (chunk_of s o.chunks i) o.points.len (least_off s o.chunks i) ≡ fine
    unfolding chunks_check chunk_check_at
    checked = each_at (chunk_check_at s o.chunks o.points.len) o.chunks.count i passes h

    pub chunk_kept : chunk_rule (chunk_of s o.chunks i) ≡ true
    unfolding chunk_check
    chunk_kept = fine_claim _ _ (fine_one _ _ checked)

    -- the question by its index is answered
    pub chunk_found : ok (chunk_of s o.chunks i) ≡ chunk_at o s i
    unfolding chunk_at
    chunk_found = ruled_there s o.chunks chunk_wide i 34 (chunk_in s) chunk_rule h (omega (arith, room.chunks.fits)) chunk_kept

    -- it has points
    pub chunk_some : 0 < (chunk_of s o.chunks i).count
    unfolding chunk_check
    chunk_some = omega (arith, at_le _ _ (fine_claim _ _ (fine_one _ _ (fine_rest _ _ checked))))

    -- its bytes begin inside POINTS
    pub chunk_inside : (chunk_of s o.chunks i).off < o.points.len
    unfolding chunk_check
    chunk_inside = below_lt _ _ (fine_claim _ _ (fine_one _ _ (fine_rest _ _ (fine_rest _ _ checked))))

    chunk_least : least_off s o.chunks i ≤ (chunk_of s o.chunks i).off
    unfolding chunk_check
    chunk_least = at_le _ _ (fine_claim _ _ (fine_one _ _ (fine_rest _ _ (fine_rest _ _ (fine_rest _ _ checked)))))

  -- offsets rise
  pub next_rises : (i : ℕ) → suc i < o.chunks.count → (chunk_of s o.chunks i).off < (chunk_of s o.chunks (suc i)).off
  unfolding least_off
  next_rises i h = omega (arith, chunk_least (suc i) h)

  pub rises : (i j : ℕ) → i < j → j < o.chunks.count → (chunk_of s o.chunks i).off < (chunk_of s o.chunks j).off
  rises i zero h k = absurd (omega arith)
  rises i (suc j) h k = by (ltb i j) refl (λ l. rises i j l (omega arith))
    where
      by : (b : Bool) → ltb i j ≡ b → (i < j → (chunk_of s o.chunks i).off < (chunk_of s o.chunks j).off) → (chunk_of s o.chunks i).off < (chunk_of s o.chunks (suc j)).off
      by true e r = omega (arith, r (ltb-true i j e), next_rises j k)
      by false e r =
          let same : i ≡ j = omega (arith, ltb-false i j e) in
          rw same (next_rises j k)

module _ (s : List ℕ) (o : Opened) (room : Room s o) (passes : groups_check s o ≡ fine) (i : ℕ) (h : i < o.groups.count) where
  group_checked : group_check s o.chunks (group_of s o.groups i) ≡ fine
  unfolding groups_check group_check_at
  group_checked = each_at (group_check_at s o.groups o.chunks) o.groups.count i passes h

  pub group_kept : group_rule o.chunks.count (group_of s o.groups i) ≡ true
  unfolding group_check
  group_kept = fine_claim _ _ (fine_one _ _ group_checked)

  -- the question by its index is answered
  pub group_found : ok (group_of s o.groups i) ≡ group_at o s i
  unfolding group_at
  group_found = ruled_there s o.groups group_wide i 34 (group_in s) (group_rule o.chunks.count) h (omega (arith, room.groups.fits)) group_kept

  -- its chunks' counts add to its point count
  pub group_sum : total (count_at s o.chunks) (group_of s o.groups i).count (group_of s o.groups i).first ≡ (group_of s o.groups i).points
  unfolding group_check
  group_sum = same_eq _ _ (fine_claim _ _ (fine_one _ _ (fine_rest _ _ group_checked)))
