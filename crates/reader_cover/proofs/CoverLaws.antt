-- Laws of specs/Cover, as proofs cite them. Nothing here need be believed.
-- Assumes nothing.
use Prim.Native.Nat.{ℕ, ◌+◌, ◌-◌}
use mathlib.Core.Path.{◌≡◌}
use mathlib.Core.Bool.{Bool, ◌&&◌}
use mathlib.Core.List.{List}
use Rattle.plane.specs.Lines.{last_of}
use Rattle.answer.specs.declared.Refusal.{Refusal}
use Rattle.answer.specs.Answers.{ok, refused, holds}
use Rattle.opened.specs.declared.Opened.{Opened}
use Rattle.reader_records.specs.declared.GroupRecord.{GroupRecord}
use Rattle.reader_records.specs.Records.{group_index, op_at, group_at}
use Rattle.reader_chunks.specs.Chunks.{first_at, chunk_points}
use Rattle.reader_cover.specs.Cover.{ends_fit, group_of_op}
use Rattle.plane.specs.Segment.{same_point}

module _ (o : Opened) (s : List ℕ) (j : ℕ) where
  pub op_group_no : (r : Refusal) → refused r ≡ op_at o s j → refused r ≡ group_of_op o s j
  unfolding group_of_op
  op_group_no r e = rw (← e)

  pub op_group_is : (w : ℕ) → ok w ≡ op_at o s j → group_at o s (group_index w) ≡ group_of_op o s j
  unfolding group_of_op
  op_group_is w e = rw (← e)

pub ends_are : (o : Opened) (s : List ℕ) (g : GroupRecord) (a b : Bool) (i j : ℕ) → i ≡ g.first → j ≡ g.first + (g.count - 1)
    → a ≡ holds (same_point g.entry) (first_at o s i) → b ≡ holds (λ l. same_point g.exit (last_of l)) (chunk_points o s j) → a && b ≡ ends_fit o s g
unfolding ends_fit
ends_are o s g a b i j e f h k = rw (h, k, e, f)
