-- A ring's point counts added up as answers (reader_cover) and as numbers (reader_exact): where no group is refused the sums are one.
-- Assumes nothing.
use Prim.Native.Nat.{ℕ, zero, suc, ◌+◌}
use mathlib.Core.Path.{◌≡◌, sym, ap, ap₂, ◌∙◌}
use mathlib.Core.List.{List}
use Rattle.answer.specs.Answers.{ok, ◌then◌}
use Rattle.opened.specs.declared.Opened.{Opened}
use Rattle.reader_records.specs.declared.GroupRecord.{GroupRecord}
use Rattle.reader_records.specs.Records.{group_index, op_at, group_at}
use Rattle.directories.specs.Directories as D
use Rattle.directories.specs.Directories.{op_word, group_record}
use Rattle.basics.specs.Total.{total}
use Rattle.answer.proofs.AnswersLaws.{then_inv, ok_inv}
use Rattle.reader_cover.specs.Cover.{group_of_op, sum_of_ops}

module _ (o : Opened) (s : List ℕ) where
  -- the group that op j names
  word_is : (j w : ℕ) → ok w ≡ op_at o s j → op_word o s j ≡ w
  unfolding op_word
  word_is j w e = rw (← e)

  group_is : (i : ℕ) (g : GroupRecord) → ok g ≡ group_at o s i → group_record o s i ≡ g
  unfolding group_record
  group_is i g e = rw (← e)

  op_is : (j : ℕ) (g : GroupRecord) → ok g ≡ group_of_op o s j → group_record o s (D.op_group o s j) ≡ g
  unfolding group_of_op
  op_is j g e =
      let a = then_inv (op_at o s j) (λ w. group_at o s (group_index w)) g e in
      ap (λ (w : ℕ). group_record o s (group_index w)) (word_is j a.0 a.1) ∙ group_is (group_index a.0) g a.2

  pub points_total : (n j t : ℕ) → ok t ≡ sum_of_ops o s n j → t ≡ total (D.op_points o s) n j
  unfolding sum_of_ops total
  points_total zero j t e = ok_inv t 0 e
  points_total (suc n) j t e =
      let a = then_inv (group_of_op o s j) (λ g. sum_of_ops o s n (j + 1) then λ t. ok (g.points + t)) t e in
      let b = then_inv (sum_of_ops o s n (j + 1)) (λ t. ok (a.0.points + t)) t a.2 in
      ok_inv t (a.0.points + b.0) b.2
      ∙ ap₂ ◌+◌ (ap (λ (g : GroupRecord). g.points) (sym (op_is j a.0 a.1))) (points_total n (j + 1) b.0 b.1)
