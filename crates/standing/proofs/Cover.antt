-- What the trace of a chunk says of the rules, told of each answer; and a sum of point counts, where what is left to add decides as the whole does.
-- Assumes nothing.
use Prim.Native.Nat.{ℕ, suc, ◌+◌, ◌-◌, ◌<◌}
use native.Mathlib.Omega.{arith}
use mathlib.Core.Path.{◌≡◌, refl, sym, ap, ◌∙◌}
use mathlib.Core.Bool.{Bool, true, false}
use mathlib.Core.List.{List}
use Rattle.plane.specs.declared.I32Point.{I32Point}
use Rattle.plane.specs.Lines.{last_of}
use Rattle.plane.specs.Segment.{same_point}
use Rattle.answer.specs.declared.Refusal.{Refusal}
use Rattle.answer.specs.Answers.{Answer, ok, refused, ◌then◌, holds, answered}
use Rattle.answer.proofs.AnswersLaws.{holds_no, holds_ok}
use Rattle.opened.specs.declared.Opened.{Opened}
use Rattle.reader_records.specs.declared.RingRecord.{RingRecord}
use Rattle.reader_records.specs.declared.GroupRecord.{GroupRecord}
use Rattle.reader_records.specs.Records.{count_rule}
use Rattle.reader_chunks.specs.Chunks.{trace_at, chunk_points}
use Rattle.reader_cover.specs.Cover.{chunk_covers, points_add, group_of_op, sum_of_ops}
use Rattle.reader_cover.proofs.Traces.{trace_covers, trace_decodes, trace_last}

module _ (o : Opened) (s : List ℕ) (i : ℕ) where
  -- F4
  pub covers_no : (r : Refusal) → refused r ≡ trace_at o s i → false ≡ chunk_covers o s i
  covers_no r e = holds_no (λ t. t.0) (trace_at o s i) r e ∙ trace_covers o s i

  pub covers_ok : (inside : Bool) (p : I32Point) → ok (inside, p) ≡ trace_at o s i → inside ≡ chunk_covers o s i
  covers_ok inside p e = holds_ok (λ t. t.0) (trace_at o s i) (inside, p) e inside refl ∙ trace_covers o s i

  -- F3
  pub decodes_no : (r : Refusal) → refused r ≡ trace_at o s i → false ≡ answered (chunk_points o s i)
  unfolding answered
  decodes_no r e = holds_no (λ t. true) (trace_at o s i) r e ∙ trace_decodes o s i

  pub decodes_ok : (t : Bool × I32Point) → ok t ≡ trace_at o s i → true ≡ answered (chunk_points o s i)
  unfolding answered
  decodes_ok t e = holds_ok (λ t. true) (trace_at o s i) t e true refl ∙ trace_decodes o s i

  -- F5: the last point
  module _ (q : I32Point) where
    pub last_no : (r : Refusal) → refused r ≡ trace_at o s i → false ≡ holds (λ l. same_point q (last_of l)) (chunk_points o s i)
    last_no r e = holds_no (λ t. same_point q t.1) (trace_at o s i) r e ∙ trace_last o s i q

    pub last_ok : (inside : Bool) (p : I32Point) → ok (inside, p) ≡ trace_at o s i → (r : Bool) → r ≡ same_point q p → r ≡ holds (λ l. same_point q (last_of l)) (chunk_points o s i)
    last_ok inside p e r h = holds_ok (λ t. same_point q t.1) (trace_at o s i) (inside, p) e r h ∙ trace_last o s i q

-- with `sum` counted so far, n ops from op j on
unfoldable pub adds_up : Opened → List ℕ → RingRecord → ℕ → ℕ → ℕ → Bool
adds_up o s v sum n j = holds (λ t. count_rule v (sum + t)) (sum_of_ops o s n j)

module _ (o : Opened) (s : List ℕ) (v : RingRecord) where
  pub adds_start : (j : ℕ) → j ≡ v.first → adds_up o s v 0 v.count j ≡ points_add o s v
  unfolding adds_up points_add holds
  adds_start j e = rw e (go (sum_of_ops o s v.count v.first))
    where
      go : (x : Answer ℕ) → holds (λ t. count_rule v (0 + t)) x ≡ holds (count_rule v) x
      go (ok t) = let z : 0 + t ≡ t = omega arith in ap (count_rule v) z
      go (refused r) = refl

  module _ (n j : ℕ) (h : 0 < n) where
    one_no : (r : Refusal) → refused r ≡ group_of_op o s j → sum_of_ops o s n j ≡ refused r
    unfolding sum_of_ops
    one_no r e =
        let m : n ≡ suc (n - 1) = omega arith in
        rw (m, ← e)

    one_more : (g : GroupRecord) → ok g ≡ group_of_op o s j → sum_of_ops o s n j ≡ (sum_of_ops o s (n - 1) (j + 1) then λ t. ok (g.points + t))
    unfolding sum_of_ops
    one_more g e = ap (λ (k : ℕ). sum_of_ops o s k j) m ∙ ap (λ (y : Answer GroupRecord). y then λ g. sum_of_ops o s (n - 1) (j + 1) then λ t. ok (g.points + t)) (sym e)
      where
        m : n ≡ suc (n - 1)
        m = omega arith

  module _ (sum n j : ℕ) (whole : Bool) (inv : adds_up o s v sum n j ≡ whole) where
    pub adds_no : 0 < n → (r : Refusal) → refused r ≡ group_of_op o s j → false ≡ whole
    unfolding adds_up holds
    adds_no h r e = ap (holds (λ t. count_rule v (sum + t))) (sym (one_no n j h r e)) ∙ inv

    pub adds_on : 0 < n → (g : GroupRecord) → ok g ≡ group_of_op o s j → (x : ℕ) → x ≡ g.points → adds_up o s v (sum + x) (n - 1) (j + 1) ≡ whole
    unfolding adds_up holds
    adds_on h g e x f = step (sum_of_ops o s (n - 1) (j + 1)) ∙ ap (holds (λ t. count_rule v (sum + t))) (sym (one_more n j h g e)) ∙ inv
      where
        step : (y : Answer ℕ) → holds (λ t. count_rule v (sum + x + t)) y ≡ holds (λ t. count_rule v (sum + t)) (y then λ t. ok (g.points + t))
        step (ok t) = let z : sum + x + t ≡ sum + (g.points + t) = omega arith in ap (count_rule v) z
        step (refused r) = refl

    pub adds_end : n ≡ 0 → count_rule v sum ≡ whole
    unfolding adds_up sum_of_ops holds
    adds_end z =
        let y : sum + 0 ≡ sum = omega arith in
        let i : count_rule v (sum + 0) ≡ whole = rw z at inv in
        ap (count_rule v) (sym y) ∙ i
