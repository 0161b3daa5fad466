-- What was found of the chunks' boxes stands for F3 of them, and for F4 when its turn comes, as a full check that reads each chunk once uses it.
-- Assumes nothing.
use Prim.Native.Nat.{ℕ, zero, suc, ◌<◌}
use native.Mathlib.Omega.{arith}
use mathlib.Core.Path.{◌≡◌, refl, sym, ap, ◌∙◌}
use mathlib.Core.Bool.{Bool, true, false}
use mathlib.Core.List.{List}
use Rattle.plane.specs.Lines.{every}
use Rattle.answer.specs.Answers.{holds, answered}
use Rattle.boxes.specs.Box.{in_box}
use Rattle.opened.specs.declared.Opened.{Opened}
use Rattle.reader_records.specs.Records.{chunk_at}
use Rattle.reader_chunks.specs.Chunks.{chunk_points}
use Rattle.reader_cover.specs.Cover.{chunk_covers}
use Rattle.reader_cover.specs.All.{all}
use Rattle.reader_cover.proofs.AllLaws.{all_at, at_all}
use Rattle.answer.proofs.AnswersLaws.{held, answered_ok}
use Rattle.reader_check.specs.FullCheck as D
use Rattle.reader_check.specs.FullCheck.{asked, rule}

-- the number of a rule that is broken already; where there is none, 0, what comes after
unfoldable pub found : ℕ → ℕ → ℕ
found zero after = after
found (suc n) after = suc n

module _ (o : Opened) (s : List ℕ) where
  -- ---- F4 of a chunk says F3 of it
  covers_decodes : (i : ℕ) → chunk_covers o s i ≡ true → answered (chunk_points o s i) ≡ true
  unfolding chunk_covers
  covers_decodes i h =
      let v = held (λ v. holds (every (in_box v.bbox)) (chunk_points o s i)) (chunk_at o s i) h in
      let l = held (every (in_box v.0.bbox)) (chunk_points o s i) v.2 in
      sym (answered_ok (chunk_points o s i) l.0 l.1)

  all_decode : all (asked o s D.Chunk).test o.chunks.count 0 ≡ true → all (asked o s D.Decode).test o.chunks.count 0 ≡ true
  all_decode h = at_all (asked o s D.Decode).test o.chunks.count 0 (λ j a b. covers_decodes j (all_at (asked o s D.Chunk).test o.chunks.count 0 h j a b))

  -- ---- the numbers
  -- nothing is broken yet, and this is not either
  none_found : (k n : ℕ) (b : Bool) → 0 < n → found k (rule n b 0) ≡ 0 → (k ≡ 0) × (b ≡ true)
  unfolding found rule
  none_found zero n true l h = (refl, refl)
  none_found zero n false l h = absurd (omega arith)
  none_found (suc k) n b l h = absurd (omega arith)

  pub decode_known : (broken boxes : ℕ) → boxes ≡ found broken (rule 4 (all (asked o s D.Chunk).test o.chunks.count 0) 0) → boxes ≡ 0
      → 0 ≡ found broken (rule 3 (all (asked o s D.Decode).test o.chunks.count 0) 0)
  unfolding found rule
  decode_known broken boxes e z =
      let h = none_found broken 4 (all (asked o s D.Chunk).test o.chunks.count 0) (omega arith) (sym e ∙ z) in
      rw (h.0, all_decode h.1)

-- ---- what was found before two others were looked for
found_zero : (k x : ℕ) → found k x ≡ 0 → k ≡ 0
unfolding found
found_zero zero x h = refl
found_zero (suc k) x h = absurd (omega arith)

kept : (a b k x : ℕ) → (b ≡ 0 → a ≡ 0) → k ≡ found b (found a x) → k ≡ found b x
unfolding found
kept a zero k x f e = e ∙ ap (λ (y : ℕ). found y x) (f refl)
kept a (suc b) k x f e = e

-- the number that the boxes gave when they were looked at is theirs now
pub boxes_judged : (a b c d boxes x y z : ℕ) → boxes ≡ found a x → b ≡ found a y → c ≡ found b z → d ≡ found c boxes → d ≡ found c x
boxes_judged a b c d boxes x y z p q r t =
    kept a c d x (λ n. found_zero a y (sym q ∙ found_zero b z (sym r ∙ n))) (t ∙ ap (found c) p)
