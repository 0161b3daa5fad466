-- Chunks in a row, as the loop writes their points: what is left, behind what is written, is the whole.
-- Assumes nothing.
use Prim.Native.Nat.{ℕ, ◌+◌, ◌-◌, ◌≤◌, ◌<◌}
use native.Mathlib.Omega.{arith}
use mathlib.Core.Path.{◌≡◌, refl, sym, ap, ◌∙◌}
use mathlib.Core.List.{List, [], ◌++◌, append_assoc, append-nil}
use lib.ListN.{length, length-append}
use lib.IntN.{ℤ}
use Rattle.plane.specs.declared.I32Point.{I32Point}
use Rattle.answer.specs.declared.Refusal.{Refusal}
use Rattle.answer.specs.Answers.{ok, refused}
use Rattle.plane.specs.Runs.{run}
use Rattle.shapes.specs.Shapes.{chunk_points, points}
use Rattle.opened.specs.declared.Opened.{Opened}
use Rattle.directories.specs.Directories.{chunk_shape}
use Rattle.directories.proofs.Rows.{run_one}
use Rattle.reader_outline.specs.Held.{points_in}
use Rattle.reader_outline.specs.Told.{few_enough, Keeps}
use Rattle.reader_outline.specs.Steps.{row_points}
use Rattle.reader_outline.proofs.Filling.{fills, fills_no, stands_there}

module _ (o : Opened) (s : List ℕ) where
  row_none : (n i : ℕ) → n ≡ 0 → row_points o s n i ≡ []
  unfolding row_points run
  row_none n i e = rw e

  pub row_one : (n i : ℕ) → 0 < n → row_points o s n i ≡ chunk_points (chunk_shape o s i) ++ row_points o s (n - 1) (i + 1)
  unfolding row_points
  row_one n i h = ap points (run_one (chunk_shape o s) n i h)

  -- m₀ and k are the numbers and positions at the start, m and n those now; the chunks up to `to`, from chunk i on, are to come
  pub record Rowing (m₀ m : List ℤ) (k first count n i : ℕ) : Type 0 where
    pub size : length m ≡ 20_000
    pub room : n ≤ 10_000
    pub all : points_in m n ++ row_points o s (first + count - i) i ≡ points_in m₀ k ++ row_points o s count first

  pub row_start : (m : List ℤ) (k first count : ℕ) → length m ≡ 20_000 → k ≤ 10_000 → Rowing m m k first count k first
  row_start m k first count l h =
      let z : first + count - first ≡ count = omega arith in
      record { size = l; room = h; all = rw z }

  module _ (m₀ m : List ℤ) (k first count n i : ℕ) (w : Rowing m₀ m k first count n i) where
    module _ (h : i < first + count) where
      less : first + count - i - 1 ≡ first + count - (i + 1)
      less = omega arith

      joined : points_in m n ++ chunk_points (chunk_shape o s i) ++ row_points o s (first + count - (i + 1)) (i + 1) ≡ points_in m₀ k ++ row_points o s count first
      joined =
          append_assoc (points_in m n) (chunk_points (chunk_shape o s i)) (row_points o s (first + count - (i + 1)) (i + 1))
          ∙ ap (λ (x : List I32Point). points_in m n ++ x) (ap (λ (x : ℕ). chunk_points (chunk_shape o s i) ++ row_points o s x (i + 1)) (sym less) ∙ sym (row_one (first + count - i) i (omega arith)))
          ∙ w.all

      pub row_no : (r : Refusal) → refused r ≡ few_enough (points_in m n ++ chunk_points (chunk_shape o s i)) → (m' : List ℤ) → (refused r ≡ few_enough (points_in m₀ k ++ row_points o s count first)) × Keeps m' (points_in m₀ k ++ row_points o s count first)
      row_no r e m' =
          fills_no m' (points_in m₀ k ++ row_points o s count first) (points_in m n ++ chunk_points (chunk_shape o s i)) r e
          (omega (arith, ap length joined, length-append (points_in m n ++ chunk_points (chunk_shape o s i)) (row_points o s (first + count - (i + 1)) (i + 1))))

      pub row_on : (m' : List ℤ) → length m' ≡ 20_000 → (n' : ℕ) → ok n' ≡ few_enough (points_in m n ++ chunk_points (chunk_shape o s i)) → Keeps m' (points_in m n ++ chunk_points (chunk_shape o s i)) → Rowing m₀ m' k first count n' (i + 1)
      row_on m' l n' e g =
          let f = stands_there m' (points_in m n ++ chunk_points (chunk_shape o s i)) n' e g in
          record {
            size = l;
            room = f.1;
            all = ap (λ (x : List I32Point). x ++ row_points o s (first + count - (i + 1)) (i + 1)) f.0 ∙ joined;
          }

    pub row_end : first + count ≤ i → (ok n ≡ few_enough (points_in m₀ k ++ row_points o s count first)) × Keeps m (points_in m₀ k ++ row_points o s count first)
    row_end h =
        fills m (points_in m₀ k ++ row_points o s count first) n w.room w.size
        (sym (append-nil (points_in m n)) ∙ ap (λ (x : List I32Point). points_in m n ++ x) (sym (row_none (first + count - i) i (omega arith))) ∙ w.all)
