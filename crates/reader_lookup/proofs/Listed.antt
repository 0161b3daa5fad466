-- A cell lists at most 15 candidates, from a place below 2^28: a word's top 4 bits are the count, the low 28 the offset.
-- Assumes nothing.
use Prim.Native.Nat.{ℕ, ◌/◌, ◌%◌, ◌≤◌, ◌<◌}
use native.Mathlib.Omega.{arith}
use mathlib.Core.Path.{◌≡◌}
use mathlib.Core.Bool.{Bool, true, false, cond}
use mathlib.Core.List.{List}
use lib.ListN.{get_or}
use lib.IntN.{ℤ}
use lib.Ieee.{Float}
use Rattle.answer.specs.Answers.{Answer, ok, ◌then◌}
use Rattle.answer.specs.Checks.{same}
use Rattle.fields.specs.Le.{le}
use Rattle.fields.specs.Loads.{load_at, inside}
use Rattle.fields.proofs.Join.{fits}
use Rattle.opened.specs.declared.Grid.{Grid}
use Rattle.opened.specs.declared.Opened.{Opened}
use Rattle.reader_cells.specs.Asked.{on_earth, in_grid, read, cell_candidates, candidates_of}
use Rattle.replies.specs.Replies.{Chosen, none, all, listed}
use Rattle.answer.proofs.AnswersLaws.{then_inv, need_inv, ok_inv, zero_one}

module _ (n place : ℕ) where
  -- where another answer stands, it is not this one
  not_none : (b : Bool) (x : Answer Chosen) → ok (listed n place) ≡ cond b x (ok none) → ok (listed n place) ≡ x
  not_none true x e = e
  not_none false x e = let z : ◌≡◌ {A = ℕ} 0 1 = cc in absurd (zero_one z)

  not_all : (b : Bool) (m : ℕ) (x : Answer Chosen) → ok (listed n place) ≡ cond b (ok (all m)) x → ok (listed n place) ≡ x
  not_all true m x e = let z : ◌≡◌ {A = ℕ} 0 1 = cc in absurd (zero_one z)
  not_all false m x e = e

  -- what a word says
  word_small : (w : ℕ) → w < 0x1_0000_0000 → ok (listed n place) ≡ read w → (n ≤ 15) × (place < 0x1000_0000)
  word_small w h e =
      let l : listed n place ≡ listed (w / 0x1000_0000) (w % 0x1000_0000) = ok_inv _ _ e in
      let en : n ≡ w / 0x1000_0000 = cc in
      let ep : place ≡ w % 0x1000_0000 = cc in
      (omega arith, omega arith)

  module _ (s : List ℕ) (bytes : (i : ℕ) → get_or s i 0 < 256) where
    load_small : (at : ℕ) → ok (listed n place) ≡ (load_at 4 s at then read) → (n ≤ 15) × (place < 0x1000_0000)
    unfolding load_at
    load_small at e =
        let t = then_inv (load_at 4 s at) read (listed n place) e in
        let w : t.0 ≡ le 4 s at = ok_inv _ _ (need_inv 44 (inside 4 s at) (ok (le 4 s at)) t.0 t.1).1 in
        word_small t.0 (omega (arith, fits 4 s at bytes)) t.2

    cell_small : (g : Grid) (column row : ℤ) → ok (listed n place) ≡ cell_candidates s g column row → (n ≤ 15) × (place < 0x1000_0000)
    unfolding cell_candidates
    cell_small g column row e = load_small _ (not_none (in_grid g column row) _ e)

    pub listed_small : (o : Opened) (lng lat : Float) → ok (listed n place) ≡ candidates_of o s lng lat → (n ≤ 15) × (place < 0x1000_0000)
    unfolding candidates_of
    listed_small o lng lat e = cell_small _ _ _ (not_all (same (o.flags % 2) 0) _ _ (not_none (on_earth lng lat) _ e))
