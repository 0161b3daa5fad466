-- The outcomes of the two questions, one law for each: what the code hands back, and the definition.
-- Assumes nothing.
use Prim.Native.Nat.{ℕ, ◌+◌, ◌*◌, ◌%◌, ◌<◌}
use mathlib.Core.Path.{◌≡◌, ap, ◌∙◌}
use mathlib.Core.Bool.{true, false}
use mathlib.Core.List.{List}
use lib.IntN.{ℤ, ◌-ℤ◌}
use lib.Ieee.{Float}
use Rattle.fields.specs.Loads.{load_at}
use Rattle.answer.specs.Answers.{Answer, ok}
use Rattle.answer.proofs.CheckLaws.{lt_below, eq_same, ne_same}
use Rattle.opened.specs.declared.Grid.{Grid}
use Rattle.opened.specs.declared.Opened.{Opened}
use Rattle.reader_grid.specs.Word.{word_count, word_offset}
use Rattle.floors.specs.Floor.{floor_of}
use Rattle.reader_cells.specs.Asked.{on_earth, in_grid, cell_of, read, cell_candidates, candidates_of, candidate_place, zone_below, candidate_at}
use Rattle.replies.specs.Replies.{Chosen, none, all, listed}
use Rattle.answer.proofs.AnswersLaws.{need_met, then_ok}

module _ (zones zone : ℕ) where
  pub zone_in_law : (r : ℕ) → r ≡ zone → r < zones → ok r ≡ zone_below zones zone
  unfolding zone_below
  zone_in_law r e h = ap ok e ∙ need_met 31 _ _ (lt_below _ _ (rw e at h))

module _ (o : Opened) (s : List ℕ) (place : ℕ) where
  -- at the place that was worked out
  module _ (h : place < o.grid.total) (at : ℕ) (e : at ≡ candidate_place o.grid place) where
    pub place_read : (zone : ℕ) (x : Answer ℕ) → ok zone ≡ load_at 2 s at → x ≡ zone_below o.zones.count zone → x ≡ candidate_at o s place
    unfolding candidate_at
    place_read zone x f g = g ∙ then_ok _ (zone_below o.zones.count) zone (f ∙ ap (load_at 2 s) e) ∙ need_met 30 _ _ (lt_below _ _ h)

module _ (s : List ℕ) (g : Grid) (column row : ℤ) where
  pub cell_outside : in_grid g column row ≡ false → ok none ≡ cell_candidates s g column row
  unfolding cell_candidates
  cell_outside h = rw h

  module _ (h : in_grid g column row ≡ true) (at : ℕ) (e : at ≡ g.off + 12 + 4 * cell_of g column row) where
    pub cell_read : (word count place : ℕ) → ok word ≡ load_at 4 s at → count ≡ word_count word → place ≡ word_offset word →
        ok (listed count place) ≡ cell_candidates s g column row
    unfolding cell_candidates
    cell_read word count place f ec ep = rw (ec, ep) (then_ok _ read word (f ∙ ap (load_at 4 s) e) ∙ rw h)

module _ (o : Opened) (s : List ℕ) (lng lat : Float) where
  pub off_earth : on_earth lng lat ≡ false → ok none ≡ candidates_of o s lng lat
  unfolding candidates_of
  off_earth h = rw h

  pub no_grid_law : on_earth lng lat ≡ true → o.flags % 2 ≡ 0 → ok (all o.zones.count) ≡ candidates_of o s lng lat
  unfolding candidates_of
  no_grid_law h f = rw (h, eq_same (o.flags % 2) 0 f)

  pub by_grid : (column row : ℤ) (x : Answer Chosen) → on_earth lng lat ≡ true → (o.flags % 2 ≡ 0 → ⊥) →
      column ≡ floor_of lng -ℤ o.grid.lng → row ≡ floor_of lat -ℤ o.grid.lat →
      x ≡ cell_candidates s o.grid column row → x ≡ candidates_of o s lng lat
  unfolding candidates_of
  by_grid column row x h f ec er g = rw (h, ne_same (o.flags % 2) 0 f, ← ec, ← er) g
