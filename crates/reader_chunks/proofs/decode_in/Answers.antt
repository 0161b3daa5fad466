-- `reader_chunks::decode_in` meets its contract: the range, then the points.
-- Assumes nothing.
use Prim.Native.Nat.{ℕ, ◌*◌, ◌≤◌, ◌<◌}
use lib.IntN.{ℤ}
use lib.ListN.{length}
use mathlib.Core.Path.{◌≡◌, sym, ap, ◌∙◌}
use mathlib.Core.List.{List}
use Rattle.std.proofs.lemmas.Result.{err_from_is_err_and}
use Rattle.answer.specs.Answers.{ok, behind, outcome}
use Rattle.chunks.specs.Decode.{points_of, into_room, filled}
use Rattle.reader_chunks.specs.Chunks.{span}
use Rattle.reader_chunks.specs.Steps.{points_in}
use Rattle.answer.proofs.RefusalsLaws.{behind_outcome}
use Rattle.reader_chunks.proofs.ChunksLaws.{points_no, points_is, into_room_law, filled_behind}
use Rattle.reader_chunks.proofs.decode_in.Goals as goal

-- the points that the range's bytes b hold, and what is written
module _ (s : List ℕ) (n a e : ℕ) (b : List ℕ) (h : ok b ≡ span s a e) (out : List ℤ) (some : 0 < n) (room : 2 * n ≤ length out) where
  told : behind a (outcome (into_room b n out)) ≡ outcome (points_in s n a e)
  told =
      ap (behind a) (ap outcome (into_room_law b n out some room))
      ∙ sym (behind_outcome a (points_of b n))
      ∙ ap outcome (points_is s a e n b h)

  written : filled out (into_room b n out) ≡ filled out (points_in s n a e)
  written =
      ap (filled out) (into_room_law b n out some room)
      ∙ filled_behind out a (points_of b n)
      ∙ ap (filled out) (points_is s a e n b h)

pub returns-in_err-b : goal.returns-in_err-b
returns-in_err-b c =
    let a = c.args in
    let p = err_from_is_err_and c.from_residual.result c.from_residual.ensures.1 in
    let e = points_no a.s.now a.a a.e a.count _ c.in_err-b.ensures in
    (rw (p.1, p.2) (ap outcome e), ap (filled a.out.now) e)

pub returns : goal.returns
returns c =
    let a = c.args in
    let h = c.requires.count_nonzero in
    let k = c.requires.count_in_bounds in (
      c.behind.ensures ∙ ap (behind a.a) c.decode_points.ensures.result_value ∙ told a.s.now a.count a.a a.e _ c.in_ok-b.ensures a.out.now h k,
      c.decode_points.ensures.memory ∙ written a.s.now a.count a.a a.e _ c.in_ok-b.ensures a.out.now h k,
    )
