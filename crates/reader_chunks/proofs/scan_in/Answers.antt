-- `reader_chunks::scan_in` meets its contract: the range, then the scan.
-- Assumes nothing.
use mathlib.Core.Path.{◌≡◌, refl, ap, ◌∙◌}
use Prim.Native.Nat.{ℕ}
use Rattle.answer.specs.Answers.{behind}
use Rattle.answer.specs.Walks.{Walk, broken, on, off, walk_behind}
use Rattle.reader_chunks.proofs.ChunksLaws.{scan_is}
use Rattle.reader_chunks.proofs.scan_in.Goals as goal

-- a walk is an answer
walked : {A : Type 0} (a : ℕ) (w : Walk A) → behind a w ≡ walk_behind a w
walked a (broken r) = refl
walked a on = refl
walked a (off b x) = refl

pub returns : goal.returns
returns c = c.behind.ensures ∙ ap (behind c.args.a) c.scan_chunk.ensures ∙ walked c.args.a _ ∙ scan_is _ _ _ _ _ _ c.in_ok-b.ensures
