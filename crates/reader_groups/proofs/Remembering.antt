-- A first point that is known: it stays known of an equal answer, and is what reading would give, of the chunk itself and of the next.
-- Assumes nothing.
use Prim.Native.Nat.{ℕ, ◌+◌, ◌<◌}
use mathlib.Core.Path.{◌≡◌, refl, sym, ◌∙◌}
use mathlib.Core.Bool.{Bool}
use mathlib.Core.List.{List}
use Rattle.std.specs.Prelude.{Option, Some, None}
use Rattle.plane.specs.declared.I32Point.{I32Point}
use Rattle.answer.specs.Answers.{Answer, ok}
use Rattle.answer.specs.Walks.{Walk, broken, on, off}
use Rattle.answer.proofs.AnswersLaws.{then_ok}
use Rattle.opened.specs.declared.Opened.{Opened}
use Rattle.reader_records.specs.declared.ChunkRecord.{ChunkRecord}
use Rattle.opened.specs.Widths.{chunk_wide}
use Rattle.reader_records.specs.Records.{chunk_in, chunk_rule, chunk_at}
use Rattle.reader_records.proofs.RecordsLaws.{ruled_inside}
use Rattle.reader_chunks.specs.Chunks.{start_of, end_of, first_in}
use Rattle.reader_chunks.proofs.Ranges.{end_next}
use Rattle.answer.specs.declared.Walked.{Walked}
use Rattle.answer.specs.declared.Walked.TheVariants.{Off}
use Rattle.reader_groups.specs.declared.reached.Reached.{Reached}
use Rattle.reader_groups.specs.Groups.{One, next_first}
use Rattle.reader_groups.specs.Steps.{dropped, passed, own_first, Kept, Leaves, Hands}

-- of an equal answer
pub kept_at : (k : Option I32Point) (x y : Answer I32Point) → x ≡ y → Kept k y → Kept k x
kept_at None x y e h = tt
kept_at (Some q) x y e h = h ∙ sym e

pub leaves_at : (r : Walk (Option I32Point)) (x y : Answer I32Point) → x ≡ y → Leaves y r → Leaves x r
leaves_at (broken k) x y e h = tt
leaves_at on x y e h = tt
leaves_at (off b k) x y e h = kept_at k x y e h

module _ (o : Opened) (s : List ℕ) (i : ℕ) where
  module _ (v : ChunkRecord) where
    -- by where it ends, as it is asked
    pub own_is : (e : ℕ) → ok e ≡ end_of o s i → first_in s (start_of o v) e ≡ own_first o s i v
    unfolding own_first
    own_is e h = then_ok (end_of o s i) (λ (d : ℕ). first_in s (start_of o v) d) e h

    -- by where the next starts
    pub own_next : (n : ChunkRecord) → ok n ≡ chunk_at o s (i + 1) → first_in s (start_of o v) (start_of o n) ≡ own_first o s i v
    own_next n h = own_is (start_of o n) (end_next o s i n h)

  pub next_own : (n : ChunkRecord) → own_first o s (i + 1) n ≡ next_first o s i n
  unfolding own_first next_first
  next_own n = refl

-- what a step left known, where it went by
pub leaves_off : (w : Walked (Option I32Point)) (b : Bool) (k : Option I32Point) (x : Answer I32Point) → w ≡ Off b k → Leaves x (ok w) → Kept k x
leaves_off w b k x e h = rw e at h

pub dropped_arm : {A : Type 0} (x y : Walked A) (w : Walk One) → x ≡ y → dropped (ok x) ≡ w → dropped (ok y) ≡ w
dropped_arm x y w e h = rw e at h

pub passed_arm : (x y : Walked Reached) (w : Walk ChunkRecord) → x ≡ y → passed (ok x) ≡ w → passed (ok y) ≡ w
passed_arm x y w e h = rw e at h

pub hands_off : (o : Opened) (s : List ℕ) (i : ℕ) (w : Walked Reached) (b : Bool) (c : Reached) → w ≡ Off b c → Hands o s i (ok w) → (c.index ≡ i) × Kept c.first (own_first o s i c.record)
hands_off o s i w b c e h = rw e at h

-- a chunk that is there has a small index
pub chunk_index : (o : Opened) (s : List ℕ) (i : ℕ) (v : ChunkRecord) → ok v ≡ chunk_at o s i → i < o.chunks.count
unfolding chunk_at
chunk_index o s i v e = ruled_inside s o.chunks chunk_wide i (chunk_in s) chunk_rule 34 v e
