-- What decoding a chunk accepts: exactly the chunks that have points, where there is room for two numbers a point; and what it writes.
-- Assumes nothing.
use Prim.Native.Nat.{ℕ, ◌*◌, ◌≤◌, ◌<◌}
use native.Mathlib.Omega.{arith}
use mathlib.Core.Path.{◌≡◌, sym, ap}
use mathlib.Core.Bool.{true}
use mathlib.Core.List.{List, [], ◌∷◌, ◌++◌}
use lib.ListN.{length, drop}
use lib.Dec.{ltb, leb}
use lib.IntN.{ℤ}
use borrow.Author.Tests.{le-leb, lt-leb}
use Rattle.plane.specs.declared.I32Point.{I32Point}
use Rattle.answer.specs.Answers.{ok, no, ◌then◌, need, behind, fine}
use Rattle.chunks.specs.Decode.{points_of, flat, filled}
use Rattle.chunks.proofs.Neighbours.{count_list, never_empty}
use Rattle.opened.specs.declared.Opened.{Opened}
use Rattle.reader_records.specs.declared.ChunkRecord.{ChunkRecord}
use Rattle.reader_records.specs.Records.{chunk_at}
use Rattle.reader_chunks.specs.Chunks.{start_of, bytes_of, chunk_points, decode_by, decode_in, decode_at, decoded_at}
use Rattle.answer.proofs.AnswersLaws.{then_inv, need_inv, outcome_fine}
use Rattle.answer.proofs.RefusalsLaws.{behind_inv}

-- a chunk that has points has as many as its record says
count_is : (b : List ℕ) (n : ℕ) (l : List I32Point) → ok l ≡ points_of b n → length l ≡ n
count_is b n [] e = absurd (never_empty b n e)
count_is b n (q ∷ l) e = count_list b n q l e

-- what the points of a chunk come from: its record, and its bytes
pub record Stands (o : Opened) (s : List ℕ) (i : ℕ) (l : List I32Point) : Type 0 where
  pub entry : ChunkRecord
  pub bytes : List ℕ
  pub found : ok entry ≡ chunk_at o s i
  pub some : ltb 0 entry.count ≡ true
  pub lies : ok bytes ≡ bytes_of o s i entry
  pub points : ok l ≡ points_of bytes entry.count

module _ (o : Opened) (s : List ℕ) (i : ℕ) where
  module _ (l : List I32Point) (e : ok l ≡ chunk_points o s i) where
    pub stands : Stands o s i l
    unfolding chunk_points
    stands =
        let f = then_inv (chunk_at o s i) (λ v. need 32 (ltb 0 v.count) (bytes_of o s i v then λ b. behind (start_of o v) (points_of b v.count))) l e in
        let g = need_inv 32 (ltb 0 f.0.count) (bytes_of o s i f.0 then λ b. behind (start_of o f.0) (points_of b f.0.count)) l f.2 in
        let h = then_inv (bytes_of o s i f.0) (λ b. behind (start_of o f.0) (points_of b f.0.count)) l g.1 in
        record { entry = f.0; bytes = h.0; found = f.1; some = g.0; lies = h.1; points = behind_inv _ _ l h.2 }

    pub count_stands : length l ≡ stands.entry.count
    count_stands = count_is _ _ l stands.points

    -- where there is room it is not refused
    pub taken : (out : List ℤ) → 2 * length l ≤ length out → ok l ≡ decode_in o s i out
    unfolding decode_in decode_by
    taken out room = go stands.entry stands.bytes stands.found stands.some stands.lies stands.points (omega (arith, count_stands))
      where
        go : (v : ChunkRecord) (b : List ℕ) → ok v ≡ chunk_at o s i → ltb 0 v.count ≡ true → ok b ≡ bytes_of o s i v → ok l ≡ points_of b v.count → 2 * v.count ≤ length out → ok l ≡ decode_in o s i out
        go v b f g h k m = rw (← f, g, le-leb (2 * v.count) (length out) m, ← h) (ap (behind (start_of o v)) k)

    -- and where there is none it is 46
    pub roomless : (out : List ℤ) → length out < 2 * length l → no 46 ≡ decode_in o s i out
    unfolding decode_in decode_by
    roomless out short = go stands.entry stands.found stands.some (omega (arith, count_stands))
      where
        go : (v : ChunkRecord) → ok v ≡ chunk_at o s i → ltb 0 v.count ≡ true → length out < 2 * v.count → no 46 ≡ decode_in o s i out
        go v f g m = rw (← f, g, lt-leb (2 * v.count) (length out) m)

  -- where there is room for what the record says, decoding answers as the points do, refusals too
  pub agree : (v : ChunkRecord) → ok v ≡ chunk_at o s i → (out : List ℤ) → 2 * v.count ≤ length out → decode_in o s i out ≡ chunk_points o s i
  unfolding decode_in decode_by chunk_points
  agree v f out room = rw (← f, le-leb (2 * v.count) (length out) room)

  module _ (out : List ℤ) where
    -- what is decoded are the chunk's points
    pub decoded_are : (l : List I32Point) → ok l ≡ decode_in o s i out → ok l ≡ chunk_points o s i
    unfolding decode_in decode_by chunk_points
    decoded_are l e =
        let f = then_inv (chunk_at o s i) (λ v. decode_by o s i out v) l e in
        let g = need_inv 32 (ltb 0 f.0.count) (need 46 (leb (2 * f.0.count) (length out)) (bytes_of o s i f.0 then λ b. behind (start_of o f.0) (points_of b f.0.count))) l f.2 in
        let h = need_inv 46 (leb (2 * f.0.count) (length out)) (bytes_of o s i f.0 then λ b. behind (start_of o f.0) (points_of b f.0.count)) l g.1 in
        rw (← f.1, g.0) h.1

    -- what decoding accepts has points, and these stand in the lent memory afterwards
    pub accepted : fine ≡ decode_at o s i out → (l : List I32Point) × (ok l ≡ chunk_points o s i) × (decoded_at o s i out ≡ flat l ++ drop (length (flat l)) out)
    accepted e =
        let f = outcome_fine (decode_in o s i out) e in
        (f.0, decoded_are f.0 f.1, ap (filled out) (sym f.1))
