-- Positions in lent numbers: how many there are, or 48; and a chunk's points written behind those that are there.
-- Assumes nothing.
use Prim.Native.Nat.{ℕ, ◌+◌, ◌-◌, ◌*◌, ◌≤◌, ◌<◌}
use native.Mathlib.Omega.{arith}
use mathlib.Core.Path.{◌≡◌, refl, sym, ap, ◌∙◌}
use mathlib.Core.Bool.{Bool, true, false}
use mathlib.Core.List.{List, [], ◌∷◌, ◌++◌, append-nil}
use lib.ListN.{length, take, drop, length-append, length-drop, drop_of_length-le}
use lib.Seq.{take_all}
use lib.IntN.{ℤ}
use lib.Dec.{leb}
use borrow.Rule.Slice.PartMut.{mid_of, put_mid, same_len_mid}
use borrow.Author.Tests.{le-leb, lt-leb, leb-true, leb-false}
use Rattle.plane.specs.declared.I32Point.{I32Point}
use Rattle.answer.specs.declared.Refusal.{Refusal}
use Rattle.answer.specs.Refusals.{refusal}
use Rattle.answer.specs.Answers.{Answer, ok, refused, no, need, fine, outcome}
use Rattle.answer.proofs.AnswersLaws.{zero_one, need_inv, ok_inv}
use Rattle.chunks.specs.Decode.{flat}
use Rattle.opened.specs.declared.Opened.{Opened}
use Rattle.reader_records.specs.declared.ChunkRecord.{ChunkRecord}
use Rattle.reader_records.specs.Records.{chunk_at}
use Rattle.reader_chunks.specs.Chunks.{chunk_points, decode_at, decoded_at}
use Rattle.reader_chunks.proofs.Decodes.{stands, count_stands, taken, roomless, accepted}
use Rattle.directories.specs.Directories.{chunk_shape}
use Rattle.reader_exact.specs.Sound.{Sound}
use Rattle.directories.proofs.Held.{holds}
use Rattle.reader_outline.specs.Held.{points_in}
use Rattle.reader_outline.specs.Told.{few_enough, Keeps}
use Rattle.reader_outline.proofs.Spots.{points_length, points_anew}

-- a refusal is no answer
pub never : {A : Type 0} (a : A) (r : Refusal) (x : Answer A) → ok a ≡ x → refused r ≡ x → ⊥
never a r x e f = let z : ◌≡◌ {A = ℕ} 0 1 = cc in zero_one z

-- ---- how many
module _ (l : List I32Point) where
  pub counted_is : (n : ℕ) → n ≡ length l → n ≤ 10_000 → ok n ≡ few_enough l
  unfolding few_enough
  counted_is n e h = rw (le-leb (length l) 10_000 (omega arith)) (ap ok e)

  pub counted_over : 10_000 < length l → no 48 ≡ few_enough l
  unfolding few_enough
  counted_over h = rw (lt-leb (length l) 10_000 h)

  pub upto : (n : ℕ) → ok n ≡ few_enough l → (n ≡ length l) × (length l ≤ 10_000)
  unfolding few_enough
  upto n e = let f = need_inv 48 (leb (length l) 10_000) (ok (length l)) n e in (ok_inv n (length l) f.1, leb-true (length l) 10_000 f.0)

  pub over : (r : Refusal) → refused r ≡ few_enough l → (r ≡ refusal 48) × (10_000 < length l)
  unfolding few_enough
  over r e = go (leb (length l) 10_000) refl e
    where
      go : (t : Bool) → leb (length l) 10_000 ≡ t → refused r ≡ need 48 t (ok (length l)) → (r ≡ refusal 48) × (10_000 < length l)
      go true h f = absurd (never (length l) r (ok (length l)) refl f)
      go false h f = (cc, leb-false (length l) 10_000 h)

  -- what stands in the numbers
  pub kept : (m : List ℤ) → Keeps m l → length l ≤ 10_000 → points_in m (length l) ≡ l
  unfolding Keeps
  kept m k h = k h

module _ (m : List ℤ) (l : List I32Point) where
  pub keeps_none : 10_000 < length l → Keeps m l
  unfolding Keeps
  keeps_none h k = absurd (omega arith)

  pub fills : (n : ℕ) → n ≤ 10_000 → length m ≡ 20_000 → points_in m n ≡ l → (ok n ≡ few_enough l) × Keeps m l
  unfolding Keeps
  fills n h k e =
      let f : n ≡ length l = sym (points_length n m (omega arith)) ∙ ap length e in
      (counted_is l n f h, λ g. ap (points_in m) (sym f) ∙ e)

  -- over the number already, with fewer
  pub fills_no : (a : List I32Point) (r : Refusal) → refused r ≡ few_enough a → length a ≤ length l → (refused r ≡ few_enough l) × Keeps m l
  fills_no a r e h =
      let f = over a r e in
      let g : 10_000 < length l = omega (arith, f.1) in
      (ap refused f.0 ∙ counted_over l g, keeps_none g)

-- the positions that the numbers hold after an answer
pub stands_there : (m : List ℤ) (l : List I32Point) (n : ℕ) → ok n ≡ few_enough l → Keeps m l → (points_in m n ≡ l) × (n ≤ 10_000)
stands_there m l n e k =
    let f = upto l n e in
    (ap (points_in m) f.0 ∙ kept l m k f.1, omega (arith, f.0, f.1))

-- ---- a chunk
module _ (o : Opened) (s : List ℕ) (i : ℕ) (l : List I32Point) (p : ok l ≡ chunk_points o s i) where
  count_is : (v : ChunkRecord) → ok v ≡ chunk_at o s i → v.count ≡ length l
  count_is v e = ap (λ (x : ChunkRecord). x.count) (ok_inv v (stands o s i l p).entry (e ∙ sym (stands o s i l p).found)) ∙ sym (count_stands o s i l p)

  -- where decoding is refused there is no room
  no_room : (out : List ℤ) (r : Refusal) → refused r ≡ decode_at o s i out → length out < 2 * length l
  no_room out r e = go (leb (2 * length l) (length out)) refl
    where
      go : (t : Bool) → leb (2 * length l) (length out) ≡ t → length out < 2 * length l
      go true h = absurd (never tt r (decode_at o s i out) (ap outcome (taken o s i l p out (leb-true (2 * length l) (length out) h))) e)
      go false h = leb-false (2 * length l) (length out) h

  -- and where it is not there is
  room_was : (out : List ℤ) → fine ≡ decode_at o s i out → 2 * length l ≤ length out
  room_was out e = go (leb (2 * length l) (length out)) refl
    where
      go : (t : Bool) → leb (2 * length l) (length out) ≡ t → 2 * length l ≤ length out
      go true h = leb-true (2 * length l) (length out) h
      go false h = absurd (never tt _ (decode_at o s i out) e (ap outcome (roomless o s i l p out (leb-false (2 * length l) (length out) h))))

  -- the room behind the first k positions, as it is lent, and the numbers afterwards
  module _ (m : List ℤ) (k : ℕ) (n : length m ≡ 20_000) (h : k ≤ 10_000) where
    lent : mid_of (2 * k) (20_000 - 2 * k) m ≡ drop (2 * k) m
    lent = take_all (20_000 - 2 * k) (drop (2 * k) m) (omega (arith, n, length-drop (2 * k) m))

    pub chunk_over : (r : Refusal) → refused r ≡ decode_at o s i (mid_of (2 * k) (20_000 - 2 * k) m) → (w : List ℤ) → (no 48 ≡ few_enough (points_in m k ++ l)) × Keeps w (points_in m k ++ l)
    chunk_over r e w =
        let f = no_room (drop (2 * k) m) r (e ∙ ap (decode_at o s i) lent) in
        let g : 10_000 < length (points_in m k ++ l) = omega (arith, n, h, f, length-drop (2 * k) m, length-append (points_in m k) l, points_length k m (omega arith)) in
        (counted_over (points_in m k ++ l) g, keeps_none w (points_in m k ++ l) g)

    pub chunk_in_law : fine ≡ decode_at o s i (mid_of (2 * k) (20_000 - 2 * k) m) → (v : ChunkRecord) → ok v ≡ chunk_at o s i
        → (part : List ℤ) → part ≡ decoded_at o s i (mid_of (2 * k) (20_000 - 2 * k) m) → length part ≡ length (mid_of (2 * k) (20_000 - 2 * k) m)
        → (ok (k + v.count) ≡ few_enough (points_in m k ++ l)) × Keeps (put_mid (2 * k) (20_000 - 2 * k) m part) (points_in m k ++ l)
    chunk_in_law e v f part y z =
        let b : fine ≡ decode_at o s i (drop (2 * k) m) = e ∙ ap (decode_at o s i) lent in
        let a = accepted o s i (drop (2 * k) m) b in
        let same : a.0 ≡ l = ok_inv a.0 l (a.1 ∙ sym p) in
        let many : v.count ≡ length l = count_is v f in
        let short : 2 * k ≤ length m = omega (arith, n, h) in
        let r = drop (length (flat a.0)) (drop (2 * k) m) in
        let none : drop (20_000 - 2 * k) (drop (2 * k) m) ≡ [] = drop_of_length-le (drop (2 * k) m) {i = 20_000 - 2 * k} (omega (arith, n, length-drop (2 * k) m)) in
        let after : part ++ drop (20_000 - 2 * k) (drop (2 * k) m) ≡ flat a.0 ++ r = ap (λ (x : List ℤ). part ++ x) none ∙ append-nil part ∙ y ∙ ap (decoded_at o s i) lent ∙ a.2 in
        fills (put_mid (2 * k) (20_000 - 2 * k) m part) (points_in m k ++ l) (k + v.count) (omega (arith, n, h, many, room_was (drop (2 * k) m) b, length-drop (2 * k) m)) (same_len_mid (2 * k) (20_000 - 2 * k) m part z ∙ n)
        (ap (points_in (put_mid (2 * k) (20_000 - 2 * k) m part)) (ap (λ (x : ℕ). k + x) (many ∙ sym (ap length same)))
        ∙ ap (λ (x : List ℤ). points_in (take (2 * k) m ++ x) (k + length a.0)) after
        ∙ points_anew k m a.0 r short
        ∙ ap (λ (x : List I32Point). points_in m k ++ x) same)

-- ---- of a sound file
module _ (o : Opened) (s : List ℕ) (k : Sound o s) (i : ℕ) (h : i < o.chunks.count) where
  pub chunk_points_law : ok ((chunk_shape o s i).first ∷ (chunk_shape o s i).rest) ≡ chunk_points o s i
  chunk_points_law = (holds o s i (k.chunk_given i h)).points

  pub chunk_there : (r : Refusal) → refused r ≡ chunk_at o s i → ⊥
  chunk_there r e = never (holds o s i (k.chunk_given i h)).found r (chunk_at o s i) (holds o s i (k.chunk_given i h)).there e
