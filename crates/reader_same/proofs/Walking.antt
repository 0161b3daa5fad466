-- A walk over chunk numbers one after another: as a stripe has them in the lent numbers, and all of a group's. Nothing here need be believed.
-- Assumes nothing.
use Prim.Native.Nat.{ℕ, zero, suc, ◌+◌, ◌<◌}
use native.Mathlib.Omega.{arith}
use mathlib.Core.Path.{◌≡◌, refl, sym, ap, ◌∙◌}
use mathlib.Core.Bool.{Bool, true, false, cond, true≢false}
use mathlib.Core.List.{List, [], ◌∷◌}
use borrow.Author.Tests.{lt-ltb, le-ltb}
use lib.ListN.{length}
use Rattle.plane.specs.declared.Point.{Point}
use Rattle.answer.specs.Answers.{ok}
use Rattle.answer.proofs.AnswersLaws.{ok_inv}
use Rattle.answer.specs.Walks.{Walk, ◌go◌, done}
use Rattle.boxes.specs.declared.BBox.{BBox}
use Rattle.boxes.specs.Box.{relevant}
use Rattle.opened.specs.declared.Opened.{Opened}
use Rattle.reader_records.specs.declared.GroupRecord.{GroupRecord}
use Rattle.reader_records.specs.declared.ChunkRecord.{ChunkRecord}
use Rattle.reader_records.specs.Records.{chunk_at}
use Rattle.reader_groups.proofs.GroupsLaws.{joined_none, last_none}
use Rattle.reader_groups.specs.Groups.{One, joined_to, pass_at, last_at, alone_at, chunks_from}
use Rattle.stripes.specs.declared.Striping.{Striping}
use Rattle.stripes.specs.Stripes.{stands_in, chunks_in}
use Rattle.reader_ways.specs.Ways.{numbered, numbered_from}
use Rattle.reader_stripes.specs.Building.{boxes_from}
use Rattle.reader_same.proofs.Going.{done_go, go_done, go_go}
use Rattle.reader_same.proofs.Lying.{Lies, lies_tail}
use Rattle.reader_same.proofs.BuildingLaws.{boxes_inv}
use Rattle.reader_same.proofs.Reading.{read_number}

-- a test that makes no difference
either_way : {A : Type 0} (b : Bool) (x y : A) → (b ≡ false → y ≡ x) → cond b x y ≡ x
either_way true x y f = refl
either_way false x y f = f refl

no_more : (b : Bool) → (b ≡ true → ⊥) → b ≡ false
no_more true f = absurd (f refl)
no_more false f = refl

module _ (o : Opened) (s : List ℕ) (p : Point) (g : GroupRecord) where
  -- chunk after chunk
  unfoldable pub walk_over : List ℕ → Walk One
  walk_over [] = done tt
  walk_over (c ∷ l) = numbered o s p g c go λ u. walk_over l

  -- chunk numbers that lie in the lent numbers
  pub walk_lent : (lent : List ℕ) (at : ℕ) (l : List ℕ) → Lies lent at l → numbered_from o s p g lent (length l) at ≡ walk_over l
  unfolding numbered_from walk_over
  walk_lent lent at [] w = refl
  walk_lent lent at (c ∷ l) w = rw (← (read_number lent at c l w)) (ap (λ (x : Walk One). numbered o s p g c go λ u. x) (walk_lent lent (at + 1) l (lies_tail lent at c l w)))

  -- a chunk that another follows, with record n, and then on
  pass_to : (i : ℕ) (v n : ChunkRecord) → ok n ≡ chunk_at o s (i + 1) → (k : ChunkRecord → Walk One) → (pass_at o s p i v go k) ≡ (joined_to o s p i v n go λ u. k n)
  unfolding pass_at
  pass_to i v n e k = rw (← e) (go_go (joined_to o s p i v n) (λ t. done n) k ∙ ap (λ (x : Walk One). joined_to o s p i v n go λ u. x) (done_go n k))

  -- ---- one chunk
  module _ (c : ℕ) (v : ChunkRecord) (h : c < g.count) (e : ok v ≡ chunk_at o s (g.first + c)) where
    -- whose box does not matter
    aside : relevant v.bbox p ≡ false → numbered o s p g c ≡ done tt
    unfolding numbered alone_at
    aside r = rw (lt-ltb c g.count h, ← e, r)

    -- the last
    last : c + 1 ≡ g.count → numbered o s p g c ≡ last_at o s p (g.first + c) v g.exit
    unfolding numbered alone_at
    last f = rw (lt-ltb c g.count h, ← e, le-ltb (c + 1) g.count (omega arith)) (either_way (relevant v.bbox p) _ _ (last_none o s p (g.first + c) v g.exit))

    -- and one that another follows, with record n
    follows : (n : ChunkRecord) → c + 1 < g.count → ok n ≡ chunk_at o s (g.first + c + 1) → numbered o s p g c ≡ joined_to o s p (g.first + c) v n
    unfolding numbered alone_at
    follows n f q =
        rw (lt-ltb c g.count h, ← e, lt-ltb (c + 1) g.count f)
        (ap (λ (w : Walk One). cond (relevant v.bbox p) w (done tt)) (pass_to (g.first + c) v n q (λ n. done tt) ∙ go_done (joined_to o s p (g.first + c) v n))
        ∙ either_way (relevant v.bbox p) _ _ (joined_none o s p (g.first + c) v n))

  -- ---- all chunks of a group, and those of a stripe: whoever does not stand in it does not matter
  module _ (t : Striping) (stripe : ℕ) (stands : (v : ChunkRecord) (c : ℕ) → ok v ≡ chunk_at o s (g.first + c) → relevant v.bbox p ≡ true → stands_in t stripe v.bbox ≡ true) where
    -- one chunk more
    taken : (c : ℕ) (v : ChunkRecord) (l : List BBox) → c < g.count → ok v ≡ chunk_at o s (g.first + c) → walk_over (chunks_in t stripe c (v.bbox ∷ l)) ≡ (numbered o s p g c go λ u. walk_over (chunks_in t stripe (c + 1) l))
    unfolding walk_over chunks_in
    taken c v l h e = pick (stands_in t stripe v.bbox) refl
      where
        rest : List ℕ
        rest = chunks_in t stripe (c + 1) l

        pick : (b : Bool) → stands_in t stripe v.bbox ≡ b → walk_over (cond b (c ∷ rest) rest) ≡ (numbered o s p g c go λ u. walk_over rest)
        pick true f = refl
        pick false f =
            let r : relevant v.bbox p ≡ false = no_more (relevant v.bbox p) (λ k. true≢false (sym (stands v c e k) ∙ f)) in
            rw (aside c v h e r) (sym (done_go (tt {0}) (λ u. walk_over rest)))

    -- on from chunk c, with record v, to the next, with record w
    onward : (c : ℕ) (v w : ChunkRecord) (m l : List BBox) (n : ℕ) → ok v ≡ chunk_at o s (g.first + c) → ok w ≡ chunk_at o s (g.first + (c + 1)) → l ≡ w.bbox ∷ m → c + 1 < g.count
        → chunks_from o s p g.exit n (g.first + (c + 1)) w ≡ walk_over (chunks_in t stripe (c + 1) (w.bbox ∷ m))
        → (pass_at o s p (g.first + c) v go λ w. chunks_from o s p g.exit n (g.first + c + 1) w) ≡ walk_over (chunks_in t stripe c (v.bbox ∷ l))
    onward c v w m l n e f q h k =
        let z : g.first + (c + 1) ≡ g.first + c + 1 = omega arith in
        let next : ok w ≡ chunk_at o s (g.first + c + 1) = f ∙ ap (chunk_at o s) z in
        let rest : chunks_from o s p g.exit n (g.first + c + 1) w ≡ walk_over (chunks_in t stripe (c + 1) l) = ap (λ (j : ℕ). chunks_from o s p g.exit n j w) (sym z) ∙ k ∙ ap (λ (y : List BBox). walk_over (chunks_in t stripe (c + 1) y)) (sym q) in
        pass_to (g.first + c) v w next (λ w. chunks_from o s p g.exit n (g.first + c + 1) w)
        ∙ ap (λ (x : Walk One). joined_to o s p (g.first + c) v w go λ u. x) rest
        ∙ ap (λ (x : Walk One). x go λ u. walk_over (chunks_in t stripe (c + 1) l)) (sym (follows c v (omega arith) e w h next))
        ∙ sym (taken c v l (omega arith) e)

    pub all_taken : (n c : ℕ) (v : ChunkRecord) (l : List BBox) → c + suc n ≡ g.count → ok v ≡ chunk_at o s (g.first + c) → ok l ≡ boxes_from o s g n (c + 1)
        → chunks_from o s p g.exit n (g.first + c) v ≡ walk_over (chunks_in t stripe c (v.bbox ∷ l))
    unfolding chunks_from boxes_from walk_over chunks_in
    all_taken zero c v l h e f =
        rw (ok_inv l [] f, taken c v [] (omega arith) e, last c v (omega arith) e (omega arith)) (sym (go_done (last_at o s p (g.first + c) v g.exit)))
    all_taken (suc n) c v l h e f =
        let b = boxes_inv o s g n (c + 1) l f in
        onward c v b.0 b.2 l n e b.1 b.4 (omega arith) (all_taken n (c + 1) b.0 b.2 (omega arith) b.1 b.3)
