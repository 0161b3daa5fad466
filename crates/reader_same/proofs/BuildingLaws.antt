-- What building that succeeded was made of (reader_stripes/specs/Building). Nothing here need be believed.
-- Assumes nothing.
use Prim.Native.Nat.{ℕ, zero, suc, ◌+◌, ◌<◌}
use native.Mathlib.Omega.{arith}
use mathlib.Core.Path.{◌≡◌, refl, ap, ◌∙◌}
use mathlib.Core.Bool.{◌||◌}
use mathlib.Core.List.{List, [], ◌∷◌, ◌++◌}
use lib.Dec.{leb, ltb}
use lib.ListN.{length}
use Rattle.answer.specs.Answers.{Answer, ok, ◌then◌, need}
use Rattle.answer.proofs.AnswersLaws.{then_inv, need_inv, ok_inv}
use Rattle.boxes.specs.declared.BBox.{BBox}
use Rattle.opened.specs.declared.Opened.{Opened}
use Rattle.reader_records.specs.declared.GroupRecord.{GroupRecord}
use Rattle.reader_records.specs.declared.ChunkRecord.{ChunkRecord}
use Rattle.reader_records.specs.Records.{chunk_at, group_at}
use Rattle.stripes.specs.Stripes.{Boxed, within_height}
use Rattle.stripes.specs.Numbers.{numbers, need_of}
use Rattle.reader_stripes.specs.Building.{boxes_from, boxed_at, boxed_from, boxed_groups, stripes_of}

module _ (o : Opened) (s : List ℕ) where
  -- the boxes of a group's chunks: the first chunk's, and the others
  module _ (g : GroupRecord) where
    boxes_with : ℕ → ℕ → ChunkRecord → Answer (List BBox)
    boxes_with n c v = boxes_from o s g n (c + 1) then λ l. ok (v.bbox ∷ l)

    pub boxes_inv : (n c : ℕ) (l : List BBox) → ok l ≡ boxes_from o s g (suc n) c
        → (v : ChunkRecord) × (ok v ≡ chunk_at o s (g.first + c)) × (m : List BBox) × (ok m ≡ boxes_from o s g n (c + 1)) × (l ≡ v.bbox ∷ m)
    unfolding boxes_from boxes_with
    boxes_inv n c l e =
        let a = then_inv (chunk_at o s (g.first + c)) (λ v. need 49 (ltb g.count 2 || within_height g.bbox v.bbox) (boxes_with n c v)) l e in
        let v : ChunkRecord = a.0 in
        let b = need_inv 49 (ltb g.count 2 || within_height g.bbox v.bbox) (boxes_with n c v) l a.2 in
        let d = then_inv (boxes_from o s g n (c + 1)) (λ m. ok (v.bbox ∷ m)) l b.1 in
        (v, a.1, d.0, d.1, ok_inv l (v.bbox ∷ d.0) d.2)

  -- one group, with its record
  pub boxed_inv : (i : ℕ) (g : GroupRecord) (b : Boxed) → ok g ≡ group_at o s i → ok b ≡ boxed_at o s i → (l : List BBox) × (ok l ≡ boxes_from o s g g.count 0) × (b ≡ record { bbox = g.bbox; chunks = l })
  unfolding boxed_at
  boxed_inv i g b e f =
      let h : ok b ≡ (boxes_from o s g g.count 0 then λ l. ok (record { bbox = g.bbox; chunks = l })) = rw (← e) at f in
      let d = then_inv (boxes_from o s g g.count 0) (λ l. ok (record { bbox = g.bbox; chunks = l })) b h in
      (d.0, d.1, ok_inv b (record { bbox = g.bbox; chunks = d.0 }) d.2)

  -- group i in a list of groups: k stand before it
  pub record Among (l : List Boxed) (k i : ℕ) : Type 0 where
    pub before : List Boxed
    pub it : Boxed
    pub behind : List Boxed
    pub is : l ≡ before ++ it ∷ behind
    pub place : length before ≡ k
    pub made : ok it ≡ boxed_at o s i

  one_more : (g : Boxed) (l m : List Boxed) (k i j : ℕ) → l ≡ g ∷ m → Among m k i → i ≡ j → Among l (suc k) j
  one_more g l m k i j e a h =
      record { before = g ∷ a.before; it = a.it; behind = a.behind; is = e ∙ ap (λ (z : List Boxed). g ∷ z) a.is; place = ap suc a.place; made = a.made ∙ ap (boxed_at o s) h }

  among : (n i k : ℕ) (l : List Boxed) → ok l ≡ boxed_from o s n i → k < n → Among l k (i + k)
  unfolding boxed_from
  among zero i k l e h = absurd (omega arith)
  among (suc n) i k l e h =
      let a = then_inv (boxed_at o s i) (λ g. boxed_from o s n (i + 1) then λ l. ok (g ∷ l)) l e in
      let d = then_inv (boxed_from o s n (i + 1)) (λ l. ok (a.0 ∷ l)) l a.2 in
      let f : l ≡ a.0 ∷ d.0 = ok_inv l (a.0 ∷ d.0) d.2 in
      pick a.0 a.1 d.0 f (λ k h. among n (i + 1) k d.0 d.1 h) k h
    where
      pick : (g : Boxed) → ok g ≡ boxed_at o s i → (m : List Boxed) → l ≡ g ∷ m → ((k : ℕ) → k < n → Among m k (i + 1 + k)) → (k : ℕ) → k < suc n → Among l k (i + k)
      pick g e m f rest zero h = record { before = []; it = g; behind = m; is = f; place = refl; made = e ∙ ap (boxed_at o s) (omega arith) }
      pick g e m f rest (suc k) h = one_more g l m k (i + 1 + k) (i + suc k) f (rest k (omega arith)) (omega arith)

  pub group_among : (l : List Boxed) (i : ℕ) → ok l ≡ boxed_groups o s → i < o.groups.count → Among l i i
  unfolding boxed_groups
  group_among l i e h = let z : 0 + i ≡ i = omega arith in rw z at (among o.groups.count 0 i l e h)

  -- the numbers
  pub stripes_inv : (room : ℕ) (x : List ℕ) → ok x ≡ stripes_of o s room → (l : List Boxed) × (ok l ≡ boxed_groups o s) × (x ≡ numbers l)
  unfolding stripes_of
  stripes_inv room x e =
      let a = then_inv (boxed_groups o s) (λ l. need 46 (leb (need_of l) room) (ok (numbers l))) x e in
      let b = need_inv 46 (leb (need_of a.0) room) (ok (numbers a.0)) x a.2 in
      (a.0, a.1, ok_inv x (numbers a.0) b.1)
