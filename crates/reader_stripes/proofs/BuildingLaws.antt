-- Laws of specs/Building, as proofs cite them: the need as a sum, what is read again, and all numbers as they are laid. Nothing here need be believed.
-- Assumes nothing.
use Prim.Native.Nat.{ℕ, zero, suc, ◌+◌, ◌*◌, ◌≤◌, ◌<◌, max, min, ◌/◌}
use native.Mathlib.Omega.{arith}
use mathlib.Core.Path.{◌≡◌, refl, sym, ap, ap₂, ◌∙◌}
use mathlib.Core.Bool.{Bool, true, false, not, ◌||◌, cond}
use mathlib.Core.List.{List, [], ◌∷◌}
use borrow.Author.Tests.{lt-ltb}
use lib.Dec.{ltb}
use lib.ListN.{length}
use Rattle.plane.specs.Runs.{run}
use Rattle.answer.specs.declared.Refusal.{Refusal}
use Rattle.answer.specs.Answers.{Answer, ok, refused, ◌then◌, need}
use Rattle.answer.specs.Checks.{claim}
use Rattle.answer.proofs.AnswersLaws.{then_ok, then_inv, need_inv, ok_inv, zero_one}
use Rattle.boxes.specs.declared.BBox.{BBox}
use Rattle.opened.specs.declared.Opened.{Opened}
use Rattle.reader_records.specs.declared.GroupRecord.{GroupRecord}
use Rattle.reader_records.specs.declared.ChunkRecord.{ChunkRecord}
use Rattle.reader_records.specs.Records.{chunk_at, group_at}
use Rattle.stripes.specs.declared.Striping.{Striping}
use Rattle.stripes.specs.Stripes.{Boxed, stripe_count, striping_of, within_height}
use Rattle.stripes.specs.Numbers.{depth, depths, group_need, need_of}
use Rattle.stripes.proofs.StripesLaws.{height_some}
use Rattle.stripes.proofs.NeedLaws.{count_most}
use Rattle.reader_stripes.specs.Building.{boxes_from, boxed_at, boxed_from, boxed_groups, stripes_need}
use Rattle.reader_stripes.specs.Steps.{gathered, weigh, weighed, added, box_at, depth_in, box_or, box_read, boxed_or, boxed_read, all_read, boxes_of, CutFrom, no_box}
use Rattle.reader_stripes.specs.declared.cut.Cut.{Cut}
use Rattle.reader_stripes.proofs.Reading.{length_run, length_gathered, gathered_run}

-- ---- how a group is cut
pub cut_well : (t : Striping) (b : BBox) (n : ℕ) → t ≡ striping_of b n → (0 < t.height) × (t.k ≤ 256)
unfolding striping_of
cut_well t b n e = rw e (height_some b n, count_most n)

-- a group of one chunk has no stripes, any other has
none_of_one : (b : BBox) (n : ℕ) → ltb n 2 ≡ not (ltb 0 (striping_of b n).k)
unfolding striping_of stripe_count
none_of_one b n = go (ltb n 2)
  where
    go : (t : Bool) → t ≡ not (ltb 0 (cond t 0 (max 1 (min (n / 4) 256))))
    go true = refl
    go false = let z : ltb 0 (max 1 (min (n / 4) 256)) ≡ true = lt-ltb 0 (max 1 (min (n / 4) 256)) (omega arith) in rw z

-- ---- needs as sums
weigh_depths : (t : Striping) (l : List BBox) → weigh (depth_in t) l ≡ cond (ltb 0 t.k) (depths t l) 0
unfolding weigh depth_in depths
weigh_depths t [] = go (ltb 0 t.k)
  where
    go : (b : Bool) → ◌≡◌ {A = ℕ} 0 (cond b 0 0)
    go true = refl
    go false = refl
weigh_depths t (b ∷ l) = ap (λ (j : ℕ). cond (ltb 0 t.k) (depth t b) 0 + j) (weigh_depths t l) ∙ go (ltb 0 t.k)
  where
    go : (c : Bool) → cond c (depth t b) 0 + cond c (depths t l) 0 ≡ cond c (depth t b + depths t l) 0
    go true = refl
    go false = refl

weigh_need : (l : List Boxed) → weigh group_need l ≡ need_of l
unfolding weigh need_of
weigh_need [] = refl
weigh_need (g ∷ l) = ap (λ (j : ℕ). group_need g + j) (weigh_need l)

module _ (o : Opened) (s : List ℕ) where
  -- ---- one chunk
  module _ (group : BBox) (t : Striping) (i : ℕ) where
    module _ (v : ChunkRecord) (e : ok v ≡ chunk_at o s i) where
      -- 49 is asked for what has stripes
      module _ (h : 0 < t.k) (b : Bool) (m : b ≡ within_height group v.bbox) where
        pub box_out : (r : Refusal) → refused r ≡ claim 49 b → refused r ≡ weighed (depth_in t) (box_at o s group t i)
        unfolding weighed box_at claim
        box_out r k =
            let z : ltb 0 t.k ≡ true = lt-ltb 0 t.k h in
            rw (← e, z, ← m) (go b k)
          where
            go : (b : Bool) → refused r ≡ claim 49 b → refused r ≡ (need 49 b (ok v.bbox) then λ a. ok (depth_in t a))
            go true k = let z : ◌≡◌ {A = ℕ} 0 1 = cc in absurd (zero_one z)
            go false k = cc

        pub box_in_law : (u : Unit {0}) → ok u ≡ claim 49 b → (d : ℕ) → d ≡ depth t v.bbox → ok d ≡ weighed (depth_in t) (box_at o s group t i)
        unfolding weighed box_at depth_in claim
        box_in_law u k d f =
            let z : ltb 0 t.k ≡ true = lt-ltb 0 t.k h in
            rw (← e, z, ← m) (go b k)
          where
            go : (b : Bool) → ok u ≡ claim 49 b → ok d ≡ (need 49 b (ok v.bbox) then λ a. ok (depth t a))
            go true k = ap ok f
            go false k = let z : ◌≡◌ {A = ℕ} 0 1 = cc in absurd (zero_one z)

  -- ---- one group
  boxes_gathered : (g : GroupRecord) (n c i : ℕ) → i ≡ g.first + c → boxes_from o s g n c ≡ gathered (box_at o s g.bbox (striping_of g.bbox g.count)) n i
  unfolding boxes_from gathered box_at
  boxes_gathered g zero c i e = refl
  boxes_gathered g (suc n) c i e =
      ap₂ (λ (j : ℕ) (x : Answer (List BBox)). chunk_at o s j then λ v. need 49 (ltb g.count 2 || within_height g.bbox v.bbox) (x then λ l. ok (v.bbox ∷ l))) (sym e) (boxes_gathered g n (c + 1) (i + 1) (omega arith))
      ∙ turn (chunk_at o s i) (gathered (box_at o s g.bbox (striping_of g.bbox g.count)) n (i + 1))
    where
      test : (a b : Bool) (v : ChunkRecord) (x : Answer (List BBox)) → a ≡ b → need 49 a (x then λ l. ok (v.bbox ∷ l)) ≡ (need 49 b (ok v.bbox) then λ t. x then λ l. ok (t ∷ l))
      test true true v x e = refl
      test false false v x e = refl
      test true false v x e = let z : ◌≡◌ {A = ℕ} 0 1 = cc in absurd (zero_one z)
      test false true v x e = let z : ◌≡◌ {A = ℕ} 0 1 = cc in absurd (zero_one z)

      turn : (y : Answer ChunkRecord) (x : Answer (List BBox)) → (y then λ v. need 49 (ltb g.count 2 || within_height g.bbox v.bbox) (x then λ l. ok (v.bbox ∷ l)))
          ≡ ((y then λ v. need 49 (not (ltb 0 (striping_of g.bbox g.count).k) || within_height g.bbox v.bbox) (ok v.bbox)) then λ t. x then λ l. ok (t ∷ l))
      turn (ok v) x = test (ltb g.count 2 || within_height g.bbox v.bbox) (not (ltb 0 (striping_of g.bbox g.count).k) || within_height g.bbox v.bbox) v x (ap (λ (b : Bool). b || within_height g.bbox v.bbox) (none_of_one g.bbox g.count))
      turn (refused k) x = refl

  module _ (i : ℕ) where
    pub group_no : (r : Refusal) → refused r ≡ group_at o s i → refused r ≡ weighed group_need (boxed_at o s i)
    unfolding weighed boxed_at
    group_no r e = rw (← e)

    module _ (g : GroupRecord) (e : ok g ≡ group_at o s i) (t : Striping) (f : t ≡ striping_of g.bbox g.count) where
      boxed_as : boxed_at o s i ≡ (gathered (box_at o s g.bbox t) g.count g.first then λ l. ok (record { bbox = g.bbox; chunks = l }))
      unfolding boxed_at
      boxed_as =
          sym (then_ok (group_at o s i) (λ (g : GroupRecord). boxes_from o s g g.count 0 then λ l. ok (record { bbox = g.bbox; chunks = l })) g e)
          ∙ ap (λ (x : Answer (List BBox)). x then λ l. ok (record { bbox = g.bbox; chunks = l })) (boxes_gathered g g.count 0 g.first (omega arith) ∙ ap (λ (u : Striping). gathered (box_at o s g.bbox u) g.count g.first) (sym f))

      -- its own numbers, behind its entries
      pub group_is : (x : Answer ℕ) → x ≡ added (depth_in t) (5 + 3 * t.k) (gathered (box_at o s g.bbox t) g.count g.first) → x ≡ weighed group_need (boxed_at o s i)
      unfolding weighed added group_need
      group_is x h = h ∙ go (gathered (box_at o s g.bbox t) g.count g.first) refl
        where
          go : (y : Answer (List BBox)) → gathered (box_at o s g.bbox t) g.count g.first ≡ y → added (depth_in t) (5 + 3 * t.k) y ≡ weighed group_need (boxed_at o s i)
          go (refused r) k = rw (boxed_as, k)
          go (ok l) k =
              let many : length l ≡ g.count = length_gathered (box_at o s g.bbox t) g.count g.first l (sym k) in
              let u : t ≡ striping_of g.bbox (length l) = f ∙ ap (striping_of g.bbox) (sym many) in
              let all : 5 + 3 * t.k + weigh (depth_in t) l ≡ 5 + 3 * (striping_of g.bbox (length l)).k + cond (ltb 0 (striping_of g.bbox (length l)).k) (depths (striping_of g.bbox (length l)) l) 0 =
              ap (λ (j : ℕ). 5 + 3 * t.k + j) (weigh_depths t l) ∙ ap (λ (u : Striping). 5 + 3 * u.k + cond (ltb 0 u.k) (depths u l) 0) u in
              rw (boxed_as, k) (ap ok all)

  -- ---- all groups
  boxed_gathered : (n i : ℕ) → boxed_from o s n i ≡ gathered (boxed_at o s) n i
  unfolding boxed_from gathered
  boxed_gathered zero i = refl
  boxed_gathered (suc n) i = ap (λ (x : Answer (List Boxed)). boxed_at o s i then λ g. x then λ l. ok (g ∷ l)) (boxed_gathered n (i + 1))

  pub need_sum : added group_need 0 (gathered (boxed_at o s) o.groups.count 0) ≡ stripes_need o s
  unfolding added stripes_need boxed_groups
  need_sum =
      ap (λ (x : Answer (List Boxed)). x then λ l. ok (0 + weigh group_need l)) (sym (boxed_gathered o.groups.count 0))
      ∙ go (boxed_from o s o.groups.count 0)
    where
      go : (x : Answer (List Boxed)) → (x then λ l. ok (0 + weigh group_need l)) ≡ (x then λ l. ok (need_of l))
      go (ok l) = let z : 0 + weigh group_need l ≡ weigh group_need l = omega arith in ap ok (z ∙ weigh_need l)
      go (refused k) = refl

  -- ---- what is read again is what was read
  box_again : (group : BBox) (t : Striping) (j : ℕ) (b : BBox) → ok b ≡ box_at o s group t j → b ≡ box_read o s j
  unfolding box_at box_read
  box_again group t j b e =
      let p = then_inv (chunk_at o s j) (λ (v : ChunkRecord). need 49 (not (ltb 0 t.k) || within_height group v.bbox) (ok v.bbox)) b e in
      let q = need_inv 49 (not (ltb 0 t.k) || within_height group p.0.bbox) (ok p.0.bbox) b p.2 in
      ok_inv b p.0.bbox q.1 ∙ ap box_or p.1

  boxes_again : (g : GroupRecord) (l : List BBox) → ok l ≡ boxes_from o s g g.count 0 → l ≡ run (box_read o s) g.count g.first
  boxes_again g l e =
      let t = striping_of g.bbox g.count in
      gathered_run (box_at o s g.bbox t) (box_read o s) (box_again g.bbox t) g.count g.first l (e ∙ boxes_gathered g g.count 0 g.first (omega arith))

  abbrev boxed_by : GroupRecord → List BBox → Boxed
  boxed_by g l = record { bbox = g.bbox; chunks = l }

  boxed_again : (j : ℕ) (a : Boxed) → ok a ≡ boxed_at o s j → a ≡ boxed_read o s j
  unfolding boxed_at boxed_read
  boxed_again j a e = found (then_inv (group_at o s j) (λ (g : GroupRecord). boxes_from o s g g.count 0 then λ l. ok (boxed_by g l)) a e)
    where
      own : (g : GroupRecord) (l : List BBox) → ok g ≡ group_at o s j → ok l ≡ boxes_from o s g g.count 0 → ◌≡◌ {A = Answer Boxed} (ok a) (ok (boxed_by g l)) → a ≡ boxed_or o s (group_at o s j)
      own g l h k m = ok_inv a (boxed_by g l) m ∙ ap (boxed_by g) (boxes_again g l k) ∙ ap (boxed_or o s) h

      found : (g : GroupRecord) × (ok g ≡ group_at o s j) × (ok a ≡ (boxes_from o s g g.count 0 then λ l. ok (boxed_by g l))) → a ≡ boxed_or o s (group_at o s j)
      found p =
          let q = then_inv (boxes_from o s p.0 p.0.count 0) (λ (l : List BBox). ok (boxed_by p.0 l)) a p.2 in
          own p.0 q.0 p.1 q.1 q.2

  pub all_again : (l : List Boxed) → ok l ≡ boxed_groups o s → l ≡ all_read o s
  unfolding boxed_groups all_read
  all_again l e = gathered_run (boxed_at o s) (boxed_read o s) boxed_again o.groups.count 0 l (e ∙ boxed_gathered o.groups.count 0)

  module _ (i : ℕ) (c : Cut) where
    pub cut_none : (k : Refusal) → refused k ≡ group_at o s i → c.count ≡ 0 → c.striping ≡ striping_of no_box 0 → CutFrom o s i c
    unfolding boxed_read boxes_of run
    cut_none k e m t = record { striping = rw (← e) t; boxes = rw (m, ← e) }

    pub cut_is : (g : GroupRecord) → ok g ≡ group_at o s i → c.first ≡ g.first → c.count ≡ g.count → c.striping ≡ striping_of g.bbox g.count → CutFrom o s i c
    unfolding boxed_read boxes_of
    cut_is g e f m t =
        record {
          striping = rw (← e) (t ∙ ap (striping_of g.bbox) (sym (length_run (box_read o s) g.count g.first)));
          boxes = rw (f, m, ← e);
        }
