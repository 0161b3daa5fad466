-- THEOREM: asked with the numbers built from the record and the file, every group of the file is walked by stripes as it is walked plainly, at every point.
-- Assumes nothing.
use Prim.Native.Nat.{ℕ, zero, suc, ◌+◌, ◌-◌, ◌*◌, ◌^◌, ◌<◌}
use native.Mathlib.Omega.{arith}
use mathlib.Core.Path.{◌≡◌, refl, sym, ap, subst, ◌∙◌}
use mathlib.Core.Bool.{true}
use mathlib.Core.List.{List, ◌∷◌, ◌++◌}
use lib.ListN.{length}
use lib.Signed.{mag}
use mir.Syntax.{w32}
use mir.Val.{hbits}
use Rattle.basics.specs.Signed.{mag_le}
use Rattle.plane.specs.declared.Point.{Point}
use Rattle.answer.specs.Answers.{Answer, ok}
use Rattle.answer.specs.Walks.{◌yields◌}
use Rattle.boxes.specs.declared.BBox.{BBox}
use Rattle.boxes.specs.Box.{relevant, box_in_domain}
use Rattle.opened.specs.declared.Opened.{Opened}
use Rattle.reader_records.specs.declared.GroupRecord.{GroupRecord}
use Rattle.reader_records.specs.declared.ChunkRecord.{ChunkRecord}
use Rattle.reader_records.specs.Records.{chunk_at, group_at}
use Rattle.reader_groups.specs.Groups.{chunks_from, group_scan}
use Rattle.stripes.specs.declared.Striping.{Striping}
use Rattle.stripes.specs.Stripes.{Boxed, striping_in, striping_of, stripe_of, stands_in, chunks_in}
use Rattle.stripes.specs.Numbers.{group_numbers, group_entry, numbers}
use Rattle.stripes.proofs.StripesLaws.{stripe_below, stands_at, height_some}
use Rattle.reader_stripes.specs.Building.{boxes_from, boxed_groups}
use Rattle.reader_ways.specs.Ways.{height_of, striped_scan}
use Rattle.reader_ways.specs.declared.Entry.{Entry}
use Rattle.reader_ways.proofs.WaysLaws.{walk_is, scan_plain, scan_striped}
use Rattle.reader_same.specs.Same.{Built}
use Rattle.reader_same.proofs.BuildingLaws.{boxes_inv, boxed_inv, group_among, stripes_inv}
use Rattle.reader_same.proofs.Lying.{Lies, begins}
use Rattle.reader_same.proofs.Places.{group_start, entry_lies, group_stripe}
use Rattle.reader_same.proofs.Reading.{read_entry, read_none, read_stripe}
use Rattle.reader_same.proofs.Walking.{walk_over, walk_lent, all_taken}
use Rattle.reader_same.proofs.Ruled.{group_below, group_domain, group_some, chunk_domain}
use Rattle.reader_same.proofs.Heights.{least_small, height_from, height_upto}

-- ---- the group's boxes, and where they stand among all
pub record Placed (o : Opened) (s lent : List ℕ) (i : ℕ) (g : GroupRecord) : Type 0 where
  pub all : List Boxed
  pub before : List Boxed
  pub behind : List Boxed
  pub boxes : List BBox
  pub is : all ≡ before ++ record { bbox = g.bbox; chunks = boxes } ∷ behind
  pub place : length before ≡ i
  pub read : ok boxes ≡ boxes_from o s g g.count 0
  pub lies : Lies lent 0 (numbers all)

placed : (o : Opened) (s lent : List ℕ) (b : Built o s lent) (i : ℕ) (g : GroupRecord) → ok g ≡ group_at o s i
    → (l : List Boxed) → ok l ≡ boxed_groups o s → b.numbers ≡ numbers l → Placed o s lent i g
placed o s lent b i g e l f n =
    let a = group_among o s l i f (group_below o s i g e) in
    let d = boxed_inv o s i g a.it e a.made in
    record {
      all = l;
      before = a.before;
      behind = a.behind;
      boxes = d.0;
      is = a.is ∙ ap (λ (z : Boxed). a.before ++ z ∷ a.behind) d.2;
      place = a.place;
      read = d.1;
      lies = begins lent (length b.numbers) (numbers l) (b.kept ∙ n);
    }

-- a group whose chunks' records are all there, from the first on
scan_from : (o : Opened) (s : List ℕ) (p : Point) (g : GroupRecord) (n : ℕ) (v : ChunkRecord) → g.count ≡ suc n → ok v ≡ chunk_at o s (g.first + 0) → group_scan o s p g ≡ chunks_from o s p g.exit n (g.first + 0) v
unfolding group_scan
scan_from o s p g n v h e =
    let z : g.first + 0 ≡ g.first = omega arith in
    let m : g.count - 1 ≡ n = omega arith in
    rw (z, m) (ap (λ (x : Answer ChunkRecord). x yields λ v. chunks_from o s p g.exit n g.first v) (sym (e ∙ ap (chunk_at o s) z)))

module _ (o : Opened) (s lent : List ℕ) (p : Point) (i : ℕ) (g : GroupRecord) (e : ok g ≡ group_at o s i) (w : Placed o s lent i g) where
  abbrev group : Boxed
  group = record { bbox = g.bbox; chunks = w.boxes }

  abbrev t : Striping
  t = striping_in group

  -- the stripe of the point
  abbrev stripe : ℕ
  stripe = stripe_of t (height_of p.y)

  -- a chunk that does not stand in it does not matter
  stands : (v : ChunkRecord) (c : ℕ) → ok v ≡ chunk_at o s (g.first + c) → relevant v.bbox p ≡ true → stands_in t stripe v.bbox ≡ true
  stands v c f h =
      let d : box_in_domain v.bbox ≡ true = chunk_domain o s (g.first + c) v f in
      stands_at t (height_of p.y) v.bbox (height_from v.bbox p d h) (height_upto v.bbox p d h)

  all_walked : group_scan o s p g ≡ walk_over o s p g (chunks_in t stripe 0 w.boxes)
  all_walked =
      let n : ℕ = g.count - 1 in
      let h : g.count ≡ suc n = omega (arith, group_some o s i g e) in
      let b = boxes_inv o s g n 0 w.boxes (w.read ∙ ap (λ (k : ℕ). boxes_from o s g k 0) h) in
      scan_from o s p g n b.0 h b.1
      ∙ all_taken o s p g t stripe stands n 0 b.0 b.2 (omega arith) b.1 b.3
      ∙ ap (λ (l : List BBox). walk_over o s p g (chunks_in t stripe 0 l)) (sym b.4)

  -- its entry
  entry : Lies lent (group_numbers * i) (group_entry t (group_start w.all w.before))
  entry = subst (λ (n : ℕ). Lies lent (group_numbers * n) (group_entry t (group_start w.all w.before))) w.place (entry_lies lent w.all w.lies w.before w.behind group w.is)

  -- a group of one chunk has no stripes
  no_stripes : t.k ≡ 0 → striped_scan lent o s p i g ≡ group_scan o s p g
  no_stripes h = sym (scan_plain lent o s p i g _ (read_none lent i _ t entry h) (omega arith))

  least_fits : mag t.least < 2 ^ hbits w32
  unfolding striping_of
  least_fits = omega (arith, mag_le g.bbox.miny, least_small g.bbox (group_domain o s i g e))

  some_stripes : 0 < t.k → striped_scan lent o s p i g ≡ group_scan o s p g
  some_stripes h =
      let q = group_stripe lent w.all w.before w.behind group w.lies w.is stripe (stripe_below t (height_of p.y) h) in
      let e : Entry = record { striping = t; first = group_start w.all w.before } in
      sym (scan_striped lent o s p i g e (read_entry lent i _ t entry h least_fits) h)
      ∙ sym (walk_is o s p g lent e (height_some g.bbox (length w.boxes)) (height_of p.y) stripe refl refl _ (read_stripe lent _ stripe _ (chunks_in t stripe 0 w.boxes) q.entry))
      ∙ walk_lent o s p g lent _ _ q.chunks
      ∙ sym all_walked

  group_is : striped_scan lent o s p i g ≡ group_scan o s p g
  group_is = pick t.k refl
    where
      pick : (k : ℕ) → t.k ≡ k → striped_scan lent o s p i g ≡ group_scan o s p g
      pick zero h = no_stripes h
      pick (suc k) h = some_stripes (omega arith)

pub group_same : (o : Opened) (s lent : List ℕ) → Built o s lent → (i : ℕ) (g : GroupRecord) → ok g ≡ group_at o s i → (p : Point) → striped_scan lent o s p i g ≡ group_scan o s p g
group_same o s lent b i g e p =
    let n = stripes_inv o s b.room b.numbers b.built in
    group_is o s lent p i g e (placed o s lent b i g e n.0 n.1 n.2)
