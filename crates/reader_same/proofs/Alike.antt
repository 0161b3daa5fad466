-- Two ways that walk every group of a file alike answer every question alike: a group is reached only by its record. Nothing here need be believed.
-- Assumes nothing.
use Prim.Native.Nat.{ℕ, zero, suc, ◌+◌, ◌-◌}
use mathlib.Core.Path.{◌≡◌, refl, sym, ap, fun_ext, ◌∙◌}
use mathlib.Core.Bool.{Bool, true, false, cond}
use mathlib.Core.List.{List}
use lib.Ieee.{Float}
use Rattle.plane.specs.declared.Point.{Point}
use Rattle.plane.specs.declared.I32Point.{I32Point}
use Rattle.answer.specs.Answers.{Answer, ok, refused, ◌then◌}
use Rattle.answer.specs.Walks.{Walk, ◌go◌, ◌yields◌}
use Rattle.answer.proofs.AnswersLaws.{then_inv, ok_inv}
use Rattle.opened.specs.declared.Opened.{Opened}
use Rattle.reader_records.specs.declared.GroupRecord.{GroupRecord}
use Rattle.reader_records.specs.declared.RingRecord.{RingRecord}
use Rattle.reader_records.specs.Records.{group_at, op_at, ring_at, poly_at, group_index, turns_round}
use Rattle.reader_ways.specs.Ways.{Way, group_scan_by}
use Rattle.reader_rings.specs.declared.Turned.{Turned}
use Rattle.reader_rings.specs.declared.Round.{Round}
use Rattle.reader_rings.specs.Rings.{turn_of, turned_at, group_walk, turn_walk, op_step, ops_from, ring_rest, ring_of, ring_contains}
use Rattle.reader_zones.specs.Zones.{poly_of, zone_by, contains_by}
use Rattle.replies.specs.Replies.{Chosen, none, all, listed}
use Rattle.reader_lookup.specs.Asking.{scaled, candidate_of, hit_at, lookup_among, lookup_by}
use Rattle.reader_listing.specs.All.{hits_among, hits_of, list_for, list_by}
use Rattle.reader_cells.specs.Asked.{candidates_of}
use Rattle.plane.specs.Places.{point_of}

-- ---- what is done with an answer, where it is the same for the answer given
then_same : {A B : Type 0} (x : Answer A) (k l : A → Answer B) → ((a : A) → ok a ≡ x → k a ≡ l a) → (x then k) ≡ (x then l)
then_same (ok a) k l h = h a refl
then_same (refused r) k l h = refl

yields_same : {A B : Type 0} (x : Answer A) (k l : A → Walk B) → ((a : A) → ok a ≡ x → k a ≡ l a) → (x yields k) ≡ (x yields l)
yields_same (ok a) k l h = h a refl
yields_same (refused r) k l h = refl

-- ---- an op's group is a record of the file
turn_index : (w : ℕ) (g : GroupRecord) → ((turn_of w g).index ≡ group_index w) × ((turn_of w g).group ≡ g)
unfolding turn_of
turn_index w g = pick (turns_round w)
  where
    picked : Bool → Turned
    picked b = cond b (record { entry = g.exit; exit = g.entry; index = group_index w; group = g }) (record { entry = g.entry; exit = g.exit; index = group_index w; group = g })

    pick : (b : Bool) → ((picked b).index ≡ group_index w) × ((picked b).group ≡ g)
    pick true = (refl, refl)
    pick false = (refl, refl)

turned_group : (o : Opened) (s : List ℕ) (i : ℕ) (t : Turned) → ok t ≡ turned_at o s i → ok t.group ≡ group_at o s t.index
unfolding turned_at
turned_group o s i t e =
    let a = then_inv (op_at o s i) (λ w. group_at o s (group_index w) then λ g. ok (turn_of w g)) t e in
    let b = then_inv (group_at o s (group_index a.0)) (λ g. ok (turn_of a.0 g)) t a.2 in
    let f : t ≡ turn_of a.0 b.0 = ok_inv t (turn_of a.0 b.0) b.2 in
    ap (λ (u : Turned). ok u.group) f ∙ ap ok (turn_index a.0 b.0).1 ∙ b.1 ∙ ap (group_at o s) (sym (turn_index a.0 b.0).0 ∙ ap (λ (u : Turned). u.index) (sym f))

-- ---- both ways walk every group of the file alike
abbrev pub Alike : Way → Way → Opened → List ℕ → Type 0
Alike v w o s = (p : Point) (i : ℕ) (g : GroupRecord) → ok g ≡ group_at o s i → group_scan_by v o s p i g ≡ group_scan_by w o s p i g

module _ (v w : Way) (o : Opened) (s : List ℕ) (alike : Alike v w o s) where
  module _ (p : Point) where
    group_alike : (i : ℕ) (g : GroupRecord) → ok g ≡ group_at o s i → group_walk v o s p i g ≡ group_walk w o s p i g
    unfolding group_walk
    group_alike i g e = rw (alike p i g e)

    step_alike : (i : ℕ) (z : Round) → op_step v o s p i z ≡ op_step w o s p i z
    unfolding op_step turn_walk
    step_alike i z = yields_same (turned_at o s i) _ _ (λ t e. rw (group_alike t.index t.group (turned_group o s i t e)))

    ops_alike : (n i : ℕ) (z : Round) → ops_from v o s p n i z ≡ ops_from w o s p n i z
    unfolding ops_from
    ops_alike zero i z = refl
    ops_alike (suc n) i z = rw (step_alike i z) (ap (λ k. op_step w o s p i z go k) (fun_ext (λ y. ops_alike n (i + 1) y)))

    rest_alike : (r : RingRecord) (t : Turned) → ring_rest v o s p r t ≡ ring_rest w o s p r t
    unfolding ring_rest
    rest_alike r t = rw (ops_alike (r.count - 1) (r.first + 1) (record { exit = t.exit; sum = t.group.points }))

    ring_walk_alike : (r : RingRecord) → ring_of v o s p r ≡ ring_of w o s p r
    unfolding ring_of
    ring_walk_alike r = yields_same (turned_at o s r.first) _ _ (λ t e. rw (group_alike t.index t.group (turned_group o s r.first t e), rest_alike r t))

    ring_alike : ring_contains v o s p ≡ ring_contains w o s p
    unfolding ring_contains
    ring_alike = fun_ext (λ edge. fun_ext (λ i. then_same (ring_at o s i) _ _ (λ r e. rw (ring_walk_alike r))))

    poly_alike : poly_of v o s p ≡ poly_of w o s p
    unfolding poly_of
    poly_alike = fun_ext (λ i. then_same (poly_at o s i) _ _ (λ q e. rw ring_alike))

    pub zone_alike : (i : ℕ) → zone_by v o s p i ≡ zone_by w o s p i
    unfolding zone_by
    zone_alike i = rw poly_alike

    hit_alike : hit_at v o s p ≡ hit_at w o s p
    unfolding hit_at
    hit_alike = fun_ext (λ grid. fun_ext (λ place. then_same (candidate_of o s grid place) _ _ (λ zone e. rw (zone_alike zone))))

  pub contains_alike : (zone : ℕ) (q : I32Point) → contains_by v o s zone q ≡ contains_by w o s zone q
  unfolding contains_by
  contains_alike zone q = rw (zone_alike (point_of q) zone)

  module _ (lng lat : Float) where
    among_alike : (c : Chosen) → lookup_among v o s lng lat c ≡ lookup_among w o s lng lat c
    unfolding lookup_among
    among_alike none = refl
    among_alike (all n) = rw (hit_alike (scaled lng lat))
    among_alike (listed n place) = rw (hit_alike (scaled lng lat))

    pub lookup_alike : lookup_by v o s lng lat ≡ lookup_by w o s lng lat
    unfolding lookup_by
    lookup_alike = ap (λ k. candidates_of o s lng lat then k) (fun_ext among_alike)

    hits_alike : (c : Chosen) → hits_among v o s (scaled lng lat) c ≡ hits_among w o s (scaled lng lat) c
    unfolding hits_among
    hits_alike none = refl
    hits_alike (all n) = rw (hit_alike (scaled lng lat))
    hits_alike (listed n place) = rw (hit_alike (scaled lng lat))

    pub list_alike : (places : ℕ) → list_by v o s lng lat places ≡ list_by w o s lng lat places
    unfolding list_by hits_of
    list_alike places = ap (λ k. candidates_of o s lng lat then k then list_for o s places) (fun_ext hits_alike)
