-- Tests that agree on every box and point of the domain walk a zone of the domain alike.
-- Assumes nothing.
use mathlib.Core.Path.{◌≡◌, refl, ap, ap₂, ◌∙◌}
use mathlib.Core.Bool.{Bool, true, false, not, ◌&&◌, cond}
use mathlib.Core.List.{List, [], ◌∷◌, map}
use Rattle.basics.specs.Truth.{and_l, and_r, and4}
use Rattle.basics.specs.Parity.{◌⊻◌}
use Rattle.plane.specs.declared.I32Point.{I32Point}
use Rattle.plane.specs.Sight.{Sight, Off}
use Rattle.plane.specs.Tally.{◌⊕◌, none, verdict}
use Rattle.plane.specs.Domain.{in_domain}
use Rattle.plane.specs.Lines.{every, every_last, some_agree, last_from, chain, link, Stretch, stretch_is, onward, around}
use Rattle.boxes.specs.declared.BBox.{BBox}
use Rattle.boxes.specs.Box.{box_in_domain}
use Rattle.shapes.specs.Shapes.{Chunk, Group, Leg, Ring, Polygon, Zone, group_chunks, chunk_points, chunk_in_domain, group_in_domain, leg_in_domain, ring_in_domain, polygon_in_domain, zone_in_domain}
use Rattle.shapes.specs.Walk.{Tests, goal, parity, joint, chunk_walk, chunks_walk, group_walk, leg_walk, ring_walk, polygon_walk, zone_walk}
use Rattle.plane.specs.Segment.{same_point}

pub record Agree (t u : Tests) : Type 0 where
  pub contains : (b : BBox) → box_in_domain b ≡ true → t.contains b ≡ u.contains b
  pub relevant : (b : BBox) → box_in_domain b ≡ true → t.relevant b ≡ u.relevant b
  pub right : (b : BBox) → box_in_domain b ≡ true → t.right b ≡ u.right b
  pub above : (p : I32Point) → in_domain p ≡ true → t.above p ≡ u.above p
  pub seg : (p q : I32Point) → in_domain p ≡ true → in_domain q ≡ true → t.seg p q ≡ u.seg p q

-- ---- what a shape in the domain gives
record Placed (c : Chunk) : Type 0 where
  box : box_in_domain c.box ≡ true
  first : in_domain c.first ≡ true
  rest : every in_domain c.rest ≡ true

placed : (c : Chunk) → chunk_in_domain c ≡ true → Placed c
unfolding chunk_in_domain
placed c h =
    let k = and_r (box_in_domain c.box) (every in_domain (chunk_points c)) h in
    record {
      box = and_l (box_in_domain c.box) (every in_domain (chunk_points c)) h;
      first = and_l (in_domain c.first) (every in_domain c.rest) k;
      rest = and_r (in_domain c.first) (every in_domain c.rest) k;
    }

head_in : (c : Chunk) (cs : List Chunk) → every chunk_in_domain (c ∷ cs) ≡ true → in_domain c.first ≡ true
head_in c cs h = (placed c (and_l (chunk_in_domain c) (every chunk_in_domain cs) h)).first

goal_in : (exit : I32Point) (cs : List Chunk) → in_domain exit ≡ true → every chunk_in_domain cs ≡ true → in_domain (goal exit cs) ≡ true
goal_in exit [] i h = i
goal_in exit (c ∷ cs) i h = head_in c cs h

record Bounded (g : Group) : Type 0 where
  box : box_in_domain g.box ≡ true
  entry : in_domain g.entry ≡ true
  exit : in_domain g.exit ≡ true
  parts : every chunk_in_domain (group_chunks g) ≡ true

bounded : (g : Group) → group_in_domain g ≡ true → Bounded g
unfolding group_in_domain
bounded g h =
    let w = and4 (box_in_domain g.box) (in_domain g.entry) (in_domain g.exit) (every chunk_in_domain (group_chunks g)) h in
    record { box = w.0; entry = w.1; exit = w.2; parts = w.3 }

module _ (t u : Tests) (k : Agree t u) where
  parity_agree : (p q : I32Point) → in_domain p ≡ true → in_domain q ≡ true → parity t p q ≡ parity u p q
  parity_agree p q i j = ap₂ (λ (x y : Bool). Off (x ⊻ y)) (k.above p i) (k.above q j)

  -- ---- chunks
  chain_agree : (a : I32Point) (r : List I32Point) → in_domain a ≡ true → every in_domain r ≡ true → chain t.seg a r ≡ chain u.seg a r
  chain_agree a [] i j = refl
  chain_agree a (b ∷ r) i j =
      let here = and_l (in_domain b) (every in_domain r) j in
      ap₂ ◌⊕◌ (k.seg a b i here) (chain_agree b r here (and_r (in_domain b) (every in_domain r) j))

  joint_agree : (a : I32Point) (cs : List Chunk) → in_domain a ≡ true → every chunk_in_domain cs ≡ true → joint t a cs ≡ joint u a cs
  joint_agree a [] i h = refl
  joint_agree a (c ∷ cs) i h = k.seg a c.first i (head_in c cs h)

  chunk_agree : (exit : I32Point) (c : Chunk) (cs : List Chunk) → in_domain exit ≡ true → chunk_in_domain c ≡ true → every chunk_in_domain cs ≡ true → chunk_walk t exit c cs ≡ chunk_walk u exit c cs
  unfolding chunk_walk
  chunk_agree exit c cs i h j =
      let w = placed c h in
      rw (k.relevant c.box w.box, k.right c.box w.box, parity_agree c.first (goal exit cs) w.first (goal_in exit cs i j), chain_agree c.first c.rest w.first w.rest, joint_agree (last_from c.first c.rest) cs (every_last in_domain c.first c.rest w.first w.rest) j)

  chunks_agree : (exit : I32Point) (cs : List Chunk) → in_domain exit ≡ true → every chunk_in_domain cs ≡ true → chunks_walk t exit cs ≡ chunks_walk u exit cs
  unfolding chunks_walk
  chunks_agree exit [] i h = refl
  chunks_agree exit (c ∷ cs) i h =
      let later = and_r (chunk_in_domain c) (every chunk_in_domain cs) h in
      ap₂ ◌⊕◌ (chunk_agree exit c cs i (and_l (chunk_in_domain c) (every chunk_in_domain cs) h) later) (chunks_agree exit cs i later)

  group_agree : (g : Group) → group_in_domain g ≡ true → group_walk t g ≡ group_walk u g
  unfolding group_walk
  group_agree g h =
      let w = bounded g h in
      rw (k.relevant g.box w.box, k.right g.box w.box, parity_agree g.entry g.exit w.entry w.exit, chunks_agree g.exit (group_chunks g) w.exit w.parts)

  -- ---- legs
  link_agree : (a b : I32Point) → in_domain a ≡ true → in_domain b ≡ true → link t.seg a b ≡ link u.seg a b
  link_agree a b i j = ap (cond (same_point a b) none) (k.seg a b i j)

  -- where a leg begins and ends
  picked : (s : Bool) (a b : I32Point) → in_domain a ≡ true → in_domain b ≡ true → in_domain (cond s a b) ≡ true
  picked true a b i j = i
  picked false a b i j = j

  from_in : (l : Leg) → leg_in_domain l ≡ true → in_domain (leg_walk t l).from ≡ true
  unfolding leg_in_domain leg_walk
  from_in l h = let w = bounded l.group h in picked l.turned l.group.exit l.group.entry w.exit w.entry

  to_in : (l : Leg) → leg_in_domain l ≡ true → in_domain (leg_walk t l).to ≡ true
  unfolding leg_in_domain leg_walk
  to_in l h = let w = bounded l.group h in picked l.turned l.group.entry l.group.exit w.entry w.exit

  leg_agree : (l : Leg) → leg_in_domain l ≡ true → leg_walk t l ≡ leg_walk u l
  unfolding leg_walk leg_in_domain
  leg_agree l h = stretch_is refl refl (group_agree l.group h)

  legs_agree : (ls : List Leg) → every leg_in_domain ls ≡ true → map (leg_walk t) ls ≡ map (leg_walk u) ls
  legs_agree [] h = refl
  legs_agree (l ∷ ls) h = ap₂ (λ (x : Stretch) (xs : List Stretch). x ∷ xs) (leg_agree l (and_l (leg_in_domain l) (every leg_in_domain ls) h)) (legs_agree ls (and_r (leg_in_domain l) (every leg_in_domain ls) h))

  onward_agree : (first last : I32Point) (ls : List Leg) → in_domain first ≡ true → in_domain last ≡ true → every leg_in_domain ls ≡ true → onward t.seg first last (map (leg_walk t) ls) ≡ onward u.seg first last (map (leg_walk t) ls)
  onward_agree first last [] i j h = link_agree last first j i
  onward_agree first last (l ∷ ls) i j h =
      let here = and_l (leg_in_domain l) (every leg_in_domain ls) h in
      ap₂ (λ (x y : Sight). x ⊕ ((leg_walk t l).tally ⊕ y)) (link_agree last (leg_walk t l).from j (from_in l here)) (onward_agree first (leg_walk t l).to ls i (to_in l here) (and_r (leg_in_domain l) (every leg_in_domain ls) h))

  around_agree : (ls : List Leg) → every leg_in_domain ls ≡ true → around t.seg (map (leg_walk t) ls) ≡ around u.seg (map (leg_walk u) ls)
  around_agree [] h = refl
  around_agree (l ∷ ls) h =
      let here = and_l (leg_in_domain l) (every leg_in_domain ls) h in
      ap (λ (x : Sight). (leg_walk t l).tally ⊕ x) (onward_agree (leg_walk t l).from (leg_walk t l).to ls (from_in l here) (to_in l here) (and_r (leg_in_domain l) (every leg_in_domain ls) h))
      ∙ ap (around u.seg) (legs_agree (l ∷ ls) h)

  -- ---- rings, polygons, zones
  ring_agree : (edge : Bool) (r : Ring) → ring_in_domain r ≡ true → ring_walk t edge r ≡ ring_walk u edge r
  unfolding ring_walk ring_in_domain
  ring_agree edge r h =
      ap₂ (λ (x : Bool) (y : Sight). x && verdict edge y)
      (k.contains r.box (and_l (box_in_domain r.box) (every leg_in_domain r.legs) h))
      (around_agree r.legs (and_r (box_in_domain r.box) (every leg_in_domain r.legs) h))

  polygon_agree : (g : Polygon) → polygon_in_domain g ≡ true → polygon_walk t g ≡ polygon_walk u g
  unfolding polygon_walk polygon_in_domain
  polygon_agree g h =
      let rings = and_r (box_in_domain g.box) (every ring_in_domain (g.outer ∷ g.holes)) h in
      ap₂ ◌&&◌ (k.contains g.box (and_l (box_in_domain g.box) (every ring_in_domain (g.outer ∷ g.holes)) h))
      (ap₂ (λ (x y : Bool). x && not y)
      (ring_agree true g.outer (and_l (ring_in_domain g.outer) (every ring_in_domain g.holes) rings))
      (some_agree ring_in_domain (ring_walk t false) (ring_walk u false) (ring_agree false) g.holes (and_r (ring_in_domain g.outer) (every ring_in_domain g.holes) rings)))

  pub zone_agree : (z : Zone) → zone_in_domain z ≡ true → zone_walk t z ≡ zone_walk u z
  unfolding zone_walk zone_in_domain
  zone_agree z h =
      ap₂ ◌&&◌ (k.contains z.box (and_l (box_in_domain z.box) (every polygon_in_domain z.polygons) h))
      (some_agree polygon_in_domain (polygon_walk t) (polygon_walk u) polygon_agree z.polygons (and_r (box_in_domain z.box) (every polygon_in_domain z.polygons) h))
