-- The walk that skips says what the exact meaning says, for all tests that keep four laws.
-- Assumes nothing.
use mathlib.Core.Path.{◌≡◌, refl, sym, ap, ap₂, ◌∙◌, subst}
use mathlib.Core.Bool.{Bool, true, false, not, ◌&&◌, cond, true≢false}
use mathlib.Core.List.{List, [], ◌∷◌, ◌++◌, append-nil, map, reverse}
use lib.Signed.{le_z}
use Rattle.basics.specs.Truth.{and_i, and_l, and_r, and3}
use Rattle.basics.specs.Parity.{◌⊻◌, ⊻_comm}
use Rattle.basics.specs.Whole.{le_le}
use Rattle.plane.specs.declared.I32Point.{I32Point}
use Rattle.plane.specs.Sight.{Off}
use Rattle.plane.specs.Tally.{◌⊕◌, none, ⊕_idr, verdict}
use Rattle.plane.specs.Turns.{same_true}
use Rattle.plane.specs.Lines.{every, some, every_append, every_prefix, every_weaken, every_last, some_agree, some_none, first_of, last_of, last_from, last_append, chain, line, chain_joint, chain_last, Stretch, stretch_is, around, stretch, ring_tally, stretch_reverse, chain_tells, line_tells, Tells, AllTell, around_tells}
use Rattle.boxes.specs.declared.BBox.{BBox}
use Rattle.shapes.specs.Shapes.{Chunk, Group, Leg, Ring, Polygon, Zone, points, group_chunks, group_points, leg_points, ring_in, polygon_in, zone_in, in_box, covers, next, chunks_fit, group_fits, leg_fits, ring_fits, polygon_fits, zone_fits}
use Rattle.shapes.specs.Walk.{Tests, goal, parity, joint, chunk_walk, chunks_walk, group_walk, leg_walk, ring_walk, polygon_walk, zone_walk}
use Rattle.plane.specs.Segment.{same_point}

-- ---- the four sides of a box
pub sides : (a b c d : Bool) → (a && b) && (c && d) ≡ true → (a ≡ true) × (b ≡ true) × (c ≡ true) × (d ≡ true)
sides a b c d h =
    let x = and_l (a && b) (c && d) h in
    let y = and_r (a && b) (c && d) h in
    (and_l a b x, and_r a b x, and_l c d y, and_r c d y)

-- ---- boxes in boxes
pub in_wider : (c b : BBox) → covers c b ≡ true → (p : I32Point) → in_box b p ≡ true → in_box c p ≡ true
unfolding in_box covers
in_wider c b h p k =
    let u = sides (le_z c.minx b.minx) (le_z b.maxx c.maxx) (le_z c.miny b.miny) (le_z b.maxy c.maxy) h in
    let v = sides (le_z b.minx p.x) (le_z p.x b.maxx) (le_z b.miny p.y) (le_z p.y b.maxy) k in
    and_i (le_z c.minx p.x && le_z p.x c.maxx) (le_z c.miny p.y && le_z p.y c.maxy)
    (and_i (le_z c.minx p.x) (le_z p.x c.maxx) (le_le c.minx b.minx p.x u.0 v.0) (le_le p.x b.maxx c.maxx v.1 u.1))
    (and_i (le_z c.miny p.y) (le_z p.y c.maxy) (le_le c.miny b.miny p.y u.2 v.2) (le_le p.y b.maxy c.maxy v.3 u.3))

abbrev pub all_in : BBox → List I32Point → Type 0
all_in b l = every (in_box b) l ≡ true

pub all_wider : (c b : BBox) (l : List I32Point) → covers c b ≡ true → all_in b l → all_in c l
all_wider c b l h = every_weaken (in_box b) (in_box c) (in_wider c b h) l

-- a box that covers the chunks' boxes covers their points
pub points_in_law : (b : BBox) (cs : List Chunk) → every (λ c. covers b c.box) cs ≡ true → chunks_fit cs ≡ true → all_in b (points cs)
unfolding chunks_fit
points_in_law b [] h k = refl
points_in_law b (c ∷ cs) h k =
    let own = and_l (every (in_box c.box) (c.first ∷ (c.rest ++ next cs))) (chunks_fit cs) k in
    let rest = and_r (every (in_box c.box) (c.first ∷ (c.rest ++ next cs))) (chunks_fit cs) k in
    let wide = and_l (covers b c.box) (every (λ d. covers b d.box) cs) h in
    every_append (in_box b) (c.first ∷ c.rest) (points cs)
    (all_wider b c.box (c.first ∷ c.rest) wide (every_prefix (in_box c.box) (c.first ∷ c.rest) (next cs) own))
    (points_in_law b cs (and_r (covers b c.box) (every (λ d. covers b d.box) cs) h) rest)

-- what a group that fits gives
pub record Sits (g : Group) : Type 0 where
  pub parts : chunks_fit (group_chunks g) ≡ true
  pub all_in_law : all_in g.box (group_points g)
  pub entry_is_law : g.entry ≡ first_of (group_points g)
  pub exit_is : g.exit ≡ last_of (group_points g)

pub sits : (g : Group) → chunks_fit (group_chunks g) ≡ true → group_fits g ≡ true → Sits g
unfolding group_fits
sits g h k =
    let u = and3 (every (λ c. covers g.box c.box) (group_chunks g)) (same_point g.entry (first_of (group_points g))) (same_point g.exit (last_of (group_points g))) k in
    record {
      parts = h;
      all_in_law = points_in_law g.box (group_chunks g) u.0 h;
      entry_is_law = same_true g.entry (first_of (group_points g)) u.1;
      exit_is = same_true g.exit (last_of (group_points g)) u.2;
    }

-- ---- THE LAWS of the tests
pub record Laws (t : Tests) : Type 0 where
  -- a segment is the same from both ends
  pub swap : (a b : I32Point) → t.seg a b ≡ t.seg b a
  -- a box contains the point just where it is relevant and not strictly to the right
  pub inside : (b : BBox) → t.contains b ≡ (t.relevant b && not (t.right b))
  -- of a segment in a box that is not relevant nothing is seen
  pub aside : (b : BBox) (p q : I32Point) → t.relevant b ≡ false → in_box b p ≡ true → in_box b q ≡ true → t.seg p q ≡ none
  -- and in a box strictly to the right only whether one end alone is above
  pub apart : (b : BBox) (p q : I32Point) → t.right b ≡ true → in_box b p ≡ true → in_box b q ≡ true → t.seg p q ≡ parity t p q

module _ (t : Tests) (k : Laws t) where
  -- ---- chunk
  -- its way: from its first point through its others to the next chunk's first
  way_end : (exit : I32Point) (c : Chunk) (cs : List Chunk) → last_of (points (c ∷ cs)) ≡ exit → last_from c.first (c.rest ++ next cs) ≡ goal exit cs
  way_end exit c [] e = e
  way_end exit c (d ∷ ds) e = last_append c.first c.rest d.first []

  way_scan : (c : Chunk) (cs : List Chunk) → chain t.seg c.first (c.rest ++ next cs) ≡ chain t.seg c.first c.rest ⊕ joint t (last_from c.first c.rest) cs
  way_scan c [] = rw append-nil (sym (⊕_idr (chain t.seg c.first c.rest)))
  way_scan c (d ∷ ds) = chain_last t.seg c.first c.rest d.first

  chunk_walk_law : (exit : I32Point) (c : Chunk) (cs : List Chunk) → all_in c.box (c.first ∷ (c.rest ++ next cs)) → last_of (points (c ∷ cs)) ≡ exit
      → chunk_walk t exit c cs ≡ chain t.seg c.first (c.rest ++ next cs)
  unfolding chunk_walk
  chunk_walk_law exit c cs h e = go (t.relevant c.box) (t.right c.box) refl refl
    where
      here : in_box c.box c.first ≡ true
      here = and_l (in_box c.box c.first) (every (in_box c.box) (c.rest ++ next cs)) h

      there : all_in c.box (c.rest ++ next cs)
      there = and_r (in_box c.box c.first) (every (in_box c.box) (c.rest ++ next cs)) h

      go : (u v : Bool) → t.relevant c.box ≡ u → t.right c.box ≡ v
          → cond u (cond v (parity t c.first (goal exit cs)) (chain t.seg c.first c.rest ⊕ joint t (last_from c.first c.rest) cs)) none ≡ chain t.seg c.first (c.rest ++ next cs)
      go false v m n = sym (chain_tells t.seg (λ p. false) (in_box c.box) (λ p q. k.aside c.box p q m) c.first (c.rest ++ next cs) here there)
      go true true m n = ap (parity t c.first) (sym (way_end exit c cs e)) ∙ sym (chain_tells t.seg t.above (in_box c.box) (λ p q. k.apart c.box p q n) c.first (c.rest ++ next cs) here there)
      go true false m n = sym (way_scan c cs)

  -- ---- chunks
  chunks_walk_law : (exit : I32Point) (cs : List Chunk) → chunks_fit cs ≡ true → last_of (points cs) ≡ exit → chunks_walk t exit cs ≡ line t.seg (points cs)
  unfolding chunks_walk chunks_fit
  chunks_walk_law exit [] h e = refl
  chunks_walk_law exit (c ∷ []) h e =
      ⊕_idr (chunk_walk t exit c [])
      ∙ chunk_walk_law exit c [] (and_l (every (in_box c.box) (c.first ∷ (c.rest ++ []))) true h) e
  chunks_walk_law exit (c ∷ d ∷ ds) h e =
      let here = and_l (every (in_box c.box) (c.first ∷ (c.rest ++ (d.first ∷ [])))) (chunks_fit (d ∷ ds)) h in
      let rest = and_r (every (in_box c.box) (c.first ∷ (c.rest ++ (d.first ∷ [])))) (chunks_fit (d ∷ ds)) h in
      ap₂ ◌⊕◌ (chunk_walk_law exit c (d ∷ ds) here e) (chunks_walk_law exit (d ∷ ds) rest (sym (last_append c.first c.rest d.first (d.rest ++ points ds)) ∙ e))
      ∙ sym (chain_joint t.seg c.first c.rest d.first (d.rest ++ points ds))

  -- ---- group
  group_walk_law : (g : Group) → Sits g → group_walk t g ≡ line t.seg (group_points g)
  unfolding group_walk
  group_walk_law g s = go (t.relevant g.box) (t.right g.box) refl refl
    where
      go : (u v : Bool) → t.relevant g.box ≡ u → t.right g.box ≡ v
          → cond u (cond v (parity t g.entry g.exit) (chunks_walk t g.exit (group_chunks g))) none ≡ line t.seg (group_points g)
      go false v m n = sym (line_tells t.seg (λ p. false) (in_box g.box) (λ p q. k.aside g.box p q m) (group_points g) s.all_in_law)
      go true true m n = ap₂ (parity t) s.entry_is_law s.exit_is ∙ sym (line_tells t.seg t.above (in_box g.box) (λ p q. k.apart g.box p q n) (group_points g) s.all_in_law)
      go true false m n = chunks_walk_law g.exit (group_chunks g) s.parts (sym s.exit_is)

  -- ---- leg
  leg_walk_law : (l : Leg) → Sits l.group → leg_walk t l ≡ stretch t.seg (leg_points l)
  unfolding leg_walk
  leg_walk_law l s = go l.turned
    where
      go : (u : Bool) → record { from = cond u l.group.exit l.group.entry; to = cond u l.group.entry l.group.exit; tally = group_walk t l.group } ≡ stretch t.seg (cond u (reverse (group_points l.group)) (group_points l.group))
      go true = stretch_is s.exit_is s.entry_is_law (group_walk_law l.group s) ∙ sym (stretch_reverse t.seg k.swap (group_points l.group))
      go false = stretch_is s.entry_is_law s.exit_is (group_walk_law l.group s)

  leg_sits : (b : BBox) (l : Leg) → leg_fits b l ≡ true → Sits l.group
  unfolding leg_fits
  leg_sits b l h = let u = and3 (covers b l.group.box) (chunks_fit (group_chunks l.group)) (group_fits l.group) h in sits l.group u.1 u.2

  legs_walk : (b : BBox) (ls : List Leg) → every (leg_fits b) ls ≡ true → map (leg_walk t) ls ≡ map (stretch t.seg) (map leg_points ls)
  legs_walk b [] h = refl
  legs_walk b (l ∷ ls) h = ap₂ (λ (x : Stretch) (xs : List Stretch). x ∷ xs) (leg_walk_law l (leg_sits b l (and_l (leg_fits b l) (every (leg_fits b) ls) h))) (legs_walk b ls (and_r (leg_fits b l) (every (leg_fits b) ls) h))

  -- ---- a ring in a box that does not contain the point: nothing is seen, or all of it is seen, and round the ring that comes to nothing
  -- the points of a leg are in b
  held : BBox → Leg → Bool
  held b l = every (in_box b) (group_points l.group)

  held_wider : (c b : BBox) → covers c b ≡ true → (l : Leg) → held b l ≡ true → held c l ≡ true
  unfolding held
  held_wider c b h l = all_wider c b (group_points l.group) h

  leg_held : (b : BBox) (l : Leg) → leg_fits b l ≡ true → held b l ≡ true
  unfolding held leg_fits
  leg_held b l f = all_wider b l.group.box (group_points l.group) (and3 (covers b l.group.box) (chunks_fit (group_chunks l.group)) (group_fits l.group) f).0 (leg_sits b l f).all_in_law

  module _ (b : BBox) (h : I32Point → Bool) (tells : (p q : I32Point) → in_box b p ≡ true → in_box b q ≡ true → t.seg p q ≡ Off (h p ⊻ h q)) where
    leg_tells : (l : Leg) → held b l ≡ true → Tells t.seg h (in_box b) tells (stretch t.seg (leg_points l))
    unfolding held
    leg_tells l i = go l.turned
      where
        begins : in_box b l.group.head.first ≡ true
        begins = and_l (in_box b l.group.head.first) (every (in_box b) (l.group.head.rest ++ points l.group.tail)) i

        ends : in_box b (last_of (group_points l.group)) ≡ true
        ends = every_last (in_box b) l.group.head.first (l.group.head.rest ++ points l.group.tail) begins (and_r (in_box b l.group.head.first) (every (in_box b) (l.group.head.rest ++ points l.group.tail)) i)

        said : line t.seg (group_points l.group) ≡ Off (h (first_of (group_points l.group)) ⊻ h (last_of (group_points l.group)))
        said = line_tells t.seg h (in_box b) tells (group_points l.group) i

        go : (u : Bool) → Tells t.seg h (in_box b) tells (stretch t.seg (cond u (reverse (group_points l.group)) (group_points l.group)))
        go true = subst (Tells t.seg h (in_box b) tells) (sym (stretch_reverse t.seg k.swap (group_points l.group))) (record { from_in = ends; to_in = begins; told = said ∙ ap Off (⊻_comm (h (first_of (group_points l.group))) (h (last_of (group_points l.group)))) })
        go false = record { from_in = begins; to_in = ends; told = said }

    all_tell : (ls : List Leg) → every (held b) ls ≡ true → AllTell t.seg h (in_box b) tells (map (stretch t.seg) (map leg_points ls))
    all_tell [] i = tt
    all_tell (l ∷ ls) i = (leg_tells l (and_l (held b l) (every (held b) ls) i), all_tell ls (and_r (held b l) (every (held b) ls) i))

    ring_tells : (ls : List Leg) → every (held b) ls ≡ true → ring_tally t.seg (map leg_points ls) ≡ none
    ring_tells ls i = around_tells t.seg h (in_box b) tells (map (stretch t.seg) (map leg_points ls)) (all_tell ls i)

  ring_outside : (b : BBox) → t.contains b ≡ false → (edge : Bool) (r : Ring) → every (held b) r.legs ≡ true → ring_in t.seg edge r ≡ false
  unfolding ring_in
  ring_outside b o edge r i = ap (verdict edge) (go (t.relevant b) (t.right b) refl refl (sym (k.inside b) ∙ o))
    where
      go : (u v : Bool) → t.relevant b ≡ u → t.right b ≡ v → (t.relevant b && not (t.right b)) ≡ false → ring_tally t.seg (map leg_points r.legs) ≡ none
      go false v m n e = ring_tells b (λ p. false) (λ p q. k.aside b p q m) r.legs i
      go true true m n e = ring_tells b t.above (λ p q. k.apart b p q n) r.legs i
      go true false m n e = absurd (true≢false (sym (ap₂ (λ (x y : Bool). x && not y) m n) ∙ e))

  -- ---- ring
  module _ (b : BBox) (r : Ring) (f : ring_fits b r ≡ true) where
    own_fit : every (leg_fits r.box) r.legs ≡ true
    unfolding ring_fits
    own_fit = and_r (covers b r.box) (every (leg_fits r.box) r.legs) f

    own_held : every (held r.box) r.legs ≡ true
    own_held = every_weaken (leg_fits r.box) (held r.box) (leg_held r.box) r.legs own_fit

    -- and so by the box of what the ring belongs to
    ring_held : every (held b) r.legs ≡ true
    unfolding ring_fits
    ring_held = every_weaken (held r.box) (held b) (held_wider b r.box (and_l (covers b r.box) (every (leg_fits r.box) r.legs) f)) r.legs own_held

    ring_walk_law : (edge : Bool) → ring_walk t edge r ≡ ring_in t.seg edge r
    unfolding ring_walk ring_in
    ring_walk_law edge = go (t.contains r.box) refl
      where
        seen : verdict edge (around t.seg (map (leg_walk t) r.legs)) ≡ ring_in t.seg edge r
        seen = ap (λ (ss : List Stretch). verdict edge (around t.seg ss)) (legs_walk r.box r.legs own_fit)

        go : (u : Bool) → t.contains r.box ≡ u → u && verdict edge (around t.seg (map (leg_walk t) r.legs)) ≡ ring_in t.seg edge r
        go true e = seen
        go false e = sym (ring_outside r.box e edge r own_held)

  -- ---- polygon
  polygon_outside : (b : BBox) → t.contains b ≡ false → (g : Polygon) → every (held b) g.outer.legs ≡ true → polygon_in t.seg g ≡ false
  unfolding polygon_in
  polygon_outside b o g i = ap (λ u. u && not (some (ring_in t.seg false) g.holes)) (ring_outside b o true g.outer i)

  module _ (b : BBox) (g : Polygon) (f : polygon_fits b g ≡ true) where
    outer_fits : ring_fits g.box g.outer ≡ true
    unfolding polygon_fits
    outer_fits = and_l (ring_fits g.box g.outer) (every (ring_fits g.box) g.holes) (and_r (covers b g.box) (every (ring_fits g.box) (g.outer ∷ g.holes)) f)

    holes_fit : every (ring_fits g.box) g.holes ≡ true
    unfolding polygon_fits
    holes_fit = and_r (ring_fits g.box g.outer) (every (ring_fits g.box) g.holes) (and_r (covers b g.box) (every (ring_fits g.box) (g.outer ∷ g.holes)) f)

    outer_held : every (held b) g.outer.legs ≡ true
    unfolding polygon_fits
    outer_held = every_weaken (held g.box) (held b) (held_wider b g.box (and_l (covers b g.box) (every (ring_fits g.box) (g.outer ∷ g.holes)) f)) g.outer.legs (ring_held g.box g.outer outer_fits)

    polygon_walk_law : polygon_walk t g ≡ polygon_in t.seg g
    unfolding polygon_walk polygon_in
    polygon_walk_law = go (t.contains g.box) refl
      where
        seen : ring_walk t true g.outer && not (some (ring_walk t false) g.holes) ≡ polygon_in t.seg g
        seen = ap₂ (λ (u v : Bool). u && not v) (ring_walk_law g.box g.outer outer_fits true) (some_agree (ring_fits g.box) (ring_walk t false) (ring_in t.seg false) (λ r h. ring_walk_law g.box r h false) g.holes holes_fit)

        go : (u : Bool) → t.contains g.box ≡ u → u && (ring_walk t true g.outer && not (some (ring_walk t false) g.holes)) ≡ polygon_in t.seg g
        go true e = seen
        go false e = sym (polygon_outside g.box e g (ring_held g.box g.outer outer_fits))

  -- ---- THE THEOREM: zone
  pub zone_walk_law : (z : Zone) → zone_fits z ≡ true → zone_walk t z ≡ zone_in t.seg z
  unfolding zone_walk zone_in zone_fits
  zone_walk_law z f = go (t.contains z.box) refl
    where
      go : (u : Bool) → t.contains z.box ≡ u → u && some (polygon_walk t) z.polygons ≡ some (polygon_in t.seg) z.polygons
      go true e = some_agree (polygon_fits z.box) (polygon_walk t) (polygon_in t.seg) (polygon_walk_law z.box) z.polygons f
      go false e = sym (some_none (polygon_fits z.box) (polygon_in t.seg) (λ g h. polygon_outside z.box e g (outer_held z.box g h)) z.polygons f)
