-- The segments of a ring that are not degenerate, over lists that are joined or turned round; a ring with room in it has four positions or more.
-- Assumes nothing.
use Prim.Native.Nat.{ℕ, suc, ◌+◌, ◌≤◌, ◌<◌}
use native.Mathlib.Omega.{arith}
use mathlib.Core.Path.{◌≡◌, refl, sym, ap, ◌∙◌}
use mathlib.Core.Bool.{Bool, true, false, cond}
use mathlib.Core.List.{List, [], ◌∷◌, ◌++◌, map, reverse, reverse_aux}
use lib.ListN.{length, length-append, length-reverse}
use lib.IntN.{ℤ, pos, negsuc}
use borrow.Author.Tests.{eq-eqb, leb-true}
use Rattle.basics.specs.Truth.{and_i}
use Rattle.basics.specs.Whole.{eq_z}
use Rattle.plane.specs.declared.I32Point.{I32Point}
use Rattle.plane.specs.Segment.{same_point}
use Rattle.plane.specs.Turns.{same_true}
use Rattle.plane.specs.Lines.{last_from}
use Rattle.shapes.specs.Shapes.{Leg, Ring, group_points, leg_points}
use Rattle.shapes.specs.Words.{Side, sides_from, neighbours, joining, round_to, sides_of, ring_sides, degenerate, proper, has_room}
use Rattle.shapes.specs.Outline.{after, legs_after, strung, closed, ring_positions}

abbrev P : Type 0
P = I32Point

-- ---- a point is where it is
itself : (z : ℤ) → eq_z z z ≡ true
itself (pos n) = eq-eqb n n refl
itself (negsuc n) = eq-eqb n n refl

pub same_self : (a : P) → same_point a a ≡ true
unfolding same_point
same_self a = and_i (eq_z a.x a.x) (eq_z a.y a.y) (itself a.x) (itself a.y)

pub same_swap : (a b : P) → same_point a b ≡ same_point b a
same_swap a b = go (same_point a b) (same_point b a) refl refl
  where
    go : (s t : Bool) → same_point a b ≡ s → same_point b a ≡ t → s ≡ t
    go true t e f = sym (same_self b) ∙ ap (same_point b) (sym (same_true a b e)) ∙ f
    go false true e f = sym e ∙ ap (same_point a) (same_true b a f) ∙ same_self a
    go false false e f = refl

-- ---- one segment: 1 where its ends differ
abbrev pub apart : P → P → ℕ
apart a b = cond (same_point a b) 0 1

pub apart_self : (a : P) → apart a a ≡ 0
apart_self a = ap (λ (t : Bool). cond t 0 1) (same_self a)

pub apart_swap : (a b : P) → apart a b ≡ apart b a
apart_swap a b = ap (λ (t : Bool). cond t 0 1) (same_swap a b)

pub proper_side : (e : Side) (l : List Side) → proper (e ∷ l) ≡ apart e.from e.to + proper l
unfolding proper
proper_side e l = go (degenerate e)
  where
    go : (t : Bool) → cond t (proper l) (suc (proper l)) ≡ cond t 0 1 + proper l
    go true = omega arith
    go false = omega arith

pub proper_none : proper [] ≡ 0
unfolding proper
proper_none = refl

pub proper_joining : (a b : P) → proper (joining a b) ≡ apart a b
unfolding proper
proper_joining a b = go (same_point a b) refl
  where
    go : (t : Bool) → same_point a b ≡ t → proper (cond t [] (record { from = a; to = b } ∷ [])) ≡ cond t 0 1
    go true e = refl
    go false e = rw e

-- ---- lists that are joined
pub proper_append : (l m : List Side) → proper (l ++ m) ≡ proper l + proper m
proper_append [] m = omega (arith, proper_none)
proper_append (e ∷ l) m = omega (arith, proper_append l m, proper_side e (l ++ m), proper_side e l)

pub proper_next : (a b : P) (l : List P) → proper (sides_from a (b ∷ l)) ≡ apart a b + proper (sides_from b l)
proper_next a b l = proper_side (record { from = a; to = b }) (sides_from b l)

pub last_joined : (a : P) (l m : List P) → last_from a (l ++ m) ≡ last_from (last_from a l) m
last_joined a [] m = refl
last_joined a (b ∷ l) m = last_joined b l m

pub proper_joined : (a : P) (l m : List P) → proper (sides_from a (l ++ m)) ≡ proper (sides_from a l) + proper (sides_from (last_from a l) m)
proper_joined a [] m = omega (arith, proper_none)
proper_joined a (b ∷ l) m = omega (arith, proper_joined b l m, proper_next a b (l ++ m), proper_next a b l)

-- ---- turned round
turned : (a : P) (r acc : List P) → proper (neighbours (reverse_aux r (a ∷ acc))) ≡ proper (sides_from a acc) + proper (sides_from a r)
turned a [] acc = omega (arith, proper_none)
turned a (b ∷ r) acc = omega (arith, turned b r (a ∷ acc), proper_next b a acc, proper_next a b r, apart_swap a b)

pub proper_reverse : (l : List P) → proper (neighbours (reverse l)) ≡ proper (neighbours l)
proper_reverse [] = refl
proper_reverse (a ∷ r) = omega (arith, turned a r [], proper_none)

-- ---- segments and positions: as many of these as of those and one more
side_length : (a : P) (r : List P) → length (sides_from a r) ≡ length r
side_length a [] = refl
side_length a (b ∷ r) = ap suc (side_length b r)

proper_fits : (l : List Side) → proper l ≤ length l
proper_fits [] = omega (arith, proper_none)
proper_fits (e ∷ l) = go (same_point e.from e.to) (proper_side e l) (proper_fits l)
  where
    go : (t : Bool) → proper (e ∷ l) ≡ cond t 0 1 + proper l → proper l ≤ length l → proper (e ∷ l) ≤ suc (length l)
    go true h k = omega arith
    go false h k = omega arith

-- no list of these is empty
abbrev Full : List (List P) → Type 0
Full [] = Unit {0}
Full (l ∷ ls) = (0 < length l) × Full ls

-- a leg after the position a: its segments, with the one that leads to it, and where it ends
after_length : (a b : P) (r : List P) → length (after a (b ∷ r)) ≡ length (joining a b) + length r
after_length a b r = go (same_point a b)
  where
    go : (t : Bool) → length (cond t r (b ∷ r)) ≡ length {A = Side} (cond t [] (record { from = a; to = b } ∷ [])) + length r
    go true = omega arith
    go false = omega arith

after_last : (a b : P) (r : List P) → last_from a (after a (b ∷ r)) ≡ last_from b r
after_last a b r = go (same_point a b) refl
  where
    go : (t : Bool) → same_point a b ≡ t → last_from a (cond t r (b ∷ r)) ≡ last_from b r
    go true e = ap (λ (x : P). last_from x r) (same_true a b e)
    go false e = refl

round_length : (start a : P) (ls : List (List P)) → Full ls → length (round_to start a ls) ≡ length (legs_after a ls) + length (joining (last_from a (legs_after a ls)) start)
round_length start a [] f = omega arith
round_length start a ([] ∷ ls) f = absurd (omega (arith, f.0))
round_length start a ((b ∷ r) ∷ ls) f =
    let c = last_from b r in
    let rest = legs_after c ls in
    let e : last_from a (after a (b ∷ r) ++ rest) ≡ last_from c rest = last_joined a (after a (b ∷ r)) rest ∙ ap (λ (x : P). last_from x rest) (after_last a b r) in
    omega (
      arith,
      round_length start c ls f.1,
      length-append (joining a b) (sides_from b r ++ round_to start c ls),
      length-append (sides_from b r) (round_to start c ls),
      side_length b r,
      length-append (after a (b ∷ r)) rest,
      after_length a b r,
      ap (λ (x : P). length (joining x start)) e,
    )

closed_length : (a : P) (r : List P) → length (closed (a ∷ r)) ≡ suc (length r) + length (joining (last_from a r) a)
closed_length a r = go (same_point (last_from a r) a)
  where
    go : (t : Bool) → length (cond t (a ∷ r) (a ∷ r ++ (a ∷ []))) ≡ suc (length r) + length {A = Side} (cond t [] (record { from = last_from a r; to = a } ∷ []))
    go true = omega arith
    go false = omega (arith, length-append r (a ∷ []))

positions_length : (a : P) (r : List P) (ls : List (List P)) → Full ls → length (closed (strung ((a ∷ r) ∷ ls))) ≡ suc (length (sides_of ((a ∷ r) ∷ ls)))
positions_length a r ls f =
    let c = last_from a r in
    let rest = legs_after c ls in
    omega (
      arith,
      closed_length a (r ++ rest),
      length-append r rest,
      round_length a c ls f,
      length-append (sides_from a r) (round_to a c ls),
      side_length a r,
      ap (λ (x : P). length (joining x a)) (last_joined a r rest),
    )

-- ---- a leg has a point
leg_some : (l : Leg) → 0 < length (leg_points l)
leg_some l = go l.turned
  where
    go : (t : Bool) → 0 < length (cond t (reverse (group_points l.group)) (group_points l.group))
    go true = omega (arith, length-reverse (group_points l.group))
    go false = omega arith

legs_full : (ls : List Leg) → Full (map leg_points ls)
legs_full [] = tt
legs_full (l ∷ ls) = (leg_some l, legs_full ls)

enough : (ls : List (List P)) → Full ls → 3 ≤ proper (sides_of ls) → 4 ≤ length (closed (strung ls))
enough [] f h = absurd (omega (arith, proper_none))
enough ([] ∷ ls) f h = absurd (omega (arith, f.0))
enough ((a ∷ r) ∷ ls) f h = omega (arith, proper_fits (sides_of ((a ∷ r) ∷ ls)), positions_length a r ls f.1)

pub four_positions : (r : Ring) → has_room r ≡ true → 4 ≤ length (ring_positions r)
unfolding has_room ring_sides ring_positions
four_positions r h = enough (map leg_points r.legs) (legs_full r.legs) (leb-true 3 (proper (sides_of (map leg_points r.legs))) h)
