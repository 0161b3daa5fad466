-- Laws of outlines: the doubled area of positions in the domain fits 64 bits, so far and in all; a closed ring turned round starts where it started; a ring in the domain has its positions there.
-- Assumes nothing.
use Prim.Native.Nat.{zero, suc, ◌+◌, ◌*◌, ◌≤◌}
use native.Mathlib.Omega.{arith}
use native.Mathlib.Nat.{mul-le-mul}
use mathlib.Core.Path.{◌≡◌, refl, sym, ◌∙◌}
use mathlib.Core.Bool.{Bool, true, false, ◌&&◌, cond}
use mathlib.Core.List.{List, [], ◌∷◌, ◌++◌, map, reverse, reverse_aux}
use lib.ListN.{length, length-append}
use lib.IntN.{ℤ, pos, negsuc, neg_ℤ, nat_abs, ◌-ℤ◌, ◌*ℤ◌}
use Rattle.basics.specs.Truth.{and_i, and_l, and_r}
use Rattle.basics.specs.Signed.{sum_abs}
use Rattle.plane.specs.declared.I32Point.{I32Point}
use Rattle.plane.specs.Segment.{same_point}
use Rattle.plane.specs.Turns.{same_true}
use Rattle.plane.specs.Domain.{in_domain}
use Rattle.plane.specs.Lines.{every, every_append, every_prefix, first_of, last_from, last_of, last_append, first_reverse}
use Rattle.plane.proofs.DomainLaws.{domain_x, domain_y}
use Rattle.boxes.specs.Box.{box_in_domain}
use Rattle.shapes.specs.Shapes.{Chunk, chunk_points, points, group_chunks, group_points, Leg, leg_points, Ring, chunk_in_domain, group_in_domain, leg_in_domain, ring_in_domain}
use Rattle.shapes.specs.Outline.{after, legs_after, strung, closed, ring_positions, swept, area_from, doubled_area}

-- ---- sizes
neg_abs : (z : ℤ) → nat_abs (neg_ℤ z) ≡ nat_abs z
neg_abs (pos zero) = refl
neg_abs (pos (suc n)) = refl
neg_abs (negsuc n) = refl

pub minus_abs : (x y : ℤ) → nat_abs (x -ℤ y) ≤ nat_abs x + nat_abs y
minus_abs x y = omega (arith, sum_abs x (neg_ℤ y), neg_abs y)

pub times_abs : (x y : ℤ) → nat_abs (x *ℤ y) ≡ nat_abs x * nat_abs y
times_abs (pos a) (pos b) = refl
times_abs (pos a) (negsuc b) = neg_abs (pos (a * suc b))
times_abs (negsuc a) (pos b) = neg_abs (pos (suc a * b))
times_abs (negsuc a) (negsuc b) = refl

-- the product of two coordinates
pub product_fits : (x y : ℤ) → nat_abs x ≤ 18_000_000 → nat_abs y ≤ 9_000_000 → nat_abs (x *ℤ y) ≤ 162_000_000_000_000
product_fits x y h k = rw (times_abs x y) (mul-le-mul h k)

pub swept_fits : (a b : I32Point) → in_domain a ≡ true → in_domain b ≡ true → nat_abs (swept a b) ≤ 324_000_000_000_000
unfolding swept
swept_fits a b h k =
    let p = product_fits a.x b.y (domain_x a h) (domain_y b k) in
    let q = product_fits b.x a.y (domain_x b k) (domain_y a h) in
    omega (arith, minus_abs (a.x *ℤ b.y) (b.x *ℤ a.y), p, q)

from_fits : (a : I32Point) (r : List I32Point) → in_domain a ≡ true → every in_domain r ≡ true → nat_abs (area_from a r) ≤ 324_000_000_000_000 * length r
from_fits a [] h k = omega arith
from_fits a (b ∷ r) h k =
    let g = and_l (in_domain b) (every in_domain r) k in
    omega (arith, sum_abs (swept a b) (area_from b r), swept_fits a b h g, from_fits b r g (and_r (in_domain b) (every in_domain r) k))

-- each of at most 10,000 positions sweeps at most twice 18,000,000 times 9,000,000
pub area_fits : (l : List I32Point) → every in_domain l ≡ true → length l ≤ 10_000 → nat_abs (doubled_area l) ≤ 3_240_000_000_000_000_000
unfolding doubled_area
area_fits [] h k = omega arith
area_fits (a ∷ r) h k = omega (arith, k, from_fits a r (and_l (in_domain a) (every in_domain r) h) (and_r (in_domain a) (every in_domain r) h))

-- so far too
pub area_so_far : (l m : List I32Point) → every in_domain (l ++ m) ≡ true → length (l ++ m) ≤ 10_000 → nat_abs (doubled_area l) ≤ 3_240_000_000_000_000_000
area_so_far l m h k = area_fits l (every_prefix in_domain l m h) (omega (arith, k, length-append l m))

-- ---- a closed ring ends where it starts
pub last_closed : (l : List I32Point) → last_of (closed l) ≡ first_of l
last_closed [] = refl
last_closed (a ∷ r) = go (same_point (last_from a r) a) refl
  where
    go : (t : Bool) → same_point (last_from a r) a ≡ t → last_of (cond t (a ∷ r) (a ∷ r ++ (a ∷ []))) ≡ a
    go true e = same_true (last_from a r) a e
    go false e = last_append a r a []

pub first_closed : (l : List I32Point) → first_of (closed l) ≡ first_of l
first_closed [] = refl
first_closed (a ∷ r) = go (same_point (last_from a r) a)
  where
    go : (t : Bool) → first_of (cond t (a ∷ r) (a ∷ r ++ (a ∷ []))) ≡ a
    go true = refl
    go false = refl

-- so turned round it starts there too
pub turned_starts : (l : List I32Point) → first_of (reverse (closed l)) ≡ first_of (closed l)
turned_starts l = first_reverse (closed l) ∙ last_closed l ∙ sym (first_closed l)

-- ---- the domain
module _ (P : I32Point → Bool) where
  every_aux : (l acc : List I32Point) → every P l ≡ true → every P acc ≡ true → every P (reverse_aux l acc) ≡ true
  every_aux [] acc h k = k
  every_aux (a ∷ r) acc h k = every_aux r (a ∷ acc) (and_r (P a) (every P r) h) (and_i (P a) (every P acc) (and_l (P a) (every P r) h) k)

  pub every_reverse : (l : List I32Point) → every P l ≡ true → every P (reverse l) ≡ true
  every_reverse l h = every_aux l [] h refl

  after_in : (a : I32Point) (l : List I32Point) → every P l ≡ true → every P (after a l) ≡ true
  after_in a [] h = refl
  after_in a (b ∷ r) h = go (same_point a b)
    where
      go : (t : Bool) → every P (cond t r (b ∷ r)) ≡ true
      go true = and_r (P b) (every P r) h
      go false = h

  legs_in : (a : I32Point) (ls : List (List I32Point)) → every (every P) ls ≡ true → every P (legs_after a ls) ≡ true
  legs_in a [] h = refl
  legs_in a (l ∷ ls) h =
      every_append P (after a l) (legs_after (last_from a l) ls)
      (after_in a l (and_l (every P l) (every (every P) ls) h))
      (legs_in (last_from a l) ls (and_r (every P l) (every (every P) ls) h))

  strung_in : (ls : List (List I32Point)) → every (every P) ls ≡ true → every P (strung ls) ≡ true
  strung_in [] h = refl
  strung_in (l ∷ ls) h =
      every_append P l (legs_after (last_of l) ls)
      (and_l (every P l) (every (every P) ls) h)
      (legs_in (last_of l) ls (and_r (every P l) (every (every P) ls) h))

  pub closed_in : (l : List I32Point) → every P l ≡ true → every P (closed l) ≡ true
  closed_in [] h = refl
  closed_in (a ∷ r) h = go (same_point (last_from a r) a)
    where
      p : P a ≡ true
      p = and_l (P a) (every P r) h

      go : (t : Bool) → every P (cond t (a ∷ r) (a ∷ r ++ (a ∷ []))) ≡ true
      go true = h
      go false = every_append P (a ∷ r) (a ∷ []) h (and_i (P a) true p refl)

chunks_points : (cs : List Chunk) → every chunk_in_domain cs ≡ true → every in_domain (points cs) ≡ true
unfolding chunk_in_domain
chunks_points [] h = refl
chunks_points (c ∷ cs) h =
    every_append in_domain (chunk_points c) (points cs)
    (and_r (box_in_domain c.box) (every in_domain (chunk_points c)) (and_l (chunk_in_domain c) (every chunk_in_domain cs) h))
    (chunks_points cs (and_r (chunk_in_domain c) (every chunk_in_domain cs) h))

leg_points_law : (l : Leg) → leg_in_domain l ≡ true → every in_domain (leg_points l) ≡ true
unfolding leg_in_domain group_in_domain
leg_points_law l h = go l.turned
  where
    p : every in_domain (group_points l.group) ≡ true
    p = chunks_points (group_chunks l.group) (and_r (box_in_domain l.group.box && in_domain l.group.entry && in_domain l.group.exit) (every chunk_in_domain (group_chunks l.group)) h)

    go : (t : Bool) → every in_domain (cond t (reverse (group_points l.group)) (group_points l.group)) ≡ true
    go true = every_reverse in_domain (group_points l.group) p
    go false = p

legs_points : (ls : List Leg) → every leg_in_domain ls ≡ true → every (every in_domain) (map leg_points ls) ≡ true
legs_points [] h = refl
legs_points (l ∷ ls) h =
    and_i (every in_domain (leg_points l)) (every (every in_domain) (map leg_points ls))
    (leg_points_law l (and_l (leg_in_domain l) (every leg_in_domain ls) h))
    (legs_points ls (and_r (leg_in_domain l) (every leg_in_domain ls) h))

pub positions_in : (r : Ring) → ring_in_domain r ≡ true → every in_domain (ring_positions r) ≡ true
unfolding ring_positions ring_in_domain
positions_in r h =
    closed_in in_domain (strung (map leg_points r.legs))
    (strung_in in_domain (map leg_points r.legs) (legs_points r.legs (and_r (box_in_domain r.box) (every leg_in_domain r.legs) h)))
