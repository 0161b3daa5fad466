-- `ring_in` says what document 01's words say (specs/Words): on any segment of the ring, `edge`; else whether an odd number counts.
-- Assumes nothing.
use Prim.Native.Nat.{ℕ}
use mathlib.Core.Path.{◌≡◌, refl, sym, ap, ap₂, ◌∙◌}
use mathlib.Core.Bool.{Bool, true, false, ◌||◌, cond}
use mathlib.Core.List.{List, [], ◌∷◌, ◌++◌, map}
use Rattle.plane.specs.declared.I32Point.{I32Point}
use Rattle.plane.specs.Sight.{Sight, On, Off}
use Rattle.plane.specs.Tally.{◌⊕◌, none, ⊕_idl, ⊕_idr, ⊕_assoc, verdict}
use Rattle.plane.specs.Lines.{first_of, last_of, chain, line, link, onward, stretch, ring_tally}
use Rattle.shapes.specs.Shapes.{Ring, leg_points, ring_in}
use Rattle.shapes.specs.Words.{Side, sides_from, neighbours, joining, round_to, sides_of, ring_sides, is_on, counts_in, odd, on_any, counted}
use Rattle.plane.specs.Segment.{same_point}

module _ (seg : I32Point → I32Point → Sight) where
  -- ---- the tally of a list of segments
  abbrev tally : List Side → Sight
  tally [] = none
  tally (e ∷ l) = seg e.from e.to ⊕ tally l

  tally_append : (l m : List Side) → tally (l ++ m) ≡ tally l ⊕ tally m
  tally_append [] m = sym (⊕_idl (tally m))
  tally_append (e ∷ l) m = ap (λ (t : Sight). seg e.from e.to ⊕ t) (tally_append l m) ∙ sym (⊕_assoc (seg e.from e.to) (tally l) (tally m))

  chain_tally : (a : I32Point) (r : List I32Point) → chain seg a r ≡ tally (sides_from a r)
  chain_tally a [] = refl
  chain_tally a (b ∷ r) = ap (λ (t : Sight). seg a b ⊕ t) (chain_tally b r)

  line_tally : (l : List I32Point) → line seg l ≡ tally (neighbours l)
  line_tally [] = refl
  line_tally (a ∷ r) = chain_tally a r

  link_tally : (a b : I32Point) → link seg a b ≡ tally (joining a b)
  link_tally a b = either (same_point a b)
    where
      either : (t : Bool) → cond t none (seg a b) ≡ tally (cond t [] (record { from = a; to = b } ∷ []))
      either true = refl
      either false = sym (⊕_idr (seg a b))

  onward_tally : (start exit : I32Point) (ls : List (List I32Point)) → onward seg start exit (map (stretch seg) ls) ≡ tally (round_to start exit ls)
  onward_tally start exit [] = link_tally exit start
  onward_tally start exit (l ∷ ls) =
      ap₂ ◌⊕◌ (link_tally exit (first_of l)) (ap₂ ◌⊕◌ (line_tally l) (onward_tally start (last_of l) ls) ∙ sym (tally_append (neighbours l) (round_to start (last_of l) ls)))
      ∙ sym (tally_append (joining exit (first_of l)) (neighbours l ++ round_to start (last_of l) ls))

  ring_tally_law : (ls : List (List I32Point)) → ring_tally seg ls ≡ tally (sides_of ls)
  ring_tally_law [] = refl
  ring_tally_law (l ∷ ls) =
      ap₂ ◌⊕◌ (line_tally l) (onward_tally (first_of l) (last_of l) ls)
      ∙ sym (tally_append (neighbours l) (round_to (first_of l) (last_of l) ls))

  -- ---- and what it tells
  abbrev said : Sight → Bool → ℕ → Sight
  said s any n = cond (is_on s || any) On (Off (odd (counts_in s n)))

  one_more : (s : Sight) (any : Bool) (n : ℕ) → s ⊕ cond any On (Off (odd n)) ≡ said s any n
  one_more On any n = refl
  one_more (Off b) true n = refl
  one_more (Off true) false n = refl
  one_more (Off false) false n = refl

  tally_says : (l : List Side) → tally l ≡ cond (on_any seg l) On (Off (odd (counted seg l)))
  unfolding on_any counted
  tally_says [] = refl
  tally_says (e ∷ l) = ap (λ (t : Sight). seg e.from e.to ⊕ t) (tally_says l) ∙ one_more (seg e.from e.to) (on_any seg l) (counted seg l)

  pub ring_in_words : (edge : Bool) (r : Ring) → ring_in seg edge r ≡ cond (on_any seg (ring_sides r)) edge (odd (counted seg (ring_sides r)))
  unfolding ring_in ring_sides
  ring_in_words edge r = ap (verdict edge) (ring_tally_law (map leg_points r.legs) ∙ tally_says (ring_sides r)) ∙ either (on_any seg (ring_sides r)) (odd (counted seg (ring_sides r)))
    where
      either : (b n : Bool) → verdict edge (cond b On (Off n)) ≡ cond b edge n
      either true n = refl
      either false n = refl
