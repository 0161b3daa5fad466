-- A zone that a lookup gives is one of the record's: its number is below the zone count. For any record, any bytes and either way of walking.
-- Assumes nothing.
use Prim.Native.Nat.{ℕ, zero, suc, ◌+◌, ◌*◌, ◌%◌, ◌<◌}
use native.Mathlib.Omega.{arith}
use mathlib.Core.Path.{◌≡◌, ap, ◌∙◌}
use mathlib.Core.Bool.{Bool, true, false, cond}
use mathlib.Core.List.{List}
use lib.IntN.{ℤ}
use lib.Ieee.{Float}
use Rattle.answer.specs.Answers.{Answer, ok, refused, ◌then◌}
use Rattle.answer.specs.Checks.{below, same}
use Rattle.answer.proofs.CheckLaws.{below_lt}
use Rattle.plane.specs.declared.Point.{Point}
use Rattle.fields.specs.Loads.{load_at}
use Rattle.opened.specs.declared.Grid.{Grid}
use Rattle.opened.specs.declared.Opened.{Opened}
use Rattle.reader_cells.specs.Asked.{on_earth, in_grid, read, cell_of, cell_candidates, candidates_of, candidate_place, zone_below, candidate_at}
use Rattle.reader_zones.specs.Zones.{zone_by}
use Rattle.reader_ways.specs.Ways.{Way}
use Rattle.reader_lookup.specs.Asking.{or_else, candidate_of, hit_at, first_hit, unlooked, scaled, lookup_among, lookup_by}
use Rattle.replies.specs.Replies.{Chosen, none, all, listed, Sought, nowhere, in_zone}
use Rattle.answer.proofs.AnswersLaws.{zero_one, then_inv, need_inv, ok_inv}

-- ---- a zone at a place of the candidate list
listed_below : (o : Opened) (s : List ℕ) (place zone : ℕ) → ok zone ≡ candidate_at o s place → zone < o.zones.count
unfolding candidate_at zone_below
listed_below o s place zone e =
    let n = need_inv 30 (below place o.grid.total) (load_at 2 s (candidate_place o.grid place) then zone_below o.zones.count) zone e in
    let t = then_inv (load_at 2 s (candidate_place o.grid place)) (zone_below o.zones.count) zone n.1 in
    let m = need_inv 31 (below t.0 o.zones.count) (ok t.0) zone t.2 in
    omega (arith, below_lt t.0 o.zones.count m.0, ok_inv zone t.0 m.1)

-- ---- without GRID there are as many candidates as zones
module _ (n : ℕ) where
  not_none : (b : Bool) (x : Answer Chosen) → ok (all n) ≡ cond b x (ok none) → ok (all n) ≡ x
  not_none true x e = e
  not_none false x e = let z : ◌≡◌ {A = ℕ} 0 1 = cc in absurd (zero_one z)

  not_read : (x : Answer ℕ) → ok (all n) ≡ (x then read) → ⊥
  not_read (ok w) e = let z : ◌≡◌ {A = ℕ} 0 1 = cc in zero_one z
  not_read (refused k) e = let z : ◌≡◌ {A = ℕ} 0 1 = cc in zero_one z

  not_cell : (s : List ℕ) (g : Grid) (column row : ℤ) → ok (all n) ≡ cell_candidates s g column row → ⊥
  unfolding cell_candidates
  not_cell s g column row e = not_read (load_at 4 s (g.off + 12 + 4 * cell_of g column row)) (not_none (in_grid g column row) _ e)

  all_zones : (m : ℕ) (b : Bool) (x : Answer Chosen) → (ok (all n) ≡ x → ⊥) → ok (all n) ≡ cond b (ok (all m)) x → n ≡ m
  all_zones m true x never e = cc
  all_zones m false x never e = absurd (never e)

  all_of : (o : Opened) (s : List ℕ) (lng lat : Float) → ok (all n) ≡ candidates_of o s lng lat → n ≡ o.zones.count
  unfolding candidates_of
  all_of o s lng lat e = all_zones o.zones.count (same (o.flags % 2) 0) _ (not_cell s o.grid _ _) (not_none (on_earth lng lat) _ e)

-- ---- a candidate that contains the point
module _ (w : Way) (zone : ℕ) where
  -- what is found is what was asked for
  found_is : (b : Bool) (z : ℕ) → in_zone zone ≡ cond b (in_zone z) nowhere → zone ≡ z
  found_is true z e = cc
  found_is false z e = let z : ◌≡◌ {A = ℕ} 0 1 = cc in absurd (zero_one z)

  hit_is : (o : Opened) (s : List ℕ) (p : Point) (grid : Bool) (place : ℕ) → ok (in_zone zone) ≡ hit_at w o s p grid place → ok zone ≡ candidate_of o s grid place
  unfolding hit_at
  hit_is o s p grid place e =
      let t = then_inv (candidate_of o s grid place) (λ z. zone_by w o s p z then λ b. ok (cond b (in_zone z) nowhere)) (in_zone zone) e in
      let u = then_inv (zone_by w o s p t.0) (λ b. ok (cond b (in_zone t.0) nowhere)) (in_zone zone) t.2 in
      ap ok (found_is u.0 t.0 (ok_inv _ _ u.2)) ∙ t.1

  -- the first that does so stands at one of the places
  first_is : (hit : ℕ → Answer Sought) (n i : ℕ) → ok (in_zone zone) ≡ first_hit hit n i → (j : ℕ) × (j < i + n) × (ok (in_zone zone) ≡ hit j)
  unfolding first_hit
  first_is hit zero i e = let z : ◌≡◌ {A = ℕ} 0 1 = cc in absurd (zero_one z)
  first_is hit (suc n) i e =
      let t = then_inv (hit i) (λ z. or_else z (first_hit hit n (i + 1))) (in_zone zone) e in
      by t.0 t.1 t.2 (first_is hit n (i + 1))
    where
      by : (z : Sought) → ok z ≡ hit i → ok (in_zone zone) ≡ or_else z (first_hit hit n (i + 1))
          → (ok (in_zone zone) ≡ first_hit hit n (i + 1) → (j : ℕ) × (j < i + 1 + n) × (ok (in_zone zone) ≡ hit j)) → (j : ℕ) × (j < i + suc n) × (ok (in_zone zone) ≡ hit j)
      by nowhere h e later = let r = later e in (r.0, omega (arith, r.1), r.2)
      by (in_zone z) h e later = (i, omega arith, e ∙ h)

  module _ (o : Opened) (s : List ℕ) (p : Point) where
    first_zone : (n : ℕ) → n ≡ o.zones.count → ok (in_zone zone) ≡ first_hit (hit_at w o s p false) n 0 → zone < o.zones.count
    unfolding candidate_of
    first_zone n h e =
        let r = first_is (hit_at w o s p false) n 0 e in
        omega (arith, r.1, h, ok_inv _ _ (hit_is o s p false r.0 r.2))

    first_listed : (n place : ℕ) → ok (in_zone zone) ≡ first_hit (hit_at w o s p true) n place → zone < o.zones.count
    unfolding candidate_of
    first_listed n place e =
        let r = first_is (hit_at w o s p true) n place e in
        listed_below o s r.0 zone (hit_is o s p true r.0 r.2)

  -- ---- the whole
  module _ (o : Opened) (s : List ℕ) (lng lat : Float) where
    unlooked_below : (place : ℕ) → ok (in_zone zone) ≡ (candidate_at o s place then λ z. ok (in_zone z)) → zone < o.zones.count
    unlooked_below place e =
        let t = then_inv (candidate_at o s place) (λ z. ok (in_zone z)) (in_zone zone) e in
        let same-zone : zone ≡ t.0 = found_is true t.0 (ok_inv _ _ t.2) in
        omega (arith, listed_below o s place t.0 t.1, same-zone)

    among_below : (c : Chosen) → ok c ≡ candidates_of o s lng lat → ok (in_zone zone) ≡ lookup_among w o s lng lat c → zone < o.zones.count
    unfolding lookup_among
    among_below none h e = let z : ◌≡◌ {A = ℕ} 0 1 = cc in absurd (zero_one z)
    among_below (all n) h e = first_zone o s (scaled lng lat) n (all_of n o s lng lat h) e
    among_below (listed n place) h e = by (unlooked o n lng lat) e
      where
        by : (b : Bool) → ok (in_zone zone) ≡ cond b (candidate_at o s place then λ z. ok (in_zone z)) (first_hit (hit_at w o s (scaled lng lat) true) n place) → zone < o.zones.count
        by true e = unlooked_below place e
        by false e = first_listed o s (scaled lng lat) n place e

    pub found_below : ok (in_zone zone) ≡ lookup_by w o s lng lat → zone < o.zones.count
    unfolding lookup_by
    found_below e =
        let t = then_inv (candidates_of o s lng lat) (lookup_among w o s lng lat) (in_zone zone) e in
        among_below t.0 t.1 t.2
