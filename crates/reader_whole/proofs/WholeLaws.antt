-- Laws of specs/Whole, as proofs cite them. Nothing here need be believed.
-- Assumes nothing.
use Prim.Native.Nat.{ℕ, zero, suc, ◌+◌, ◌≤◌, ◌<◌}
use native.Mathlib.Omega.{arith}
use mathlib.Core.Path.{◌≡◌, refl, ap₂}
use mathlib.Core.Bool.{true, false}
use mathlib.Core.List.{List, []}
use Rattle.plane.specs.declared.Point.{Point}
use Rattle.plane.specs.declared.I32Point.{I32Point}
use Rattle.plane.specs.Domain.{in_domain}
use Rattle.plane.specs.Places.{point_of}
use Rattle.answer.specs.Answers.{Answer, ok, ◌then◌}
use Rattle.opened.specs.declared.Opened.{Opened}
use Rattle.replies.specs.Replies.{Sought, nowhere}
use Rattle.reader_ways.specs.Ways.{plain}
use Rattle.reader_zones.proofs.ZonesLaws.{whole_off, whole_is}
use Rattle.reader_lookup.specs.Asking.{candidate_of, hit_at}
use Rattle.reader_listing.specs.All.{also, all_hits, list_for}
use Rattle.reader_whole.specs.Whole.{whole_hit, whole_hits, whole_list}

-- ---- n zones from i on, all of them below `top`
-- one test, and what the others found
abbrev joined : Answer Sought → Answer (List ℕ) → Answer (List ℕ)
joined x y = x then λ z. y then λ l. ok (also z l)

module _ (f : ℕ → Answer Sought) (top : ℕ) where
  -- two tests that agree on each of them find the same
  agree : (g : ℕ → Answer Sought) → ((zone : ℕ) → zone < top → f zone ≡ g zone) → (n i : ℕ) → i + n ≤ top → all_hits f n i ≡ all_hits g n i
  unfolding all_hits
  agree g e zero i h = refl
  agree g e (suc n) i h = ap₂ joined (e i (omega arith)) (agree g e n (i + 1) (omega arith))

  -- where each of them is a miss nothing is found
  all_missed : ((zone : ℕ) → zone < top → ok nowhere ≡ f zone) → (n i : ℕ) → i + n ≤ top → ok [] ≡ all_hits f n i
  unfolding all_hits
  all_missed e zero i h = refl
  all_missed e (suc n) i h = ap₂ joined (e i (omega arith)) (all_missed e n (i + 1) (omega arith))

-- ---- one zone
module _ (o : Opened) (s : List ℕ) (q : I32Point) where
  -- no, outside the domain
  hit_off : in_domain q ≡ false → (zone : ℕ) → zone < o.zones.count → ok nowhere ≡ whole_hit o s q zone
  unfolding whole_hit
  hit_off e zone h = rw (← (whole_off plain o s zone q h e))

  -- in the domain the test that `lookup_into` makes without GRID
  hit_is : in_domain q ≡ true → (zone : ℕ) → zone < o.zones.count → hit_at plain o s (point_of q) false zone ≡ whole_hit o s q zone
  unfolding whole_hit hit_at candidate_of
  hit_is e zone h = rw (← (whole_is plain o s zone q h e))

  -- ---- all zones
  pub hits_off : in_domain q ≡ false → ok [] ≡ whole_hits o s q
  unfolding whole_hits
  hits_off e = all_missed (whole_hit o s q) o.zones.count (hit_off e) _ 0 (omega arith)

  hits_are : in_domain q ≡ true → all_hits (hit_at plain o s (point_of q) false) o.zones.count 0 ≡ whole_hits o s q
  unfolding whole_hits
  hits_are e = agree (hit_at plain o s (point_of q) false) o.zones.count (whole_hit o s q) (hit_is e) _ 0 (omega arith)

  -- into that many places
  pub list_is : (places : ℕ) (p : Point) → p ≡ point_of q → in_domain q ≡ true → (all_hits (hit_at plain o s p false) o.zones.count 0 then list_for o s places) ≡ whole_list o s q places
  unfolding whole_list
  list_is places p g e = rw (← (hits_are e), g)
