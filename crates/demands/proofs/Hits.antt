-- Candidates tested one by one, of a file whose zones all answer: the first that contains the point, and all that do.
-- Assumes nothing.
use Prim.Native.Nat.{ℕ, zero, suc, ◌+◌, ◌-◌, ◌≤◌, ◌<◌}
use native.Mathlib.Omega.{arith}
use mathlib.Core.Path.{◌≡◌, refl, sym, ap, ◌∙◌, subst}
use mathlib.Core.Bool.{Bool, true, false, cond}
use mathlib.Core.List.{List, [], ◌∷◌}
use lib.Dec.{ltb}
use lib.Ieee.{Float}
use borrow.Author.Tests.{lt-ltb, ltb-true}
use Rattle.basics.specs.Truth.{and_i, and_l, and_r}
use Rattle.plane.specs.declared.Point.{Point}
use Rattle.plane.specs.Lines.{every}
use Rattle.plane.specs.Runs.{run, run_every}
use Rattle.answer.specs.Answers.{Answer, ok, ◌then◌, fine}
use Rattle.answer.specs.Checks.{and_then, same}
use Rattle.answer.proofs.CheckLaws.{same_eq}
use Rattle.opened.specs.declared.Opened.{Opened}
use Rattle.reader_named.proofs.Accepted.{NameGiven}
use Rattle.reader_cells.specs.Asked.{candidate_at}
use Rattle.reader_cells.proofs.Accepted.{ListedZone, AllZones}
use Rattle.reader_ways.specs.Ways.{plain}
use Rattle.reader_zones.specs.Zones.{zone_of}
use Rattle.reader_lookup.specs.Asking.{scaled, candidate_of, hit_at, or_else, first_hit, unlooked, lookup_among}
use Rattle.demands.specs.Lookups.{zone_listed, candidate_zones, first_that, all_that, shortcut}
use Rattle.replies.specs.Replies.{Chosen, none, all, listed, Sought, nowhere, in_zone}
use Rattle.reader_listing.specs.All.{also, all_hits, hits_among, names_read}

-- ---- a row of candidates
abbrev hit_of : (ℕ → Bool) → ℕ → Sought
hit_of P zone = cond (P zone) (in_zone zone) nowhere

module _ (hit : ℕ → Answer Sought) (P : ℕ → Bool) (f : ℕ → ℕ) where
  first_that_law : (n i : ℕ) → ((j : ℕ) → i ≤ j → j < i + n → hit j ≡ ok (hit_of P (f j))) → first_hit hit n i ≡ ok (first_that P (run f n i))
  unfolding first_hit first_that run
  first_that_law zero i h = refl
  first_that_law (suc n) i h =
      ap (λ (x : Answer Sought). x then λ z. or_else z (first_hit hit n (i + 1))) (h i (omega arith) (omega arith))
      ∙ either (P (f i)) (first_that_law n (i + 1) (λ j l m. h j (omega arith) (omega arith)))
    where
      either : (b : Bool) → first_hit hit n (i + 1) ≡ ok (first_that P (run f n (i + 1))) → or_else (cond b (in_zone (f i)) nowhere) (first_hit hit n (i + 1)) ≡ ok (cond b (in_zone (f i)) (first_that P (run f n (i + 1))))
      either true e = refl
      either false e = e

  all_that_law : (n i : ℕ) → ((j : ℕ) → i ≤ j → j < i + n → hit j ≡ ok (hit_of P (f j))) → all_hits hit n i ≡ ok (all_that P (run f n i))
  unfolding all_hits all_that run
  all_that_law zero i h = refl
  all_that_law (suc n) i h =
      ap (λ (x : Answer Sought). x then λ z. all_hits hit n (i + 1) then λ l. ok (also z l)) (h i (omega arith) (omega arith))
      ∙ ap (λ (x : Answer (List ℕ)). x then λ l. ok (also (hit_of P (f i)) l)) (all_that_law n (i + 1) (λ j l m. h j (omega arith) (omega arith)))
      ∙ either (P (f i))
    where
      either : (b : Bool) → ◌≡◌ {A = Answer (List ℕ)} (ok (also (cond b (in_zone (f i)) nowhere) (all_that P (run f n (i + 1))))) (ok (cond b (f i ∷ all_that P (run f n (i + 1))) (all_that P (run f n (i + 1)))))
      either true = refl
      either false = refl

-- ---- zones of the file
abbrev pub known : Opened → ℕ → Bool
known o zone = ltb zone o.zones.count

-- what passes is among what was tested
pub kept_known : (o : Opened) (P : ℕ → Bool) (l : List ℕ) → every (known o) l ≡ true → every (known o) (all_that P l) ≡ true
unfolding all_that
kept_known o P [] h = refl
kept_known o P (z ∷ l) h = either (P z) (kept_known o P l (and_r (known o z) (every (known o) l) h))
  where
    either : (b : Bool) → every (known o) (all_that P l) ≡ true → every (known o) (cond b (z ∷ all_that P l) (all_that P l)) ≡ true
    either true k = and_i (known o z) (every (known o) (all_that P l)) (and_l (known o z) (every (known o) l) h) k
    either false k = k

-- a candidate answered unlooked-at is alone
one_alone : (o : Opened) (n : ℕ) (lng lat : Float) → unlooked o n lng lat ≡ true → n ≡ 1
unfolding unlooked
one_alone o n lng lat e = same_eq n 1 (and_l (same n 1) _ e)

module _ (o : Opened) (s : List ℕ) where
  -- at a place that a cell lists, counted from the start of the list
  listed_at : (n place : ℕ) → AllZones o s (listed n place) → (j : ℕ) → place ≤ j → j < place + n → ListedZone o s j
  listed_at n place z j l m =
      let e : place + (j - place) ≡ j = omega arith in
      subst (ListedZone o s) e (z (j - place) (omega arith))

  listed_is : (place : ℕ) (z : ListedZone o s place) → zone_listed o s place ≡ z.zone
  unfolding zone_listed
  listed_is place z = rw (← z.given)

  listed_given : (place : ℕ) → ListedZone o s place → candidate_at o s place ≡ ok (zone_listed o s place)
  listed_given place z = sym z.given ∙ ap ok (sym (listed_is place z))

  listed_known : (place : ℕ) → ListedZone o s place → zone_listed o s place < o.zones.count
  listed_known place z = omega (arith, z.known, listed_is place z)

  -- ---- the candidates are zones of the file
  pub candidates_known : (c : Chosen) → AllZones o s c → every (known o) (candidate_zones o s c) ≡ true
  unfolding candidate_zones
  candidates_known none z = refl
  candidates_known (all n) z = run_every (known o) (λ zone. zone) n 0 (λ j l m. lt-ltb j o.zones.count (omega (arith, z)))
  candidates_known (listed n place) z = run_every (known o) (zone_listed o s) n place (λ j l m. lt-ltb (zone_listed o s j) o.zones.count (listed_known j (listed_at n place z j l m)))

  -- ---- and each is tested: for a test that the zones' answers are
  module _ (p : Point) (P : ℕ → Bool) (answers : (zone : ℕ) → zone < o.zones.count → zone_of o s p zone ≡ ok (P zone)) where
    hit_all : (place : ℕ) → place < o.zones.count → hit_at plain o s p false place ≡ ok (hit_of P place)
    unfolding hit_at candidate_of
    hit_all place h = rw (answers place h)

    hit_listed : (place : ℕ) → ListedZone o s place → hit_at plain o s p true place ≡ ok (hit_of P (zone_listed o s place))
    unfolding hit_at candidate_of
    hit_listed place z = rw (listed_given place z, answers (zone_listed o s place) (listed_known place z))

    -- all that contain the point
    pub hits_among_law : (c : Chosen) → AllZones o s c → hits_among plain o s p c ≡ ok (all_that P (candidate_zones o s c))
    unfolding hits_among candidate_zones all_that
    hits_among_law none z = refl
    hits_among_law (all n) z = all_that_law (hit_at plain o s p false) P (λ zone. zone) n 0 (λ j l m. hit_all j (omega (arith, z)))
    hits_among_law (listed n place) z = all_that_law (hit_at plain o s p true) P (zone_listed o s) n place (λ j l m. hit_listed j (listed_at n place z j l m))

  module _ (lng lat : Float) (P : ℕ → Bool) (answers : (zone : ℕ) → zone < o.zones.count → zone_of o s (scaled lng lat) zone ≡ ok (P zone)) where
    -- the first that does, where the shortcut does not apply
    pub first_among : (c : Chosen) → AllZones o s c → shortcut o lng lat c ≡ false → lookup_among plain o s lng lat c ≡ ok (first_that P (candidate_zones o s c))
    unfolding lookup_among candidate_zones first_that shortcut
    first_among none z e = refl
    first_among (all n) z e = first_that_law (hit_at plain o s (scaled lng lat) false) P (λ zone. zone) n 0 (λ j l m. hit_all (scaled lng lat) P answers j (omega (arith, z)))
    first_among (listed n place) z e = rw e (first_that_law (hit_at plain o s (scaled lng lat) true) P (zone_listed o s) n place (λ j l m. hit_listed (scaled lng lat) P answers j (listed_at n place z j l m)))

  -- where it does, the one candidate
  pub short_among : (lng lat : Float) (n place : ℕ) → AllZones o s (listed n place) → unlooked o n lng lat ≡ true → lookup_among plain o s lng lat (listed n place) ≡ ok (in_zone (zone_listed o s place))
  unfolding lookup_among
  short_among lng lat n place z e = rw (e, listed_given place (listed_at n place z place (omega arith) (omega (arith, one_alone o n lng lat e))))

  -- ---- names of zones of the file are all read
  pub names_read_law : ((zone : ℕ) → zone < o.zones.count → NameGiven o s zone) → (l : List ℕ) → every (known o) l ≡ true → names_read o s l ≡ fine
  unfolding names_read and_then
  names_read_law f [] h = refl
  names_read_law f (zone ∷ l) h =
      let e = (f zone (ltb-true zone o.zones.count (and_l (known o zone) (every (known o) l) h))).given in
      rw (← e) (names_read_law f l (and_r (known o zone) (every (known o) l) h))
