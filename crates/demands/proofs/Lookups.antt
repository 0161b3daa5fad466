-- Lookups on a file that the full check accepts (specs/Lookups, which says what holds and what does not).
-- Assumes nothing.
use Prim.Native.Nat.{ℕ, ◌<◌}
use mathlib.Core.Path.{◌≡◌, refl, sym, ap, ◌∙◌, subst}
use mathlib.Core.Bool.{Bool, true, false}
use mathlib.Core.List.{List}
use lib.IntN.{pos}
use lib.Ieee.{Float, binary64, of_bits, of_int, lt, mul}
use lib.ListN.{length}
use Rattle.plane.specs.declared.Point.{Point}
use Rattle.answer.specs.Answers.{ok, need}
use Rattle.answer.specs.Checks.{at_most}
use Rattle.opened.specs.declared.Opened.{Opened}
use Rattle.reader_named.specs.Asked.{name_or}
use Rattle.reader_order.specs.Order.{ordered}
use Rattle.reader_cells.specs.Asked.{candidates_of}
use Rattle.reader_cells.proofs.Accepted.{AllZones}
use Rattle.reader_ways.specs.Ways.{plain}
use Rattle.reader_zones.specs.Zones.{zone_of}
use Rattle.reader_lookup.specs.Asking.{scaled, unlooked, lookup_by, lookup_of}
use Rattle.reader_exact.proofs.Exact.{walk_exact}
use Rattle.tzb.specs.Opening.{open_of}
use Rattle.tzb.specs.FullCheck.{full_check_of}
use Rattle.tzb.proofs.Given.{name_answered, candidates_answered}
use Rattle.demands.specs.Words.{Position}
use Rattle.demands.specs.Lookups.{exactly_in, zone_listed, candidate_zones, first_that, all_that, shortcut, LookupsExact}
use Rattle.demands.proofs.Accepted.{accepted_with}
use Rattle.demands.proofs.Rules.{accepted_sound, accepted_covered}
use Rattle.demands.proofs.Words.{position_in}
use Rattle.demands.proofs.Hits.{candidates_known, kept_known, hits_among_law, first_among, short_among, names_read_law}
use Rattle.plane.specs.Places.{point_of}
use Rattle.replies.specs.Replies.{Chosen, listed, in_zone, accepted}
use Rattle.answer.proofs.AnswersLaws.{ok_inv}
use Rattle.reader_listing.specs.All.{hits_of, placed, list_for, list_by, list_of}

-- ---- for any test that the zones' answers are
module _ (file : List ℕ) (o : Opened) (opened : ok o ≡ open_of file) (lng lat : Float) (c : Chosen) (chosen : ok c ≡ candidates_of o file lng lat) where
  -- the candidates are zones of the file
  their_zones : AllZones o file c
  their_zones =
      let g = candidates_answered file o opened lng lat in
      subst (AllZones o file) (ok_inv g.chosen c (g.given ∙ sym chosen)) g.zones

  -- where the shortcut applies, the one candidate is the answer
  short : (n place : ℕ) → c ≡ listed n place → unlooked o n lng lat ≡ true → lookup_of o file lng lat ≡ ok (in_zone (zone_listed o file place))
  unfolding lookup_by
  short n place e u = rw (← chosen, e) (short_among o file lng lat n place (subst (AllZones o file) e their_zones) u)

  module _ (P : ℕ → Bool) (answers : (zone : ℕ) → zone < o.zones.count → zone_of o file (scaled lng lat) zone ≡ ok (P zone)) where
    pub first_zone : shortcut o lng lat c ≡ false → lookup_of o file lng lat ≡ ok (first_that P (candidate_zones o file c))
    unfolding lookup_by
    first_zone e = rw (← chosen) (first_among o file lng lat P answers c their_zones e)

    pub all_zones : hits_of plain o file lng lat ≡ ok (all_that P (candidate_zones o file c))
    unfolding hits_of
    all_zones = rw (← chosen) (hits_among_law o file (scaled lng lat) P answers c their_zones)

    -- all names are read
    pub zones_into : (places : ℕ) → list_of o file lng lat places ≡ need 46 (at_most (length (all_that P (candidate_zones o file c))) places) (ok (ordered (name_or o file) (all_that P (candidate_zones o file c))))
    unfolding list_by list_for placed
    zones_into places =
        let l = all_that P (candidate_zones o file c) in
        rw (all_zones, names_read_law o file (name_answered file o opened) l (kept_known o P (candidate_zones o file c) (candidates_known o file c their_zones)))

-- ---- of an accepted file, with its record, and the candidates of a position
module _ (file : List ℕ) (accepts : full_check_of file ≡ accepted) (o : Opened) (opened : ok o ≡ open_of file) (lng lat : Float) (c : Chosen) (chosen : ok c ≡ candidates_of o file lng lat) where
  -- the shortcut's answer is the one candidate
  pub lookup_short : (n place : ℕ) → c ≡ listed n place → unlooked o n lng lat ≡ true → lookup_of o file lng lat ≡ ok (in_zone (zone_listed o file place))
  lookup_short = short file o opened lng lat c chosen

  -- scaled to whole numbers
  module _ (p : Position) (whole : scaled lng lat ≡ point_of p.at) where
    answers_exactly : (zone : ℕ) → zone < o.zones.count → zone_of o file (scaled lng lat) zone ≡ ok (exactly_in o file p.at zone)
    answers_exactly zone h =
        let a = accepted_with file accepts o opened in
        ap (λ (x : Point). zone_of o file x zone) whole
        ∙ walk_exact o file (accepted_sound file o a) (accepted_covered file o a) zone h p.at (position_in p)

    pub lookups_exact : LookupsExact file o lng lat c p.at
    lookups_exact =
        record {
          lookup = first_zone file o opened lng lat c chosen (exactly_in o file p.at) answers_exactly;
          lookup_into = zones_into file o opened lng lat c chosen (exactly_in o file p.at) answers_exactly;
        }

-- ---- the scaling rounds
-- the float nearest to 0.00007 falls short of 7
pub seven : lt (scaled (of_bits binary64 0x3f12_599e_d7c6_fbd2) (of_int binary64 (pos 0))).x (of_int binary64 (pos 7)) ≡ true
unfolding scaled lt mul of_bits of_int
seven = refl

-- and a half is met
pub half : scaled (of_bits binary64 0x3fe0_0000_0000_0000) (of_bits binary64 0x3fe0_0000_0000_0000) ≡ point_of (record { x = pos 50_000; y = pos 50_000 })
unfolding scaled of_int mul of_bits
half = refl
