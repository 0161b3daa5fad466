-- Of a file that the full check accepts no question with a valid zone or chunk number is refused (46 but where room is short).
-- Assumes nothing.
use Prim.Native.Nat.{ℕ, ◌+◌, ◌*◌, ◌≤◌, ◌<◌}
use mathlib.Core.Path.{◌≡◌, refl, sym, ap, ◌∙◌, subst}
use mathlib.Core.Bool.{Bool, true, false}
use mathlib.Core.List.{List}
use borrow.Author.Tests.{le-leb}
use lib.IntN.{ℤ}
use lib.Dec.{leb}
use lib.Ieee.{Float}
use lib.ListN.{length}
use Rattle.answer.specs.Answers.{Answer, ok, Given}
use Rattle.answer.proofs.CheckLaws.{le_at}
use Rattle.answer.specs.Checks.{at_most}
use Rattle.shapes.specs.Walk.{float_tests, zone_walk}
use Rattle.shapes.specs.Layout as Layout
use Rattle.opened.specs.declared.Opened.{Opened}
use Rattle.reader_cells.specs.Asked.{candidates_of, candidate_at}
use Rattle.reader_named.specs.Asked.{name_or}
use Rattle.reader_cells.proofs.Accepted.{AllZones}
use Rattle.reader_records.specs.declared.ChunkRecord.{ChunkRecord}
use Rattle.reader_records.specs.Records.{chunk_at}
use Rattle.reader_dirs.specs.Dirs.{chunk_of}
use Rattle.reader_chunks.specs.Chunks.{chunk_points, decode_in}
use Rattle.reader_ways.specs.Ways.{plain}
use Rattle.reader_zones.specs.Zones.{zone_of}
use Rattle.reader_order.specs.Order.{ordered}
use Rattle.reader_lookup.specs.Asking.{scaled, unlooked, lookup_of}
use Rattle.directories.specs.Directories.{directories}
use Rattle.reader_exact.specs.Sound.{Sound}
use Rattle.directories.proofs.Held.{first_given}
use Rattle.reader_exact.proofs.Zones.{zone_walk_law}
use Rattle.tzb.specs.Opening.{open_of}
use Rattle.tzb.specs.FullCheck.{full_check_of}
use Rattle.tzb.proofs.Given.{name_answered, candidates_answered, chunk_answered}
use Rattle.tzb.proofs.GivenChunks.{room_by_bytes}
use Rattle.demands.specs.Lookups.{candidate_zones, all_that, shortcut}
use Rattle.demands.specs.NeverRefused.{NeverRefused}
use Rattle.demands.proofs.Accepted.{accepted_with}
use Rattle.demands.proofs.Rules.{accepted_sound, chunk_there}
use Rattle.demands.proofs.Demand3.{contains_is}
use Rattle.demands.proofs.Lookups.{first_zone, all_zones, zones_into, lookup_short}
use Rattle.replies.specs.Replies.{Chosen, none, all, listed, accepted}
use Rattle.answer.proofs.AnswersLaws.{need_met, ok_inv}
use Rattle.reader_listing.specs.All.{hits_of, list_of}

gives : {A : Type 0} (x : Answer A) (a : A) → x ≡ ok a → Given x
gives x a e = record { value = a; is = sym e }

module _ (file : List ℕ) (accepts : full_check_of file ≡ accepted) (o : Opened) (opened : ok o ≡ open_of file) where
  k : Sound o file
  k = accepted_sound file o (accepted_with file accepts o opened)

  -- ---- points into lent room
  decodes : (i : ℕ) → i < o.chunks.count → (v : ChunkRecord) → ok v ≡ chunk_at o file i → (out : List ℤ) → 2 * v.count ≤ length out → Given (decode_in o file i out)
  decodes i h v e out room =
      let is : v ≡ chunk_of file o.chunks i = ok_inv v (chunk_of file o.chunks i) (e ∙ sym (chunk_answered file o opened i h)) in
      let fits : leb (2 * (chunk_of file o.chunks i).count) (length out) ≡ true = ap (λ (w : ChunkRecord). leb (2 * w.count) (length out)) (sym is) ∙ le-leb (2 * v.count) (length out) room in
      let p = k.chunk_given i h in
      record { value = p.value; is = p.is ∙ need_met 46 _ (chunk_points o file i) fits ∙ room_by_bytes file o opened i h out }

  -- ---- lookups at any floats: each zone answers by the walk over its shape
  module _ (lng lat : Float) (c : Chosen) (chosen : ok c ≡ candidates_of o file lng lat) where
    abbrev walked : ℕ → Bool
    walked zone = zone_walk (float_tests (scaled lng lat)) (Layout.zone_at (directories o file) zone)

    answers : (zone : ℕ) → zone < o.zones.count → zone_of o file (scaled lng lat) zone ≡ ok (walked zone)
    answers = zone_walk_law o file k (scaled lng lat)

    looked : shortcut o lng lat c ≡ false → Given (lookup_of o file lng lat)
    looked e = gives (lookup_of o file lng lat) _ (first_zone file o opened lng lat c chosen walked answers e)

    hits : hits_of plain o file lng lat ≡ ok (all_that walked (candidate_zones o file c))
    hits = all_zones file o opened lng lat c chosen walked answers

    into_room_law : (l : List ℕ) → ok l ≡ hits_of plain o file lng lat → (places : ℕ) → length l ≤ places → Given (list_of o file lng lat places)
    into_room_law l e places h =
        let is : l ≡ all_that walked (candidate_zones o file c) = ok_inv l (all_that walked (candidate_zones o file c)) (e ∙ hits) in
        let fits : at_most (length (all_that walked (candidate_zones o file c))) places ≡ true = ap (λ (m : List ℕ). at_most (length m) places) (sym is) ∙ le_at (length l) places h in
        gives (list_of o file lng lat places) _ (zones_into file o opened lng lat c chosen walked answers places ∙ sym (need_met 46 _ (ok (ordered (name_or o file) (all_that walked (candidate_zones o file c)))) fits))

  looks : (lng lat : Float) (c : Chosen) → ok c ≡ candidates_of o file lng lat → Given (lookup_of o file lng lat)
  unfolding shortcut
  looks lng lat none e = looked lng lat none e refl
  looks lng lat (all n) e = looked lng lat (all n) e refl
  looks lng lat (listed n place) e = either (unlooked o n lng lat) refl
    where
      either : (b : Bool) → unlooked o n lng lat ≡ b → Given (lookup_of o file lng lat)
      either true u = gives (lookup_of o file lng lat) _ (lookup_short file accepts o opened lng lat (listed n place) e n place refl u)
      either false u = looked lng lat (listed n place) e u

  -- ---- each candidate that is listed
  candidate_given : (lng lat : Float) (n place : ℕ) → ok (listed n place) ≡ candidates_of o file lng lat → (j : ℕ) → j < n → Given (candidate_at o file (place + j))
  candidate_given lng lat n place e j h =
      let g = candidates_answered file o opened lng lat in
      let z : AllZones o file (listed n place) = subst (AllZones o file) (ok_inv g.chosen (listed n place) (g.given ∙ sym e)) g.zones in
      let t = z j h in
      record { value = t.zone; is = t.given }

  pub never_refused : NeverRefused file o
  never_refused =
      record {
        zone = k.zone_given;
        polygon = k.poly_given;
        ring = k.ring_given;
        op = k.op_given;
        group = k.group_given;
        chunk = λ i h. record { value = chunk_of file o.chunks i; is = chunk_answered file o opened i h };
        name = λ i h. let n = name_answered file o opened i h in record { value = n.name; is = n.given };
        candidates = λ lng lat. let g = candidates_answered file o opened lng lat in record { value = g.chosen; is = g.given };
        candidate = candidate_given;
        first = λ i h. record { value = _; is = first_given o file i (chunk_there file o (accepted_with file accepts o opened) i h) };
        points = k.chunk_given;
        decoding = decodes;
        walk = λ i h p. gives (zone_of o file p i) _ (zone_walk_law o file k p i h);
        contains = λ i h q. gives _ _ (contains_is file accepts o opened i h q);
        lookup = λ lng lat. let g = candidates_answered file o opened lng lat in looks lng lat g.chosen g.given;
        zones = λ lng lat. let g = candidates_answered file o opened lng lat in gives (hits_of plain o file lng lat) _ (hits lng lat g.chosen g.given);
        into = λ lng lat. let g = candidates_answered file o opened lng lat in into_room_law lng lat g.chosen g.given;
      }
