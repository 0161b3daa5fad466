-- A call of an export, as plain lists and numbers: what is lent and handed over, the answer, and lent memory at exit.
-- `TzbOpen file memory r after` says: the contract of `tzb_open` allows the answer r where that file and that memory are lent, and `after` as what the memory then holds. The contract is the export's own, as the prover hands it to a caller (`Learnt`): nothing is added and nothing left out. So what holds of every `TzbOpen` holds of every call of `tzb_open`; and every contract determines its answer (tzb_c/proofs/Determined).
-- What is lent as `&` nobody can write to: it is at exit what it was.
-- `held` is the opened record as it is kept in memory: 84 bytes, of whatever origin.
-- Assumes nothing.
use Rattle.std.specs.Prelude.{ℕ, ◌≡◌, List, ℤ, Float}
use Rattle.tzb_c.proofs.tzb_open.Reads as opens
use Rattle.tzb_c.proofs.tzb_full_check.Reads as full_check
use Rattle.tzb_c.proofs.tzb_full_check_rule.Reads as full_check_rule
use Rattle.tzb_c.proofs.tzb_zone_count.Reads as zone_count
use Rattle.tzb_c.proofs.tzb_contains.Reads as contains
use Rattle.tzb_c.proofs.tzb_lookup.Reads as lookup
use Rattle.tzb_c.proofs.tzb_ask.Reads as ask
use Rattle.tzb_c.proofs.tzb_ask_all.Reads as ask_all
use Rattle.tzb_c.proofs.tzb_stripes_need.Reads as stripes_need_law
use Rattle.tzb_c.proofs.tzb_stripes.Reads as stripes
use Rattle.tzb_c.proofs.tzb_contains_striped.Reads as contains_striped
use Rattle.tzb_c.proofs.tzb_ask_striped.Reads as ask_striped
use Rattle.tzb_c.proofs.tzb_ask_all_striped.Reads as ask_all_striped
use Rattle.tzb_c.proofs.tzb_decode.Reads as decode
use Rattle.tzb_c.proofs.tzb_contains_place.Reads as contains_place
use Rattle.tzb_c.proofs.tzb_lookup_place.Reads as lookup_place
use Rattle.tzb_c.proofs.tzb_ask_place.Reads as ask_place
use Rattle.tzb_c.proofs.tzb_ask_all_place.Reads as ask_all_place
use Rattle.tzb_c.proofs.tzb_decode_place.Reads as decode_place
use Rattle.tzb_c.proofs.tzb_contains_striped_place.Reads as contains_striped_place
use Rattle.tzb_c.proofs.tzb_ask_striped_place.Reads as ask_striped_place
use Rattle.tzb_c.proofs.tzb_ask_all_striped_place.Reads as ask_all_striped_place
use Rattle.tzb_c.proofs.tzb_name.Reads as name
use Rattle.tzb_c.proofs.tzb_name_start.Reads as name_start
use Rattle.tzb_c.proofs.tzb_name_end.Reads as name_end
use Rattle.tzb_c.proofs.tzb_choice.Reads as choice
use Rattle.tzb_c.proofs.tzb_candidate.Reads as candidate
use Rattle.tzb_c.proofs.tzb_map.Reads as map
use Rattle.tzb_c.proofs.tzb_map_length.Reads as map_length
use Rattle.tzb_c.proofs.tzb_journal_ask.Reads as journal_ask
use Rattle.tzb_c.proofs.tzb_journal_write.Reads as journal_write
use Rattle.tzb_c.proofs.tzb_journal_read.Reads as journal_read_law

-- a call that a contract allows: of some lifetimes κ, arguments a, answer r, and what was lent as it is at exit, e. `seen` says which lists and numbers these are
pub record Call (W : Type 0) {K : Type 0} {A R E : K → Type 0} (promise : (κ : K) → A κ → R κ → E κ → Type 0) (seen : (κ : K) → A κ → R κ → E κ → W) (w : W) : Type 0 where
  pub κ : K
  pub a : A κ
  pub r : R κ
  pub e : E κ
  pub allowed : promise κ a r e
  pub is : seen κ a r e ≡ w

-- tzb_open(file, memory) answers r, and leaves the memory so
abbrev pub TzbOpen : (file memory : List ℕ) (r : ℤ) (after : List ℕ) → Type 0
TzbOpen file memory r after =
    Call (List ℕ × List ℕ × ℤ × List ℕ) opens.Learnt (λ κ a r e. (a.0.now, a.1.0.now, r, e.1.0.now)) (file, memory, r, after)

-- tzb_full_check(file) answers r
abbrev pub TzbFullCheck : (file : List ℕ) (r : ℤ) → Type 0
TzbFullCheck file r = Call (List ℕ × ℤ) full_check.Learnt (λ κ a r e. (a.0.now, r)) (file, r)

-- tzb_full_check_rule(file) answers r
abbrev pub TzbFullCheckRule : (file : List ℕ) (r : ℕ) → Type 0
TzbFullCheckRule file r = Call (List ℕ × ℕ) full_check_rule.Learnt (λ κ a r e. (a.0.now, r)) (file, r)

-- tzb_zone_count(held) answers r
abbrev pub TzbZoneCount : (held : List ℕ) (r : ℤ) → Type 0
TzbZoneCount held r = Call (List ℕ × ℤ) zone_count.Learnt (λ κ a r e. (a.0.now, r)) (held, r)

-- tzb_contains(held, file, zone, x, y) answers r
abbrev pub TzbContains : (held file : List ℕ) (zone : ℕ) (x y : ℤ) (r : ℤ) → Type 0
TzbContains held file zone x y r =
    Call (List ℕ × List ℕ × ℕ × ℤ × ℤ × ℤ) contains.Learnt (λ κ a r e. (a.0.now, a.1.0.now, a.1.1.0, a.1.1.1.0, a.1.1.1.1.0, r)) (held, file, zone, x, y, r)

-- tzb_lookup(file, lng, lat) answers r
abbrev pub TzbLookup : (file : List ℕ) (lng lat : Float) (r : ℤ) → Type 0
TzbLookup file lng lat r = Call (List ℕ × Float × Float × ℤ) lookup.Learnt (λ κ a r e. (a.0.now, a.1.0, a.1.1.0, r)) (file, lng, lat, r)

-- tzb_ask(held, file, lng, lat) answers r
abbrev pub TzbAsk : (held file : List ℕ) (lng lat : Float) (r : ℤ) → Type 0
TzbAsk held file lng lat r =
    Call (List ℕ × List ℕ × Float × Float × ℤ) ask.Learnt (λ κ a r e. (a.0.now, a.1.0.now, a.1.1.0, a.1.1.1.0, r)) (held, file, lng, lat, r)

-- tzb_ask_all(held, file, lng, lat, places) answers r, and leaves the places so
abbrev pub TzbAskAll : (held file : List ℕ) (lng lat : Float) (places : List ℕ) (r : ℤ) (after : List ℕ) → Type 0
TzbAskAll held file lng lat places r after =
    Call (List ℕ × List ℕ × Float × Float × List ℕ × ℤ × List ℕ) ask_all.Learnt
    (λ κ a r e. (a.0.now, a.1.0.now, a.1.1.0, a.1.1.1.0, a.1.1.1.1.0.now, r, e.1.1.1.1.0.now))
    (held, file, lng, lat, places, r, after)

-- tzb_stripes_need(held, file) answers r
abbrev pub TzbStripesNeed : (held file : List ℕ) (r : ℤ) → Type 0
TzbStripesNeed held file r = Call (List ℕ × List ℕ × ℤ) stripes_need_law.Learnt (λ κ a r e. (a.0.now, a.1.0.now, r)) (held, file, r)

-- tzb_stripes(held, file, lent) answers r, and leaves the lent numbers so
abbrev pub TzbStripes : (held file lent : List ℕ) (r : ℤ) (after : List ℕ) → Type 0
TzbStripes held file lent r after =
    Call (List ℕ × List ℕ × List ℕ × ℤ × List ℕ) stripes.Learnt (λ κ a r e. (a.0.now, a.1.0.now, a.1.1.0.now, r, e.1.1.0.now)) (held, file, lent, r, after)

-- tzb_contains_striped(held, numbers, file, zone, x, y) answers r
abbrev pub TzbContainsStriped : (held numbers file : List ℕ) (zone : ℕ) (x y : ℤ) (r : ℤ) → Type 0
TzbContainsStriped held numbers file zone x y r =
    Call (List ℕ × List ℕ × List ℕ × ℕ × ℤ × ℤ × ℤ) contains_striped.Learnt
    (λ κ a r e. (a.0.now, a.1.0.now, a.1.1.0.now, a.1.1.1.0, a.1.1.1.1.0, a.1.1.1.1.1.0, r))
    (held, numbers, file, zone, x, y, r)

-- tzb_ask_striped(held, numbers, file, lng, lat) answers r
abbrev pub TzbAskStriped : (held numbers file : List ℕ) (lng lat : Float) (r : ℤ) → Type 0
TzbAskStriped held numbers file lng lat r =
    Call (List ℕ × List ℕ × List ℕ × Float × Float × ℤ) ask_striped.Learnt
    (λ κ a r e. (a.0.now, a.1.0.now, a.1.1.0.now, a.1.1.1.0, a.1.1.1.1.0, r))
    (held, numbers, file, lng, lat, r)

-- tzb_ask_all_striped(held, numbers, file, lng, lat, places) answers r, and leaves the places so
abbrev pub TzbAskAllStriped : (held numbers file : List ℕ) (lng lat : Float) (places : List ℕ) (r : ℤ) (after : List ℕ) → Type 0
TzbAskAllStriped held numbers file lng lat places r after =
    Call (List ℕ × List ℕ × List ℕ × Float × Float × List ℕ × ℤ × List ℕ) ask_all_striped.Learnt
    (λ κ a r e. (a.0.now, a.1.0.now, a.1.1.0.now, a.1.1.1.0, a.1.1.1.1.0, a.1.1.1.1.1.0.now, r, e.1.1.1.1.1.0.now))
    (held, numbers, file, lng, lat, places, r, after)

-- tzb_decode(held, file, chunk, numbers) answers r, and leaves the numbers so
abbrev pub TzbDecode : (held file : List ℕ) (chunk : ℕ) (numbers : List ℤ) (r : ℤ) (after : List ℤ) → Type 0
TzbDecode held file chunk numbers r after =
    Call (List ℕ × List ℕ × ℕ × List ℤ × ℤ × List ℤ) decode.Learnt
    (λ κ a r e. (a.0.now, a.1.0.now, a.1.1.0, a.1.1.1.0.now, r, e.1.1.1.0.now))
    (held, file, chunk, numbers, r, after)

-- tzb_name(held, file, zone, ends) answers r, and leaves the ends so
abbrev pub TzbName : (held file : List ℕ) (zone : ℕ) (ends : List ℕ) (r : ℤ) (after : List ℕ) → Type 0
TzbName held file zone ends r after =
    Call (List ℕ × List ℕ × ℕ × List ℕ × ℤ × List ℕ) name.Learnt
    (λ κ a r e. (a.0.now, a.1.0.now, a.1.1.0, a.1.1.1.0.now, r, e.1.1.1.0.now))
    (held, file, zone, ends, r, after)

-- tzb_name_start(held, file, zone) answers r
abbrev pub TzbNameStart : (held file : List ℕ) (zone : ℕ) (r : ℤ) → Type 0
TzbNameStart held file zone r = Call (List ℕ × List ℕ × ℕ × ℤ) name_start.Learnt (λ κ a r e. (a.0.now, a.1.0.now, a.1.1.0, r)) (held, file, zone, r)

-- tzb_name_end(held, file, zone) answers r
abbrev pub TzbNameEnd : (held file : List ℕ) (zone : ℕ) (r : ℤ) → Type 0
TzbNameEnd held file zone r = Call (List ℕ × List ℕ × ℕ × ℤ) name_end.Learnt (λ κ a r e. (a.0.now, a.1.0.now, a.1.1.0, r)) (held, file, zone, r)

-- tzb_choice(held, file, lng, lat) answers r
abbrev pub TzbChoice : (held file : List ℕ) (lng lat : Float) (r : ℤ) → Type 0
TzbChoice held file lng lat r =
    Call (List ℕ × List ℕ × Float × Float × ℤ) choice.Learnt (λ κ a r e. (a.0.now, a.1.0.now, a.1.1.0, a.1.1.1.0, r)) (held, file, lng, lat, r)

-- tzb_candidate(held, file, place) answers r
abbrev pub TzbCandidate : (held file : List ℕ) (place : ℕ) (r : ℤ) → Type 0
TzbCandidate held file place r = Call (List ℕ × List ℕ × ℕ × ℤ) candidate.Learnt (λ κ a r e. (a.0.now, a.1.0.now, a.1.1.0, r)) (held, file, place, r)

-- tzb_map(file, zone, memory) answers r, and leaves the memory so
abbrev pub TzbMap : (file : List ℕ) (zone : ℕ) (memory : List ℕ) (r : ℤ) (after : List ℕ) → Type 0
TzbMap file zone memory r after =
    Call (List ℕ × ℕ × List ℕ × ℤ × List ℕ) map.Learnt (λ κ a r e. (a.0.now, a.1.0, a.1.1.0.now, r, e.1.1.0.now)) (file, zone, memory, r, after)

-- tzb_map_length(file, zone) answers r
abbrev pub TzbMapLength : (file : List ℕ) (zone : ℕ) (r : ℤ) → Type 0
TzbMapLength file zone r = Call (List ℕ × ℕ × ℤ) map_length.Learnt (λ κ a r e. (a.0.now, a.1.0, r)) (file, zone, r)

-- tzb_journal_ask(held, file, places, x, y, memory) answers r, and leaves the memory so
abbrev pub TzbJournalAsk : (held file : List ℕ) (places : ℕ) (x y : ℤ) (memory : List ℕ) (r : ℤ) (after : List ℕ) → Type 0
TzbJournalAsk held file places x y memory r after =
    Call (List ℕ × List ℕ × ℕ × ℤ × ℤ × List ℕ × ℤ × List ℕ) journal_ask.Learnt
    (λ κ a r e. (a.0.now, a.1.0.now, a.1.1.0, a.1.1.1.0, a.1.1.1.1.0, a.1.1.1.1.1.0.now, r, e.1.1.1.1.1.0.now))
    (held, file, places, x, y, memory, r, after)

-- tzb_journal_write(places, x, y, zones, reason, memory) answers r, and leaves the memory so
abbrev pub TzbJournalWrite : (places : ℕ) (x y : ℤ) (zones : List ℕ) (reason : ℕ) (memory : List ℕ) (r : ℤ) (after : List ℕ) → Type 0
TzbJournalWrite places x y zones reason memory r after =
    Call (ℕ × ℤ × ℤ × List ℕ × ℕ × List ℕ × ℤ × List ℕ) journal_write.Learnt
    (λ κ a r e. (a.0, a.1.0, a.1.1.0, a.1.1.1.0.now, a.1.1.1.1.0, a.1.1.1.1.1.0.now, r, e.1.1.1.1.1.0.now))
    (places, x, y, zones, reason, memory, r, after)

-- tzb_journal_read(places, bytes, position, zones) answers r, and leaves the position and the zones so
abbrev pub TzbJournalRead : (places : ℕ) (bytes : List ℕ) (position : List ℤ) (zones : List ℕ) (r : ℤ) (position' : List ℤ) (zones' : List ℕ) → Type 0
TzbJournalRead places bytes position zones r position' zones' =
    Call (ℕ × List ℕ × List ℤ × List ℕ × ℤ × List ℤ × List ℕ) journal_read_law.Learnt
    (λ κ a r e. (a.0, a.1.0.now, a.1.1.0.now, a.1.1.1.0.now, r, e.1.1.0.now, e.1.1.1.0.now))
    (places, bytes, position, zones, r, position', zones')

-- ---- the second exports, with the arguments of the first, which return the place
abbrev pub TzbLookupPlace : (file : List ℕ) (lng lat : Float) (place : ℤ) → Type 0
TzbLookupPlace file lng lat place = Call (List ℕ × Float × Float × ℤ) lookup_place.Learnt (λ κ a r e. (a.0.now, a.1.0, a.1.1.0, r)) (file, lng, lat, place)

abbrev pub TzbAskPlace : (held file : List ℕ) (lng lat : Float) (place : ℤ) → Type 0
TzbAskPlace held file lng lat place =
    Call (List ℕ × List ℕ × Float × Float × ℤ) ask_place.Learnt (λ κ a r e. (a.0.now, a.1.0.now, a.1.1.0, a.1.1.1.0, r)) (held, file, lng, lat, place)

abbrev pub TzbAskAllPlace : (held file : List ℕ) (lng lat : Float) (places : List ℕ) (place : ℤ) → Type 0
TzbAskAllPlace held file lng lat places place =
    Call (List ℕ × List ℕ × Float × Float × List ℕ × ℤ) ask_all_place.Learnt
    (λ κ a r e. (a.0.now, a.1.0.now, a.1.1.0, a.1.1.1.0, a.1.1.1.1.0.now, r))
    (held, file, lng, lat, places, place)

abbrev pub TzbContainsPlace : (held file : List ℕ) (zone : ℕ) (x y : ℤ) (place : ℤ) → Type 0
TzbContainsPlace held file zone x y place =
    Call (List ℕ × List ℕ × ℕ × ℤ × ℤ × ℤ) contains_place.Learnt (λ κ a r e. (a.0.now, a.1.0.now, a.1.1.0, a.1.1.1.0, a.1.1.1.1.0, r)) (held, file, zone, x, y, place)

abbrev pub TzbDecodePlace : (held file : List ℕ) (chunk : ℕ) (numbers : List ℤ) (place : ℤ) → Type 0
TzbDecodePlace held file chunk numbers place =
    Call (List ℕ × List ℕ × ℕ × List ℤ × ℤ) decode_place.Learnt (λ κ a r e. (a.0.now, a.1.0.now, a.1.1.0, a.1.1.1.0.now, r)) (held, file, chunk, numbers, place)

abbrev pub TzbContainsStripedPlace : (held numbers file : List ℕ) (zone : ℕ) (x y : ℤ) (place : ℤ) → Type 0
TzbContainsStripedPlace held numbers file zone x y place =
    Call (List ℕ × List ℕ × List ℕ × ℕ × ℤ × ℤ × ℤ) contains_striped_place.Learnt
    (λ κ a r e. (a.0.now, a.1.0.now, a.1.1.0.now, a.1.1.1.0, a.1.1.1.1.0, a.1.1.1.1.1.0, r))
    (held, numbers, file, zone, x, y, place)

abbrev pub TzbAskStripedPlace : (held numbers file : List ℕ) (lng lat : Float) (place : ℤ) → Type 0
TzbAskStripedPlace held numbers file lng lat place =
    Call (List ℕ × List ℕ × List ℕ × Float × Float × ℤ) ask_striped_place.Learnt
    (λ κ a r e. (a.0.now, a.1.0.now, a.1.1.0.now, a.1.1.1.0, a.1.1.1.1.0, r))
    (held, numbers, file, lng, lat, place)

abbrev pub TzbAskAllStripedPlace : (held numbers file : List ℕ) (lng lat : Float) (places : List ℕ) (place : ℤ) → Type 0
TzbAskAllStripedPlace held numbers file lng lat places place =
    Call (List ℕ × List ℕ × List ℕ × Float × Float × List ℕ × ℤ) ask_all_striped_place.Learnt
    (λ κ a r e. (a.0.now, a.1.0.now, a.1.1.0.now, a.1.1.1.0, a.1.1.1.1.0, a.1.1.1.1.1.0.now, r))
    (held, numbers, file, lng, lat, places, place)
