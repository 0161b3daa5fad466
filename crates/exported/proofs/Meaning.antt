-- What each contract says of a call, in plain lists and numbers.
-- Assumes nothing.
use Prim.Native.Nat.{ℕ}
use mathlib.Core.Path.{◌≡◌, subst}
use mathlib.Core.List.{List}
use lib.IntN.{ℤ}
use lib.Ieee.{Float}
use lib.ListN.{length}
use Rattle.tzb.specs.FullCheck.{full_check_of}
use Rattle.chunks.specs.Decode.{filled}
use Rattle.tzb_asked.specs.Asked.{zones_asked, name_asked, ends_asked, ends_after, choice_asked, candidate_asked, contains_asked, decode_asked, lookup_asked, list_asked, contains_asked_by, lookup_asked_by, list_asked_by, need_asked, stripes_asked}
use Rattle.reader_ways.specs.Ways.{striped}
use Rattle.tzb_codes.specs.Codes.{done_code, kind_code, inside_code, zone_code, check_code, rule_of, needed_code, drawn_code, number_code, start_code, end_code, place_of}
use Rattle.tzb_map.specs.Map.{map_of, map_in, how_long, as_answer}
use Rattle.tzb_c.specs.Opens.{open_into, lookup_once}
use Rattle.exported.specs.Calls.{Call, TzbOpen, TzbFullCheck, TzbFullCheckRule, TzbZoneCount, TzbContains, TzbLookup, TzbAsk, TzbAskAll, TzbDecode, TzbName, TzbNameStart, TzbNameEnd, TzbChoice, TzbCandidate, TzbMap, TzbMapLength, TzbStripesNeed, TzbStripes, TzbContainsStriped, TzbAskStriped, TzbAskAllStriped, TzbJournalAsk, TzbJournalWrite, TzbJournalRead, TzbContainsPlace, TzbLookupPlace, TzbAskPlace, TzbAskAllPlace, TzbDecodePlace, TzbContainsStripedPlace, TzbAskStripedPlace, TzbAskAllStripedPlace}
use Rattle.plane.specs.Places.{point}
use Rattle.answer.specs.Answers.{ok, ◌then◌, left, how_many}
use Rattle.entries.specs.Entry.{entry}
use Rattle.tzb_journal.specs.Journal.{journal_asked, journal_written, journal_read, position_of, count_and_reason}

-- what holds of all that a contract allows holds of a call
pub by_contract : {W K : Type 0} {A R E : K → Type 0} {promise : (κ : K) → A κ → R κ → E κ → Type 0} {seen : (κ : K) → A κ → R κ → E κ → W}
    → (P : W → Type 0) → ((κ : K) (a : A κ) (r : R κ) (e : E κ) → promise κ a r e → P (seen κ a r e)) → {w : W} → Call W promise seen w → P w
by_contract P h c = subst P c.is (h c.κ c.a c.r c.e c.allowed)

module _ {file : List ℕ} where
  module _ {memory after : List ℕ} {r : ℤ} where
    pub open_answer : TzbOpen file memory r after → r ≡ done_code (open_into file memory)
    open_answer c = by_contract (λ (v : List ℕ × List ℕ × ℤ × List ℕ). v.2 ≡ done_code (open_into v.0 v.1)) (λ κ a r e p. p.0) c

    pub open_memory : TzbOpen file memory r after → after ≡ left memory (open_into file memory)
    open_memory c = by_contract (λ (v : List ℕ × List ℕ × ℤ × List ℕ). v.3 ≡ left v.1 (open_into v.0 v.1)) (λ κ a r e p. p.1) c

  pub full_check_answer : {r : ℤ} → TzbFullCheck file r → r ≡ check_code (full_check_of file)
  full_check_answer c = by_contract (λ (v : List ℕ × ℤ). v.1 ≡ check_code (full_check_of v.0)) (λ κ a r e p. p) c

  pub rule_answer : {r : ℕ} → TzbFullCheckRule file r → r ≡ rule_of (full_check_of file)
  rule_answer c = by_contract (λ (v : List ℕ × ℕ). v.1 ≡ rule_of (full_check_of v.0)) (λ κ a r e p. p) c

  pub lookup_answer : {lng lat : Float} {r : ℤ} → TzbLookup file lng lat r → r ≡ zone_code (lookup_once file lng lat)
  lookup_answer c = by_contract (λ (v : List ℕ × Float × Float × ℤ). v.3 ≡ zone_code (lookup_once v.0 v.1 v.2)) (λ κ a r e p. p) c

  module _ {zone : ℕ} where
    module _ {memory after : List ℕ} {r : ℤ} where
      pub map_answer : TzbMap file zone memory r after → r ≡ drawn_code (how_long (map_in file zone (length memory)))
      map_answer c = by_contract (λ (v : List ℕ × ℕ × List ℕ × ℤ × List ℕ). v.3 ≡ drawn_code (how_long (map_in v.0 v.1 (length v.2)))) (λ κ a r e p. p.0) c

      pub map_memory : TzbMap file zone memory r after → after ≡ left memory (as_answer (map_in file zone (length memory)))
      map_memory c = by_contract (λ (v : List ℕ × ℕ × List ℕ × ℤ × List ℕ). v.4 ≡ left v.2 (as_answer (map_in v.0 v.1 (length v.2)))) (λ κ a r e p. p.1) c

    pub map_length_answer : {r : ℤ} → TzbMapLength file zone r → r ≡ drawn_code (how_long (map_of file zone))
    map_length_answer c = by_contract (λ (v : List ℕ × ℕ × ℤ). v.2 ≡ drawn_code (how_long (map_of v.0 v.1))) (λ κ a r e p. p) c

  module _ {held : List ℕ} where
    pub contains_answer : {zone : ℕ} {x y r : ℤ} → TzbContains held file zone x y r → r ≡ inside_code (contains_asked held file zone (point x y))
    contains_answer c = by_contract (λ (v : List ℕ × List ℕ × ℕ × ℤ × ℤ × ℤ). v.5 ≡ inside_code (contains_asked v.0 v.1 v.2 (point v.3 v.4))) (λ κ a r e p. p) c

    pub ask_answer : {lng lat : Float} {r : ℤ} → TzbAsk held file lng lat r → r ≡ zone_code (lookup_asked held file lng lat)
    ask_answer c = by_contract (λ (v : List ℕ × List ℕ × Float × Float × ℤ). v.4 ≡ zone_code (lookup_asked v.0 v.1 v.2 v.3)) (λ κ a r e p. p) c

    module _ {lng lat : Float} where
      pub choice_answer : {r : ℤ} → TzbChoice held file lng lat r → r ≡ kind_code (choice_asked held file lng lat)
      choice_answer c = by_contract (λ (v : List ℕ × List ℕ × Float × Float × ℤ). v.4 ≡ kind_code (choice_asked v.0 v.1 v.2 v.3)) (λ κ a r e p. p) c

      module _ {places after : List ℕ} {r : ℤ} where
        pub all_answer : TzbAskAll held file lng lat places r after → r ≡ number_code (how_many (list_asked held file lng lat (length places)))
        all_answer c =
            by_contract (λ (v : List ℕ × List ℕ × Float × Float × List ℕ × ℤ × List ℕ). v.5 ≡ number_code (how_many (list_asked v.0 v.1 v.2 v.3 (length v.4)))) (λ κ a r e p. p.0) c

        pub all_memory : TzbAskAll held file lng lat places r after → after ≡ left places (list_asked held file lng lat (length places))
        all_memory c =
            by_contract (λ (v : List ℕ × List ℕ × Float × Float × List ℕ × ℤ × List ℕ). v.6 ≡ left v.4 (list_asked v.0 v.1 v.2 v.3 (length v.4))) (λ κ a r e p. p.1) c

    -- stripes
    pub need_answer : {r : ℤ} → TzbStripesNeed held file r → r ≡ needed_code (need_asked held file)
    need_answer c = by_contract (λ (v : List ℕ × List ℕ × ℤ). v.2 ≡ needed_code (need_asked v.0 v.1)) (λ κ a r e p. p) c

    module _ {lent after : List ℕ} {r : ℤ} where
      pub stripes_answer : TzbStripes held file lent r after → r ≡ needed_code (how_many (stripes_asked held file (length lent)))
      stripes_answer c = by_contract (λ (v : List ℕ × List ℕ × List ℕ × ℤ × List ℕ). v.3 ≡ needed_code (how_many (stripes_asked v.0 v.1 (length v.2)))) (λ κ a r e p. p.0) c

      pub stripes_memory : TzbStripes held file lent r after → after ≡ left lent (stripes_asked held file (length lent))
      stripes_memory c = by_contract (λ (v : List ℕ × List ℕ × List ℕ × ℤ × List ℕ). v.4 ≡ left v.2 (stripes_asked v.0 v.1 (length v.2))) (λ κ a r e p. p.1) c

    -- questions by stripes
    module _ {numbers : List ℕ} where
      pub contains_striped_answer : {zone : ℕ} {x y r : ℤ} → TzbContainsStriped held numbers file zone x y r → r ≡ inside_code (contains_asked_by (striped numbers) held file zone (point x y))
      contains_striped_answer c =
          by_contract (λ (v : List ℕ × List ℕ × List ℕ × ℕ × ℤ × ℤ × ℤ). v.6 ≡ inside_code (contains_asked_by (striped v.1) v.0 v.2 v.3 (point v.4 v.5))) (λ κ a r e p. p) c

      module _ {lng lat : Float} where
        pub ask_striped_answer : {r : ℤ} → TzbAskStriped held numbers file lng lat r → r ≡ zone_code (lookup_asked_by (striped numbers) held file lng lat)
        ask_striped_answer c = by_contract (λ (v : List ℕ × List ℕ × List ℕ × Float × Float × ℤ). v.5 ≡ zone_code (lookup_asked_by (striped v.1) v.0 v.2 v.3 v.4)) (λ κ a r e p. p) c

        module _ {places after : List ℕ} {r : ℤ} where
          pub all_striped_answer : TzbAskAllStriped held numbers file lng lat places r after → r ≡ number_code (how_many (list_asked_by (striped numbers) held file lng lat (length places)))
          all_striped_answer c =
              by_contract
              (λ (v : List ℕ × List ℕ × List ℕ × Float × Float × List ℕ × ℤ × List ℕ). v.6 ≡ number_code (how_many (list_asked_by (striped v.1) v.0 v.2 v.3 v.4 (length v.5))))
              (λ κ a r e p. p.0)
              c

          pub all_striped_memory : TzbAskAllStriped held numbers file lng lat places r after → after ≡ left places (list_asked_by (striped numbers) held file lng lat (length places))
          all_striped_memory c =
              by_contract
              (λ (v : List ℕ × List ℕ × List ℕ × Float × Float × List ℕ × ℤ × List ℕ). v.7 ≡ left v.5 (list_asked_by (striped v.1) v.0 v.2 v.3 v.4 (length v.5)))
              (λ κ a r e p. p.1)
              c

    module _ {chunk : ℕ} {numbers after : List ℤ} {r : ℤ} where
      pub decode_answer : TzbDecode held file chunk numbers r after → r ≡ number_code (how_many (decode_asked held file chunk numbers))
      decode_answer c = by_contract (λ (v : List ℕ × List ℕ × ℕ × List ℤ × ℤ × List ℤ). v.4 ≡ number_code (how_many (decode_asked v.0 v.1 v.2 v.3))) (λ κ a r e p. p.0) c

      pub decode_memory : TzbDecode held file chunk numbers r after → after ≡ filled numbers (decode_asked held file chunk numbers)
      decode_memory c = by_contract (λ (v : List ℕ × List ℕ × ℕ × List ℤ × ℤ × List ℤ). v.5 ≡ filled v.3 (decode_asked v.0 v.1 v.2 v.3)) (λ κ a r e p. p.1) c

    module _ {zone : ℕ} where
      module _ {ends after : List ℕ} {r : ℤ} where
        pub name_answer : TzbName held file zone ends r after → r ≡ done_code (ends_asked held file zone (length ends))
        name_answer c = by_contract (λ (v : List ℕ × List ℕ × ℕ × List ℕ × ℤ × List ℕ). v.4 ≡ done_code (ends_asked v.0 v.1 v.2 (length v.3))) (λ κ a r e p. p.0) c

        pub name_memory : TzbName held file zone ends r after → after ≡ ends_after ends (ends_asked held file zone (length ends))
        name_memory c = by_contract (λ (v : List ℕ × List ℕ × ℕ × List ℕ × ℤ × List ℕ). v.5 ≡ ends_after v.3 (ends_asked v.0 v.1 v.2 (length v.3))) (λ κ a r e p. p.1) c

      pub start_answer : {r : ℤ} → TzbNameStart held file zone r → r ≡ start_code (name_asked held file zone)
      start_answer c = by_contract (λ (v : List ℕ × List ℕ × ℕ × ℤ). v.3 ≡ start_code (name_asked v.0 v.1 v.2)) (λ κ a r e p. p) c

      pub end_answer : {r : ℤ} → TzbNameEnd held file zone r → r ≡ end_code (name_asked held file zone)
      end_answer c = by_contract (λ (v : List ℕ × List ℕ × ℕ × ℤ). v.3 ≡ end_code (name_asked v.0 v.1 v.2)) (λ κ a r e p. p) c

    pub candidate_answer : {place : ℕ} {r : ℤ} → TzbCandidate held file place r → r ≡ number_code (candidate_asked held file place)
    candidate_answer c = by_contract (λ (v : List ℕ × List ℕ × ℕ × ℤ). v.3 ≡ number_code (candidate_asked v.0 v.1 v.2)) (λ κ a r e p. p) c

pub zone_count_answer : {held : List ℕ} {r : ℤ} → TzbZoneCount held r → r ≡ number_code (zones_asked held)
zone_count_answer c = by_contract (λ (v : List ℕ × ℤ). v.1 ≡ number_code (zones_asked v.0)) (λ κ a r e p. p) c

-- the journal
module _ {held file : List ℕ} {places : ℕ} {x y : ℤ} {memory after : List ℕ} {r : ℤ} where
  pub journal_ask_answer : TzbJournalAsk held file places x y memory r after → r ≡ done_code (journal_asked held file places (point x y) memory)
  journal_ask_answer c = by_contract (λ (v : List ℕ × List ℕ × ℕ × ℤ × ℤ × List ℕ × ℤ × List ℕ). v.6 ≡ done_code (journal_asked v.0 v.1 v.2 (point v.3 v.4) v.5)) (λ κ a r e p. p.0) c

  pub journal_ask_memory : TzbJournalAsk held file places x y memory r after → after ≡ left memory (journal_asked held file places (point x y) memory)
  journal_ask_memory c = by_contract (λ (v : List ℕ × List ℕ × ℕ × ℤ × ℤ × List ℕ × ℤ × List ℕ). v.7 ≡ left v.5 (journal_asked v.0 v.1 v.2 (point v.3 v.4) v.5)) (λ κ a r e p. p.1) c

module _ {places : ℕ} {x y : ℤ} {zones : List ℕ} {reason : ℕ} {memory after : List ℕ} {r : ℤ} where
  pub journal_write_answer : TzbJournalWrite places x y zones reason memory r after → r ≡ done_code (journal_written places (entry (point x y) zones reason) memory)
  journal_write_answer c = by_contract (λ (v : ℕ × ℤ × ℤ × List ℕ × ℕ × List ℕ × ℤ × List ℕ). v.6 ≡ done_code (journal_written v.0 (entry (point v.1 v.2) v.3 v.4) v.5)) (λ κ a r e p. p.0) c

  pub journal_write_memory : TzbJournalWrite places x y zones reason memory r after → after ≡ left memory (journal_written places (entry (point x y) zones reason) memory)
  journal_write_memory c = by_contract (λ (v : ℕ × ℤ × ℤ × List ℕ × ℕ × List ℕ × ℤ × List ℕ). v.7 ≡ left v.5 (journal_written v.0 (entry (point v.1 v.2) v.3 v.4) v.5)) (λ κ a r e p. p.1) c

module _ {places : ℕ} {bytes : List ℕ} {position position' : List ℤ} {zones zones' : List ℕ} {r : ℤ} where
  pub journal_read_answer : TzbJournalRead places bytes position zones r position' zones' → r ≡ number_code (journal_read places bytes (length position) (length zones) then λ e. ok (count_and_reason e))
  journal_read_answer c = by_contract (λ (v : ℕ × List ℕ × List ℤ × List ℕ × ℤ × List ℤ × List ℕ). v.4 ≡ number_code (journal_read v.0 v.1 (length v.2) (length v.3) then λ e. ok (count_and_reason e))) (λ κ a r e p. p.0) c

  pub journal_read_position : TzbJournalRead places bytes position zones r position' zones' → position' ≡ left position (journal_read places bytes (length position) (length zones) then λ e. ok (position_of e))
  journal_read_position c = by_contract (λ (v : ℕ × List ℕ × List ℤ × List ℕ × ℤ × List ℤ × List ℕ). v.5 ≡ left v.2 (journal_read v.0 v.1 (length v.2) (length v.3) then λ e. ok (position_of e))) (λ κ a r e p. p.1.0) c

  pub journal_read_zones : TzbJournalRead places bytes position zones r position' zones' → zones' ≡ left zones (journal_read places bytes (length position) (length zones) then λ e. ok e.zones)
  journal_read_zones c = by_contract (λ (v : ℕ × List ℕ × List ℤ × List ℕ × ℤ × List ℤ × List ℕ). v.6 ≡ left v.3 (journal_read v.0 v.1 (length v.2) (length v.3) then λ e. ok e.zones)) (λ κ a r e p. p.1.1) c

-- ---- the place
module _ {file : List ℕ} where
  pub lookup_place_answer : {lng lat : Float} {r : ℤ} → TzbLookupPlace file lng lat r → r ≡ place_of (lookup_once file lng lat)
  lookup_place_answer c = by_contract (λ (v : List ℕ × Float × Float × ℤ). v.3 ≡ place_of (lookup_once v.0 v.1 v.2)) (λ κ a r e p. p) c

  module _ {held : List ℕ} where
    pub contains_place_answer : {zone : ℕ} {x y r : ℤ} → TzbContainsPlace held file zone x y r → r ≡ place_of (contains_asked held file zone (point x y))
    contains_place_answer c = by_contract (λ (v : List ℕ × List ℕ × ℕ × ℤ × ℤ × ℤ). v.5 ≡ place_of (contains_asked v.0 v.1 v.2 (point v.3 v.4))) (λ κ a r e p. p) c

    pub decode_place_answer : {chunk : ℕ} {numbers : List ℤ} {r : ℤ} → TzbDecodePlace held file chunk numbers r → r ≡ place_of (decode_asked held file chunk numbers)
    decode_place_answer c = by_contract (λ (v : List ℕ × List ℕ × ℕ × List ℤ × ℤ). v.4 ≡ place_of (decode_asked v.0 v.1 v.2 v.3)) (λ κ a r e p. p) c

    module _ {lng lat : Float} {r : ℤ} where
      pub ask_place_answer : TzbAskPlace held file lng lat r → r ≡ place_of (lookup_asked held file lng lat)
      ask_place_answer c = by_contract (λ (v : List ℕ × List ℕ × Float × Float × ℤ). v.4 ≡ place_of (lookup_asked v.0 v.1 v.2 v.3)) (λ κ a r e p. p) c

      pub all_place_answer : {places : List ℕ} → TzbAskAllPlace held file lng lat places r → r ≡ place_of (list_asked held file lng lat (length places))
      all_place_answer c = by_contract (λ (v : List ℕ × List ℕ × Float × Float × List ℕ × ℤ). v.5 ≡ place_of (list_asked v.0 v.1 v.2 v.3 (length v.4))) (λ κ a r e p. p) c

    module _ {numbers : List ℕ} where
      pub contains_striped_place_answer : {zone : ℕ} {x y r : ℤ} → TzbContainsStripedPlace held numbers file zone x y r → r ≡ place_of (contains_asked_by (striped numbers) held file zone (point x y))
      contains_striped_place_answer c =
          by_contract (λ (v : List ℕ × List ℕ × List ℕ × ℕ × ℤ × ℤ × ℤ). v.6 ≡ place_of (contains_asked_by (striped v.1) v.0 v.2 v.3 (point v.4 v.5))) (λ κ a r e p. p) c

      module _ {lng lat : Float} {r : ℤ} where
        pub ask_striped_place_answer : TzbAskStripedPlace held numbers file lng lat r → r ≡ place_of (lookup_asked_by (striped numbers) held file lng lat)
        ask_striped_place_answer c = by_contract (λ (v : List ℕ × List ℕ × List ℕ × Float × Float × ℤ). v.5 ≡ place_of (lookup_asked_by (striped v.1) v.0 v.2 v.3 v.4)) (λ κ a r e p. p) c

        pub all_striped_place_answer : {places : List ℕ} → TzbAskAllStripedPlace held numbers file lng lat places r → r ≡ place_of (list_asked_by (striped numbers) held file lng lat (length places))
        all_striped_place_answer c =
            by_contract (λ (v : List ℕ × List ℕ × List ℕ × Float × Float × List ℕ × ℤ). v.6 ≡ place_of (list_asked_by (striped v.1) v.0 v.2 v.3 v.4 (length v.5))) (λ κ a r e p. p) c
