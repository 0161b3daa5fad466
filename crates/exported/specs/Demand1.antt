-- DEMAND 1, on the exports.
-- "Any bytes and any position get a zone, none, or one numbered refusal; a refusal changes no lent memory." By document 02's request 2026-06 a refusal is told by its number, its place, and for 47 the rule: the place stands in specs/Places.
--
-- `Demand1 file`, below, is this sentence of a file, for each export that answers a question; `demand_1`, in proofs/Demand1, proves it of every file. No export asks anything of its caller: `held`, `memory`, zone numbers and floats are any. Where each word is defined:
--   a call and its answer     `TzbOpen`, .., specs/Calls: what the export's contract allows
--   a numbered refusal        `Refuses`, specs/Words: -1000 - n with n from 1 to 50
--   none                      -1
-- Assumes nothing.
use Rattle.std.specs.Prelude.{ℕ, ◌≤◌, ◌<◌, ◌≡◌, List, ◌⊎◌, ℤ, pos, Float}
use Rattle.exported.specs.Calls.{TzbOpen, TzbFullCheck, TzbFullCheckRule, TzbZoneCount, TzbContains, TzbLookup, TzbAsk, TzbAskAll, TzbDecode, TzbName, TzbNameStart, TzbNameEnd, TzbChoice, TzbCandidate, TzbMap, TzbMapLength, TzbStripesNeed, TzbStripes, TzbContainsStriped, TzbAskStriped, TzbAskAllStriped, TzbJournalAsk, TzbJournalWrite, TzbJournalRead}
use Rattle.exported.specs.Words.{none, refusing, Refuses}

-- a zone that is below a bound, none, or a refusal
abbrev pub ZoneNoneOrRefusal : ℕ → ℤ → Type 0
ZoneNoneOrRefusal bound r = ((zone : ℕ) × (zone < bound) × (r ≡ pos zone)) ⊎ ((r ≡ none) ⊎ Refuses r)

-- a number, or a refusal
abbrev pub NumberOrRefusal : ℤ → Type 0
NumberOrRefusal r = ((n : ℕ) × (r ≡ pos n)) ⊎ Refuses r

-- the same, where memory is lent: after a refusal it holds what it held
abbrev pub NumberOrAsItWas : {A : Type 0} → ℤ → (before after : List A) → Type 0
NumberOrAsItWas r before after = ((n : ℕ) × (r ≡ pos n)) ⊎ (Refuses r × (after ≡ before))

-- done, or a refusal, after which lent memory holds what it held
abbrev pub DoneOrAsItWas : {A : Type 0} → ℤ → (before after : List A) → Type 0
DoneOrAsItWas r before after = (r ≡ pos 0) ⊎ (Refuses r × (after ≡ before))

pub record Demand1 (file : List ℕ) : Type 0 where
  -- opening
  pub opening : (memory : List ℕ) (r : ℤ) (after : List ℕ) → TzbOpen file memory r after → DoneOrAsItWas r memory after
  -- the full check: accepted, or a refusal; and the rule that is broken
  pub full_check : (r : ℤ) → TzbFullCheck file r → (r ≡ pos 0) ⊎ Refuses r
  pub rule : (r : ℕ) → TzbFullCheckRule file r → (r ≡ 0) ⊎ ((2 ≤ r) × (r ≤ 6))
  -- which zone a position lies in, in degrees: opening and asking at once, and with the record
  pub lookup : (lng lat : Float) (r : ℤ) → TzbLookup file lng lat r → ZoneNoneOrRefusal 65_535 r
  pub ask : (held : List ℕ) (zones : ℕ) → TzbZoneCount held (pos zones) → (lng lat : Float) (r : ℤ) → TzbAsk held file lng lat r → ZoneNoneOrRefusal zones r
  -- the same of a record of which no zones can be told: a refusal
  pub ask_barred : (held : List ℕ) (q : ℤ) → TzbZoneCount held q → Refuses q → (lng lat : Float) (r : ℤ) → TzbAsk held file lng lat r → Refuses r
  -- whether a zone contains a point
  pub contains : (held : List ℕ) (zone : ℕ) (x y r : ℤ) → TzbContains held file zone x y r → ((r ≡ pos 1) ⊎ (r ≡ pos 0)) ⊎ Refuses r
  -- how many zones
  pub zone_count : (held : List ℕ) (r : ℤ) → TzbZoneCount held r → NumberOrRefusal r
  -- all zones that a position lies in, into lent places
  pub ask_all : (held : List ℕ) (lng lat : Float) (places : List ℕ) (r : ℤ) (after : List ℕ) → TzbAskAll held file lng lat places r after → NumberOrAsItWas r places after
  -- a chunk's points, into lent numbers
  pub decode : (held : List ℕ) (chunk : ℕ) (numbers : List ℤ) (r : ℤ) (after : List ℤ) → TzbDecode held file chunk numbers r after → NumberOrAsItWas r numbers after
  -- where a name starts and ends: both into lent numbers, and each alone
  pub name : (held : List ℕ) (zone : ℕ) (ends : List ℕ) (r : ℤ) (after : List ℕ) → TzbName held file zone ends r after → DoneOrAsItWas r ends after
  pub name_start : (held : List ℕ) (zone : ℕ) (r : ℤ) → TzbNameStart held file zone r → NumberOrRefusal r
  pub name_end : (held : List ℕ) (zone : ℕ) (r : ℤ) → TzbNameEnd held file zone r → NumberOrRefusal r
  -- which candidates a position has, and which zone stands at a place of the candidate list
  pub choice : (held : List ℕ) (lng lat : Float) (r : ℤ) → TzbChoice held file lng lat r → NumberOrRefusal r
  pub candidate : (held : List ℕ) (place : ℕ) (r : ℤ) → TzbCandidate held file place r → NumberOrRefusal r
  -- a zone as a map, into lent memory; and how long it is, which no room can bar: never 46
  pub map : (zone : ℕ) (memory : List ℕ) (r : ℤ) (after : List ℕ) → TzbMap file zone memory r after → NumberOrAsItWas r memory after
  pub map_length : (zone : ℕ) (r : ℤ) → TzbMapLength file zone r → NumberOrRefusal r × (r ≡ refusing 46 → ⊥)
  -- the stripes, into lent numbers; and how many they are, which no room can bar: never 46
  pub stripes : (held lent : List ℕ) (r : ℤ) (after : List ℕ) → TzbStripes held file lent r after → NumberOrAsItWas r lent after
  pub stripes_need_law : (held : List ℕ) (r : ℤ) → TzbStripesNeed held file r → NumberOrRefusal r × (r ≡ refusing 46 → ⊥)
  -- the questions by stripes, of any numbers
  pub contains_striped : (held numbers : List ℕ) (zone : ℕ) (x y r : ℤ) → TzbContainsStriped held numbers file zone x y r → ((r ≡ pos 1) ⊎ (r ≡ pos 0)) ⊎ Refuses r
  pub ask_striped : (held numbers : List ℕ) (zones : ℕ) → TzbZoneCount held (pos zones) → (lng lat : Float) (r : ℤ) → TzbAskStriped held numbers file lng lat r → ZoneNoneOrRefusal zones r
  pub ask_striped_barred : (held numbers : List ℕ) (q : ℤ) → TzbZoneCount held q → Refuses q → (lng lat : Float) (r : ℤ) → TzbAskStriped held numbers file lng lat r → Refuses r
  pub ask_all_striped : (held numbers : List ℕ) (lng lat : Float) (places : List ℕ) (r : ℤ) (after : List ℕ) → TzbAskAllStriped held numbers file lng lat places r after → NumberOrAsItWas r places after
  -- the journal's entry of a question, into lent memory
  pub journal_ask : (held : List ℕ) (places : ℕ) (x y : ℤ) (memory : List ℕ) (r : ℤ) (after : List ℕ) → TzbJournalAsk held file places x y memory r after → DoneOrAsItWas r memory after
  -- an entry written, and read from any bytes: these two take no file
  pub journal_write : (places : ℕ) (x y : ℤ) (zones : List ℕ) (reason : ℕ) (memory : List ℕ) (r : ℤ) (after : List ℕ) → TzbJournalWrite places x y zones reason memory r after → DoneOrAsItWas r memory after
  pub journal_read_law : (places : ℕ) (bytes : List ℕ) (position : List ℤ) (zones : List ℕ) (r : ℤ) (position' : List ℤ) (zones' : List ℕ)
      → TzbJournalRead places bytes position zones r position' zones' → ((n : ℕ) × (r ≡ pos n)) ⊎ (Refuses r × (position' ≡ position) × (zones' ≡ zones))
