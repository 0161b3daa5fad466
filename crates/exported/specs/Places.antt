-- DEMAND 1, THE PLACE, on the exports.
-- Document 02, request 2026-06: "Demand 1 reads: number, place, and for 47 the rule." "The export keeps its old numbers and a second one returns the place in 64 bits, or -1 where there is none."
--
-- `Demand1Place file`, below, is this of a file, for each export that can meet a broken chunk, beside the second export that was called with the same arguments; `demand_1_place`, in proofs/Places, proves it of every file of fewer than 2 ^ 63 bytes, as every slice has. No export asks anything of its caller. Where each word is defined:
--   a call and its answer     `TzbAsk`, `TzbAskPlace`, .., specs/Calls: what the export's contract allows. What is lent to the second is lent as `&`: nobody can write to it
--   the record                `opened_is file`, the only record that a file can open to (tzb/specs/Opening); `opened_in held`, what 84 bytes are read as (tzb_record/specs/Layout)
--   a chunk                   `chunk_at`, its record by its number (reader_records/specs/Records); `start_of`, `end_of`, from where up to where it stands (reader_chunks/specs/Chunks)
--   where it is broken        `Broken`, chunks/specs/Broken, row by row: the place is that of the number that was being read, of the number whose sum left i32, of the y number, or of the first byte left over
-- Assumes nothing.
use Rattle.std.specs.Prelude.{ℕ, ◌≤◌, ◌<◌, ◌≡◌, List, ◌⊎◌, ℤ, pos, Float, length, take}
use Rattle.answer.specs.Refusals.{refusal, placed_at}
use Rattle.answer.specs.Answers.{ok}
use Rattle.opened.specs.declared.Opened.{Opened}
use Rattle.reader_records.specs.declared.ChunkRecord.{ChunkRecord}
use Rattle.reader_records.specs.Records.{chunk_at}
use Rattle.reader_chunks.specs.Chunks.{start_of, end_of}
use Rattle.tzb_record.specs.Layout.{opened_in}
use Rattle.tzb.specs.Opening.{opened_is}
use Rattle.chunks.specs.Broken.{Broken}
use Rattle.exported.specs.Calls.{TzbContains, TzbLookup, TzbAsk, TzbAskAll, TzbDecode, TzbContainsStriped, TzbAskStriped, TzbAskAllStriped, TzbContainsPlace, TzbLookupPlace, TzbAskPlace, TzbAskAllPlace, TzbDecodePlace, TzbContainsStripedPlace, TzbAskStripedPlace, TzbAskAllStripedPlace}
use Rattle.exported.specs.Words.{none, refusing}

-- a chunk of the file is broken, by refusal n about the byte p, read in the file itself from where the chunk starts up to where it ends. o is the opened record that the question goes by
pub record ChunkBroken (o : Opened) (file : List ℕ) (n p : ℕ) : Type 0 where
  pub chunk : ℕ
  pub entry : ChunkRecord
  pub found : ok entry ≡ chunk_at o file chunk
  pub end : ℕ
  pub ends : ok end ≡ end_of o file chunk
  pub inside : end ≤ length file
  -- all its points are asked, or its first alone
  pub points : ℕ
  pub asked : (points ≡ entry.count) ⊎ (points ≡ 1)
  pub broken : Broken (take end file) (start_of o entry) points (placed_at p (refusal n))
  -- the place of a byte of the chunk, or its end
  pub least : start_of o entry ≤ p
  pub greatest : p ≤ end

-- a question answers r, and its second export `place`
pub record PlaceBeside (o : Opened) (file : List ℕ) (r place : ℤ) : Type 0 where
  -- beside -1038 to -1043 the place at which a chunk is broken
  pub there : (n : ℕ) → 38 ≤ n → n ≤ 43 → r ≡ refusing n → (p : ℕ) × (place ≡ pos p) × ChunkBroken o file n p
  -- beside every other answer -1
  pub nowhere : ((n : ℕ) → 38 ≤ n → n ≤ 43 → r ≡ refusing n → ⊥) → place ≡ none

pub record Demand1Place (file : List ℕ) : Type 0 where
  pub lookup : (lng lat : Float) (r place : ℤ) → TzbLookup file lng lat r → TzbLookupPlace file lng lat place → PlaceBeside (opened_is file) file r place
  pub ask : (held : List ℕ) (lng lat : Float) (r place : ℤ) → TzbAsk held file lng lat r → TzbAskPlace held file lng lat place → PlaceBeside (opened_in held) file r place
  pub ask_all : (held : List ℕ) (lng lat : Float) (places : List ℕ) (r : ℤ) (after : List ℕ) (place : ℤ) → TzbAskAll held file lng lat places r after → TzbAskAllPlace held file lng lat places place → PlaceBeside (opened_in held) file r place
  pub contains : (held : List ℕ) (zone : ℕ) (x y r place : ℤ) → TzbContains held file zone x y r → TzbContainsPlace held file zone x y place → PlaceBeside (opened_in held) file r place
  pub decode : (held : List ℕ) (chunk : ℕ) (numbers : List ℤ) (r : ℤ) (after : List ℤ) (place : ℤ) → TzbDecode held file chunk numbers r after → TzbDecodePlace held file chunk numbers place → PlaceBeside (opened_in held) file r place
  -- by stripes, of any numbers
  pub contains_striped : (held numbers : List ℕ) (zone : ℕ) (x y r place : ℤ) → TzbContainsStriped held numbers file zone x y r → TzbContainsStripedPlace held numbers file zone x y place → PlaceBeside (opened_in held) file r place
  pub ask_striped : (held numbers : List ℕ) (lng lat : Float) (r place : ℤ) → TzbAskStriped held numbers file lng lat r → TzbAskStripedPlace held numbers file lng lat place → PlaceBeside (opened_in held) file r place
  pub ask_all_striped : (held numbers : List ℕ) (lng lat : Float) (places : List ℕ) (r : ℤ) (after : List ℕ) (place : ℤ) → TzbAskAllStriped held numbers file lng lat places r after → TzbAskAllStripedPlace held numbers file lng lat places place → PlaceBeside (opened_in held) file r place
