-- MAPS: for every file, zone and lent memory, what `tzb_map` and `tzb_map_length` answer.
-- "Curators want a zone as GeoJSON (RFC 7946) in a lent buffer." "Read by a definition of decimals, the text gives the same whole numbers." "Refusals: the full check's first, 45, then 48 .., then 46." (document 02, request 2026-01)
-- One record for each, of which the theorem with its name in proofs/Maps holds of every call (specs/Calls) on bytes (`Bytes`, specs/Words). The cases of a record leave none out. Where each word is defined:
--   accepted          `tzb_full_check` answers 0; `opened_is file` is the record that opening makes of the file
--   a zone's shape    `shape_of`, specs/Words
--   its outlines      `outlines`, shapes/specs/Outline: polygon by polygon the outer ring and the holes, each as the positions that are drawn. `zone_drawable`: each ring has four positions or more, 10,000 at most, and an area
--   the text          `map_text`, geojson/specs/Text
--   the text read     `read_map`, geojson/specs/Reading
-- Assumes nothing.
use Rattle.std.specs.Prelude.{ℕ, ◌≤◌, ◌<◌, ◌≡◌, true, false, List, ◌++◌, ◌⊎◌, ℤ, pos, length, take, drop}
use Rattle.std.proofs.Math.Option.{some}
use Rattle.shapes.specs.Outline.{outlines, zone_drawable}
use Rattle.geojson.specs.Text.{map_text}
use Rattle.geojson.specs.Reading.{read_map}
use Rattle.tzb.specs.Opening.{opened_is}
use Rattle.exported.specs.Calls.{TzbFullCheck, TzbMapLength}
use Rattle.exported.specs.Words.{refusing, shape_of}

-- the text of a zone
abbrev pub text_of : List ℕ → ℕ → List ℕ
text_of file zone = map_text (outlines (shape_of file zone))

-- the file is accepted, and the zone is one of its own
pub record Asked (file : List ℕ) (zone : ℕ) : Type 0 where
  pub accepted : TzbFullCheck file (pos 0)
  pub its_own : zone < (opened_is file).zones.count

-- tzb_map(file, zone, memory) answers r and leaves `after`
pub record MapAnswers (file : List ℕ) (zone : ℕ) (memory : List ℕ) (r : ℤ) (after : List ℕ) : Type 0 where
  -- a file that the full check refuses: the same refusal
  pub refused : (q : ℤ) → TzbFullCheck file q → (q ≡ pos 0 → ⊥) → r ≡ q
  -- a zone number that is too large is 45
  pub no_zone : TzbFullCheck file (pos 0) → (opened_is file).zones.count ≤ zone → r ≡ refusing 45
  -- a zone of which a ring cannot be drawn is 48
  pub no_outline : Asked file zone → zone_drawable (shape_of file zone) ≡ false → r ≡ refusing 48
  -- memory that is shorter than the text is 46
  pub no_room : Asked file zone → zone_drawable (shape_of file zone) ≡ true → length memory < length (text_of file zone) → r ≡ refusing 46
  -- else it is the text's length; the text stands first in memory, and what lies behind is as it was
  pub draws : Asked file zone → zone_drawable (shape_of file zone) ≡ true → length (text_of file zone) ≤ length memory → (r ≡ pos (length (text_of file zone))) × (after ≡ text_of file zone ++ drop (length (text_of file zone)) memory)
  -- where a number n is answered, the first n bytes are read as the outlines of the zone
  pub reads : (n : ℕ) → r ≡ pos n → read_map (take n after) ≡ some (outlines (shape_of file zone))
  -- where none is, the memory is as it was
  pub unchanged : ((n : ℕ) → r ≡ pos n → ⊥) → after ≡ memory
  -- with room for what tzb_map_length answers, it answers the same
  pub enough : (n : ℕ) → TzbMapLength file zone (pos n) → n ≤ length memory → r ≡ pos n
  -- so of an accepted file, each of its zones, and with room for the text: 48, or a text that is read as the outlines of the zone
  pub either : Asked file zone → length (text_of file zone) ≤ length memory → (r ≡ refusing 48) ⊎ ((n : ℕ) × (r ≡ pos n) × (read_map (take n after) ≡ some (outlines (shape_of file zone))))

-- tzb_map_length(file, zone) answers r
pub record MapLengthAnswers (file : List ℕ) (zone : ℕ) (r : ℤ) : Type 0 where
  pub refused : (q : ℤ) → TzbFullCheck file q → (q ≡ pos 0 → ⊥) → r ≡ q
  pub no_zone : TzbFullCheck file (pos 0) → (opened_is file).zones.count ≤ zone → r ≡ refusing 45
  pub no_outline : Asked file zone → zone_drawable (shape_of file zone) ≡ false → r ≡ refusing 48
  pub tells : Asked file zone → zone_drawable (shape_of file zone) ≡ true → r ≡ pos (length (text_of file zone))
