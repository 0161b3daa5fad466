-- Document 02, request 2026-01: a zone of an accepted file as GeoJSON text, and the text in lent memory.
-- "Refusals: the full check's first, 45, then 48 for a ring of under four positions, over 10,000, or zero area, then 46."
-- Asked only after the full check has accepted the file: its refusals are given before anything here is asked.
-- Assumes nothing.
use Rattle.std.specs.Prelude.{ℕ, List, length, leb, ltb}
use Rattle.answer.specs.Answers.{Answer, ok, ◌then◌, need}
use Rattle.shapes.specs.Layout.{zone_at}
use Rattle.shapes.specs.Outline.{outlines, zone_drawable}
use Rattle.geojson.specs.Text.{map_text}
use Rattle.opened.specs.declared.Opened.{Opened}
use Rattle.directories.specs.Directories.{directories}

-- 45, then 48, then the text
unfoldable pub zone_text : Opened → List ℕ → ℕ → Answer (List ℕ)
zone_text o s zone =
    need 45 (ltb zone o.zones.count)
    (need 48 (zone_drawable (zone_at (directories o s) zone)) (ok (map_text (outlines (zone_at (directories o s) zone)))))

-- the same text where there is room for all of it, and else 46
unfoldable pub in_room : ℕ → Answer (List ℕ) → Answer (List ℕ)
in_room room x = x then λ t. need 46 (leb (length t) room) (ok t)
