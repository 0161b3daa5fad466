-- Document 02: "Read by a definition of decimals (no new entry point), the text gives the same whole numbers."
-- Of every text that is written, reading gives the zone's outlines, position by position.
-- Assumes nothing.
use Prim.Native.Nat.{ℕ}
use mathlib.Core.Path.{◌≡◌, sym, ap, ◌∙◌}
use mathlib.Core.List.{List}
use mathlib.Core.Option.{some}
use Rattle.answer.specs.Answers.{ok}
use Rattle.shapes.specs.Layout.{zone_at}
use Rattle.shapes.specs.Outline.{outlines}
use Rattle.geojson.specs.Reading.{read_map}
use Rattle.geojson.proofs.Back.{map_back}
use Rattle.opened.specs.declared.Opened.{Opened}
use Rattle.directories.specs.Directories.{directories}
use Rattle.reader_map.specs.Map.{zone_text}
use Rattle.reader_map.proofs.Asking.{text_is}

pub text_read : (o : Opened) (s : List ℕ) (zone : ℕ) (t : List ℕ) → zone_text o s zone ≡ ok t → read_map t ≡ some (outlines (zone_at (directories o s) zone))
text_read o s zone t e = ap read_map (text_is o s zone t (sym e)) ∙ map_back (outlines (zone_at (directories o s) zone))
