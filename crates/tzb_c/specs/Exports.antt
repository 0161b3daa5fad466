-- What the exports for comparison runs tell, beside tzb_codes.
-- Assumes nothing.
use Rattle.std.specs.Prelude.{ℕ, ◌-◌, ℤ, pos}
use Rattle.answer.specs.Answers.{Answer, ok, refused}
use Rattle.boxes.specs.declared.BBox.{BBox}
use Rattle.tzb_codes.specs.Codes.{refusal_code}

-- ---- for comparison runs
-- a number that was read, or 0 where it is refused
unfoldable pub number_of : Answer (ℤ × ℕ) → ℤ
number_of (ok t) = t.0
number_of (refused r) = pos 0

-- how many bytes a number has that starts at p, or the refusal
unfoldable pub length_from : ℕ → Answer (ℤ × ℕ) → ℤ
length_from p (ok t) = pos (t.1 - p)
length_from p (refused r) = refusal_code r

abbrev pub box_of : ℤ → ℤ → ℤ → ℤ → BBox
box_of minx miny maxx maxy = record { minx = minx; miny = miny; maxx = maxx; maxy = maxy }
