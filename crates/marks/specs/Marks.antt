-- Document 01, "The sixteen marked points": one table, and one statement that the definitions answer each row as it says.
-- Assumes nothing.
use Rattle.std.specs.Prelude.{ℕ, ◌≡◌, refl, Bool, true, false, List, [], ◌∷◌, map, eqb, ℤ, pos, negsuc, length}
use Rattle.plane.specs.declared.I32Point.{I32Point}
use Rattle.plane.specs.Sight.{Sight}
use Rattle.plane.specs.Sight as S
use Rattle.plane.specs.Segment.{cross, amid_z, on_z, counts_z, seg}
use Rattle.answer.specs.Checks.{claim, at_most}
use Rattle.answer.specs.Answers.{Answer, ok, refused, Check}
use Rattle.varints.specs.Varint.{number_at, digits}
use Rattle.reader_grid.specs.Word.{range_check}

-- what is asked: a chunk number of all these bytes; a segment from a to b, of the point p; a GRID word, where there are so many candidates
pub data Question : Type 0 where
  number : List ℕ → Question
  segment : I32Point → I32Point → I32Point → Question
  word : ℕ → ℕ → Question

-- what the document answers
pub data Expected : Type 0 where
  is : ℤ → Expected
  on : Expected
  counts : Expected
  neither : Expected
  accepted : Expected
  refused_by : ℕ → Expected

pub record Mark : Type 0 where
  pub asked : Question
  pub expected : Expected

mark : Question → Expected → Mark
mark q e = record { asked = q; expected = e }

at : ℤ → ℤ → I32Point
at x y = record { x = x; y = y }

-- ---- the table
pub marks : List Mark
unfolding mark at
marks =
    -- M1 `00` is 0. M2 `01` is -1. M3 `80 01` is 64. M4 `80 00` is 39.
    mark (number (0x00 ∷ [])) (is (pos 0))
    ∷ mark (number (0x01 ∷ [])) (is (negsuc 0))
    ∷ mark (number (0x80 ∷ 0x01 ∷ [])) (is (pos 64))
    ∷ mark (number (0x80 ∷ 0x00 ∷ [])) (refused_by 39)
    -- M5 `FF FF FF FF 0F` is -2,147,483,648. M6 `FF FF FF FF 10` is 40. M7 `80 80 80 80 00` is 39. M8 `80` is 38.
    ∷ mark (number (0xff ∷ 0xff ∷ 0xff ∷ 0xff ∷ 0x0f ∷ [])) (is (negsuc 2_147_483_647))
    ∷ mark (number (0xff ∷ 0xff ∷ 0xff ∷ 0xff ∷ 0x10 ∷ [])) (refused_by 40)
    ∷ mark (number (0x80 ∷ 0x80 ∷ 0x80 ∷ 0x80 ∷ 0x00 ∷ [])) (refused_by 39)
    ∷ mark (number (0x80 ∷ [])) (refused_by 38)
    -- Segment (0,0)-(10,10): M9 (5,5) on; M10 (4,5) counts; M11 (6,5) neither.
    ∷ mark (segment (at (pos 0) (pos 0)) (at (pos 10) (pos 10)) (at (pos 5) (pos 5))) on
    ∷ mark (segment (at (pos 0) (pos 0)) (at (pos 10) (pos 10)) (at (pos 4) (pos 5))) counts
    ∷ mark (segment (at (pos 0) (pos 0)) (at (pos 10) (pos 10)) (at (pos 6) (pos 5))) neither
    -- M12 (0,0)-(10,0) from (-1,0): neither. (0,0)-(0,10): M13 (-1,0) counts, M14 (-1,10) doesn't.
    ∷ mark (segment (at (pos 0) (pos 0)) (at (pos 10) (pos 0)) (at (negsuc 0) (pos 0))) neither
    ∷ mark (segment (at (pos 0) (pos 0)) (at (pos 0) (pos 10)) (at (negsuc 0) (pos 0))) counts
    ∷ mark (segment (at (pos 0) (pos 0)) (at (pos 0) (pos 10)) (at (negsuc 0) (pos 10))) neither
    -- GRID word 0x20000003: M15 total 5 accepted, M16 total 4 is 30.
    ∷ mark (word 0x2000_0003 5) accepted
    ∷ mark (word 0x2000_0003 4) (refused_by 30)
    ∷ []

-- ---- an answer as the table has it
-- a number whose last byte is the last of the bytes; one that leaves bytes over is no answer of the table's
number_of : List ℕ → Answer (ℤ × ℕ) → Expected
number_of s (ok a) = only_if (eqb a.1 (length s)) a.0
  where
    only_if : Bool → ℤ → Expected
    only_if true z = is z
    only_if false z = neither
number_of s (refused r) = refused_by r.number

seen_of : Sight → Expected
seen_of S.On = on
seen_of (S.Off true) = counts
seen_of (S.Off false) = neither

checked_of : Check → Expected
checked_of (ok u) = accepted
checked_of (refused r) = refused_by r.number

-- what the definitions answer
pub answer_of : Question → Expected
unfolding number_of seen_of checked_of
answer_of (number s) = number_of s (number_at s 0)
answer_of (segment a b p) = seen_of (seg p a b)
answer_of (word w total) = checked_of (range_check w total)

-- M1 to M16
pub met : map (λ (m : Mark). answer_of m.asked) marks ≡ map (λ (m : Mark). m.expected) marks
unfolding marks mark at answer_of number_of seen_of checked_of seg on_z counts_z amid_z cross range_check claim at_most number_at digits
met = refl
