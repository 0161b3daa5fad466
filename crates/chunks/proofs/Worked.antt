-- Small chunks, and what document 01 and request 2026-06 say of them: each row is computed over the definitions.
-- Assumes nothing.
use Prim.Native.Nat.{ℕ}
use mathlib.Core.Bool.{Bool, true, false, not, ◌&&◌}
use mathlib.Core.List.{List, [], ◌∷◌}
use lib.Dec.{T, eqb}
use lib.IntN.{ℤ, pos, negsuc}
use Rattle.basics.specs.Whole.{eq_z}
use Rattle.plane.specs.declared.I32Point.{I32Point}
use Rattle.plane.specs.Domain.{in_domain}
use Rattle.boxes.specs.declared.BBox.{BBox}
use Rattle.boxes.specs.Box.{in_box}
use Rattle.answer.specs.Refusals.{no_place}
use Rattle.answer.specs.Answers.{Answer, ok, refused}
use Rattle.varints.specs.Varint.{number_at, digits}
use Rattle.chunks.specs.Delta.{fits32, add_delta}
use Rattle.chunks.specs.Points.{numbers_at, moved_by, must_lie, first_from, next_at}
use Rattle.chunks.specs.Along.{along, walk_from}
use Rattle.chunks.specs.Decode.{points_of, into_room, flat}
use Rattle.chunks.specs.Trace.{also, trace_of}

-- bytes, how many points are asked of them, lent numbers; the refusal, 0 where there is none, and its place; else the points' numbers
pub record Row : Type 0 where
  pub bytes : List ℕ
  pub count : ℕ
  pub room : List ℤ
  pub number : ℕ
  pub place : ℕ
  pub numbers : List ℤ

abbrev number_in : Answer (List I32Point) → ℕ
number_in (ok l) = 0
number_in (refused k) = k.number

abbrev place_in : Answer (List I32Point) → ℕ
place_in (ok l) = no_place
place_in (refused k) = k.place

abbrev numbers_in : Answer (List I32Point) → List ℤ
numbers_in (ok l) = flat l
numbers_in (refused k) = []

abbrev alike : List ℤ → List ℤ → Bool
alike [] [] = true
alike [] (y ∷ m) = false
alike (x ∷ l) [] = false
alike (x ∷ l) (y ∷ m) = eq_z x y && alike l m

abbrev answers : Row → Answer (List I32Point) → Bool
answers r x = eqb (number_in x) r.number && eqb (place_in x) r.place && alike (numbers_in x) r.numbers

abbrev pub said : Row → Bool
said r = answers r (into_room r.bytes r.count r.room)

abbrev pub all : List Row → Bool
all [] = true
all (r ∷ l) = said r && all l

abbrev two : List ℤ
two = pos 7 ∷ pos 7 ∷ []

abbrev four : List ℤ
four = pos 7 ∷ pos 7 ∷ pos 7 ∷ pos 7 ∷ []

abbrev pub rows : List Row
rows =
    -- one point, and room for just its two numbers
    record { bytes = 0 ∷ 2 ∷ []; count = 1; room = two; number = 0; place = no_place; numbers = pos 0 ∷ pos 1 ∷ [] }
    -- one place too few: 46
    ∷ record { bytes = 0 ∷ 2 ∷ []; count = 1; room = pos 7 ∷ []; number = 46; place = no_place; numbers = [] }
    -- no point: 32, before room is asked for
    ∷ record { bytes = 0 ∷ 2 ∷ []; count = 0; room = []; number = 32; place = no_place; numbers = [] }
    -- the second point by its delta, x before y
    ∷ record { bytes = 0 ∷ 0 ∷ 4 ∷ 1 ∷ []; count = 2; room = four; number = 0; place = no_place; numbers = pos 0 ∷ pos 0 ∷ pos 2 ∷ negsuc 0 ∷ [] }
    -- bytes left over: 43, at the first of them
    ∷ record { bytes = 0 ∷ 0 ∷ 0 ∷ 0 ∷ []; count = 1; room = two; number = 43; place = 2; numbers = [] }
    -- the first point at (18,000,000, 0), which lies in the domain; one to the east of it: 42, at its y
    ∷ record { bytes = 128 ∷ 162 ∷ 149 ∷ 17 ∷ 0 ∷ []; count = 1; room = two; number = 0; place = no_place; numbers = pos 18_000_000 ∷ pos 0 ∷ [] }
    ∷ record { bytes = 130 ∷ 162 ∷ 149 ∷ 17 ∷ 0 ∷ []; count = 1; room = two; number = 42; place = 4; numbers = [] }
    -- the same by a delta, of one to the east and none to the north
    ∷ record { bytes = 128 ∷ 162 ∷ 149 ∷ 17 ∷ 0 ∷ 2 ∷ 0 ∷ []; count = 2; room = four; number = 42; place = 6; numbers = [] }
    -- from there by a delta of 2,147,483,647: the sum leaves i32, 41, in x; from (0, 1) in y; and where both do, in x
    ∷ record { bytes = 128 ∷ 162 ∷ 149 ∷ 17 ∷ 0 ∷ 254 ∷ 255 ∷ 255 ∷ 255 ∷ 15 ∷ 0 ∷ []; count = 2; room = four; number = 41; place = 5; numbers = [] }
    ∷ record { bytes = 0 ∷ 2 ∷ 0 ∷ 254 ∷ 255 ∷ 255 ∷ 255 ∷ 15 ∷ []; count = 2; room = four; number = 41; place = 3; numbers = [] }
    ∷ record { bytes = 128 ∷ 162 ∷ 149 ∷ 17 ∷ 2 ∷ 254 ∷ 255 ∷ 255 ∷ 255 ∷ 15 ∷ 254 ∷ 255 ∷ 255 ∷ 255 ∷ 15 ∷ []; count = 2; room = four; number = 41; place = 5; numbers = [] }
    -- two points asked of bytes that hold one: 38, where the next would start
    ∷ record { bytes = 0 ∷ 0 ∷ []; count = 2; room = four; number = 38; place = 2; numbers = [] }
    -- a number that is cut: 38, at its first byte, in x and in y; one that is longer than it need be: 39; one of more than 32 bits: 40
    ∷ record { bytes = 128 ∷ 128 ∷ []; count = 1; room = two; number = 38; place = 0; numbers = [] }
    ∷ record { bytes = 0 ∷ 128 ∷ []; count = 1; room = two; number = 38; place = 1; numbers = [] }
    ∷ record { bytes = 0 ∷ 0 ∷ 0 ∷ 128 ∷ 0 ∷ []; count = 2; room = four; number = 39; place = 3; numbers = [] }
    ∷ record { bytes = 0 ∷ 0 ∷ 128 ∷ 128 ∷ 128 ∷ 128 ∷ 16 ∷ 0 ∷ []; count = 2; room = four; number = 40; place = 2; numbers = [] }
    ∷ []

pub met : T (all rows)
unfolding into_room points_of walk_from along first_from next_at numbers_at moved_by must_lie add_delta fits32 in_domain number_at digits
met = tt

-- a box of one place, and the points (0, 0) and (1, 0): it does not cover both, in either order
abbrev origin : BBox
origin = record { minx = pos 0; miny = pos 0; maxx = pos 0; maxy = pos 0 }

abbrev covered : Answer (Bool × I32Point) → Bool
covered (ok t) = t.0
covered (refused k) = true

pub uncovered : T (not (covered (trace_of (0 ∷ 0 ∷ 2 ∷ 0 ∷ []) 2 origin)) && not (covered (trace_of (2 ∷ 0 ∷ 1 ∷ 0 ∷ []) 2 origin)))
unfolding trace_of walk_from along also first_from next_at numbers_at moved_by must_lie add_delta fits32 in_domain number_at digits in_box
uncovered = tt
