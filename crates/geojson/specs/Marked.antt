-- Document 02's triangle, decimals at their bounds, and texts that are not read: computed from the definitions.
-- Assumes nothing.
use Rattle.std.specs.Prelude.{◌≡◌, refl, List, [], ◌∷◌, pos, negsuc}
use Rattle.std.proofs.Math.Option.{none}
use Rattle.plane.specs.declared.I32Point.{I32Point}
use Rattle.plane.specs.Places.{point}
use Rattle.geojson.specs.Ascii.{ascii}
use Rattle.geojson.specs.Decimals.{decimal, digits, digits_by, places, hundred_thousandths}
use Rattle.geojson.specs.Text.{others, array, position_text, map_text}
use Rattle.geojson.specs.Reading.{passed, all_digits, k_digits, read_point, read_size, read_signed, read_decimal, read_position}

-- a ring of GeoJSON ends where it begins
abbrev pub triangle : List (List (List I32Point))
triangle = ((point (pos 0) (pos 0) ∷ point (pos 100) (pos 0) ∷ point (pos 0) (pos 100) ∷ point (pos 0) (pos 0) ∷ []) ∷ []) ∷ []

-- "A triangle zone (0,0), (100,0), (0,100) gives exactly
-- `{"type":"MultiPolygon","coordinates":[[[[0.00000,0.00000],[0.00100,0.00000],[0.00000,0.00100],[0.00000,0.00000]]]]}`."
pub triangle_text : map_text triangle
    ≡ ascii "{\"type\":\"MultiPolygon\",\"coordinates\":[[[[0.00000,0.00000],[0.00100,0.00000],[0.00000,0.00100],[0.00000,0.00000]]]]}"
unfolding map_text array others position_text decimal hundred_thousandths digits digits_by places
triangle_text = refl

pub zero : decimal (pos 0) ≡ ascii "0.00000"
unfolding decimal hundred_thousandths digits digits_by places
zero = refl

pub one : decimal (pos 1) ≡ ascii "0.00001"
unfolding decimal hundred_thousandths digits digits_by places
one = refl

pub minus_one : decimal (negsuc 0) ≡ ascii "-0.00001"
unfolding decimal hundred_thousandths digits digits_by places
minus_one = refl

pub far_east : decimal (pos 18_000_000) ≡ ascii "180.00000"
unfolding decimal hundred_thousandths digits digits_by places
far_east = refl

pub far_west : decimal (negsuc 17_999_999) ≡ ascii "-180.00000"
unfolding decimal hundred_thousandths digits digits_by places
far_west = refl

pub south_pole : decimal (negsuc 8_999_999) ≡ ascii "-90.00000"
unfolding decimal hundred_thousandths digits digits_by places
south_pole = refl

pub four_decimals : read_decimal (ascii "0.0000") ≡ none
unfolding passed all_digits k_digits read_point read_size read_signed read_decimal
four_decimals = refl

pub no_whole_part : read_decimal (ascii ".00000") ≡ none
unfolding passed all_digits k_digits read_point read_size read_signed read_decimal
no_whole_part = refl

pub no_point : read_decimal (ascii "000000") ≡ none
unfolding passed all_digits k_digits read_point read_size read_signed read_decimal
no_point = refl

pub six_decimals : read_position (ascii "[0.000000,0.000000]") ≡ none
unfolding passed all_digits k_digits read_point read_size read_signed read_decimal read_position
six_decimals = refl
