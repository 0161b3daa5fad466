-- Document 02, 2026-04: a record of the journal, which is called an entry here, since a record is what opening makes.
-- "For each whole-number question write one 16-byte record, no header: x and y as i32, three zone numbers as u16 (65535 where unused), a count, a reason."
-- Said over the number of places: three is an argument.
-- Assumes nothing.
use Rattle.std.specs.Prelude.{ℕ, ◌+◌, ◌-◌, ◌*◌, ◌≡◌, refl, List, [], ◌∷◌, ◌++◌, pos, negsuc, length, replicate}
use Rattle.std.specs.Int.{w32}
use Rattle.std.proofs.Common.{of_z}
use Rattle.plane.specs.declared.I32Point.{I32Point}
use Rattle.plane.specs.Places.{point}
use Rattle.fields.specs.Row.{row_bytes}

-- what an entry says: of a position, the zones that it lies in, as many as its count; or why there is no answer
pub record Entry : Type 0 where
  pub at : I32Point
  pub zones : List ℕ
  pub reason : ℕ

abbrev pub entry : I32Point → List ℕ → ℕ → Entry
entry q zones reason = record { at = q; zones = zones; reason = reason }

-- what stands in a place that is not used
abbrev pub unused : ℕ
unused = 65535

-- ---- an entry as bytes: a row, with the widths of x, y, each place, the count and the reason
abbrev pub widths : ℕ → List ℕ
widths places = 4 ∷ 4 ∷ (replicate places 2 ++ 1 ∷ 1 ∷ [])

-- how many bytes it takes
abbrev pub entry_wide : ℕ → ℕ
entry_wide places = 10 + 2 * places

-- the zones in the first places, and what is not used
unfoldable pub places_of : ℕ → List ℕ → List ℕ
places_of places zones = zones ++ replicate (places - length zones) unused

-- x and y by their bits, in two's complement
unfoldable pub numbers_of : ℕ → Entry → List ℕ
numbers_of places e = of_z w32 e.at.x ∷ of_z w32 e.at.y ∷ (places_of places e.zones ++ length e.zones ∷ e.reason ∷ [])

unfoldable pub bytes_of : ℕ → Entry → List ℕ
bytes_of places e = row_bytes (widths places) (numbers_of places e)

-- "Position (1,-1) in zone 5 alone is `01 00 00 00 FF FF FF FF 05 00 FF FF FF FF 01 00`."
pub in_zone_5 : bytes_of 3 (entry (point (pos 1) (negsuc 0)) (5 ∷ []) 0)
    ≡ 0x01 ∷ 0x00 ∷ 0x00 ∷ 0x00 ∷ 0xff ∷ 0xff ∷ 0xff ∷ 0xff ∷ 0x05 ∷ 0x00 ∷ 0xff ∷ 0xff ∷ 0xff ∷ 0xff ∷ 0x01 ∷ 0x00 ∷ []
unfolding bytes_of numbers_of places_of row_bytes
in_zone_5 = refl
