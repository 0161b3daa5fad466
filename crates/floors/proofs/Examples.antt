-- Floors, computed over the definition: -0.5 belongs to cell -1.
-- Assumes nothing.
use Rattle.std.proofs.Common.{◌≡◌, pos, negsuc, refl}
use lib.Ieee.{binary64, of_bits}
use Rattle.floors.specs.Floor.{floor_of}

-- -0.5, 0.5, -0.0, 179.99999 and -180, each by its bits
pub minus_half : floor_of (of_bits binary64 0xbfe0_0000_0000_0000) ≡ negsuc 0
unfolding floor_of of_bits
minus_half = refl

pub half : floor_of (of_bits binary64 0x3fe0_0000_0000_0000) ≡ pos 0
unfolding floor_of of_bits
half = refl

pub minus_zero : floor_of (of_bits binary64 0x8000_0000_0000_0000) ≡ pos 0
unfolding floor_of of_bits
minus_zero = refl

pub nearly_180 : floor_of (of_bits binary64 0x4066_7fff_eb07_4a77) ≡ pos 179
unfolding floor_of of_bits
nearly_180 = refl

pub minus_180 : floor_of (of_bits binary64 0xc066_8000_0000_0000) ≡ negsuc 179
unfolding floor_of of_bits
minus_180 = refl
