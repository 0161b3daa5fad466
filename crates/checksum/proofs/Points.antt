-- The check value of the CRC RevEng catalogue for CRC-32/ISO-HDLC: "123456789" gives CBF43926, by the register and by the standard's division.
-- Assumes nothing.
use lib.Dec.{T, eqb}
use mathlib.Core.Bool.{◌&&◌}
use mathlib.Core.List.{List, [], ◌∷◌}
use Prim.Native.Nat.{ℕ}
use Rattle.checksum.specs.Crc32.{step, steps, bytes, crc32}
use Rattle.checksum.specs.Ieee8023.{◌⊕◌, times, line, divided, has_power, sum_of, generator, bits, message, complement, complement_first, dividend, number, ieee8023}

abbrev pub digits : List ℕ
digits = 0x31 ∷ 0x32 ∷ 0x33 ∷ 0x34 ∷ 0x35 ∷ 0x36 ∷ 0x37 ∷ 0x38 ∷ 0x39 ∷ []

pub check_value : T (eqb (crc32 digits) 0xcbf4_3926 && eqb (ieee8023 digits) 0xcbf4_3926)
unfolding crc32 bytes steps step ieee8023 divided line times ◌⊕◌ generator sum_of has_power dividend complement_first complement message bits number
check_value = tt
