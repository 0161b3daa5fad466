-- The bytes from the first on, and then the complement.
-- Assumes nothing.
use mathlib.Core.Path.{ap}
use Prim.Native.Nat.{ℕ}
use lib.Bits.{bit_xor}
use Rattle.checksum.specs.Crc32.{crc32}
use Rattle.crc.proofs.crc32_short.Goals as goal

pub returns : goal.returns
unfolding crc32
returns c = ap (λ (k : ℕ). bit_xor k 0xffff_ffff) c.tail.ensures
