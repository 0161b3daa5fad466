use mathlib.Core.Path.{◌≡◌}
use Prim.Native.Nat.{◌*◌}
use lib.ListN.{drop}
use Rattle.checksum.specs.Crc32.{bytes}
use Rattle.crc.proofs.crc32_with.Given as goal

abbrev pub invariant-loop-block : goal.invariant-loop-block
invariant-loop-block l = bytes 0xffff_ffff l.s ≡ bytes l.c (drop (l.block-index * 16) l.s)
