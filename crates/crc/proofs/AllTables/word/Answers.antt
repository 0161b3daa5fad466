-- Eight bytes leave apart: the slicing law at eight bytes, with k more to come.
-- Assumes nothing.
use mathlib.Core.Path.{sym, ap₂, ◌∙◌}
use Prim.Native.Nat.{◌<◌}
use lib.Bits.{bit_xor}
use Rattle.checksum.proofs.Linear.{slices}
use native.Mathlib.Omega.{arith}
use Rattle.crc.proofs.AllTables.word.Goals as goal

pub returns : goal.returns
returns c =
    let f : c.args.v0 < 18446744073709551616 = omega arith in
    ap₂ bit_xor c.slot.ensures (ap₂ bit_xor c.slot-2.ensures (ap₂ bit_xor c.slot-3.ensures (ap₂ bit_xor c.slot-4.ensures (ap₂ bit_xor c.slot-5.ensures (ap₂ bit_xor c.slot-6.ensures (ap₂ bit_xor c.slot-7.ensures c.slot-8.ensures))))))
    ∙ sym (slices c.args.k 7 c.args.v0 f)
