-- One byte at a time: before each turn the bytes that were not taken are still to be added.
-- Assumes nothing.
use mathlib.Core.Path.{refl, sym, ap, ◌∙◌}
use Prim.Native.Nat.{ℕ, ◌+◌, ◌/◌, ◌%◌}
use lib.Bits.{bit_xor}
use lib.ListN.{get_or, drop}
use Rattle.checksum.specs.Crc32.{bytes}
use Rattle.checksum.proofs.Linear.{byte_step, bytes_at_law, bytes_end}
use native.Mathlib.Omega.{arith}
use Rattle.crc.proofs.tail.Goals as goal

pub loop-b-init : goal.loop-b-init
loop-b-init c = refl

pub loop-b-preserved : goal.loop-b-preserved
loop-b-preserved c =
    let v = c.loop-b in
    let s = c.args.s.now in
    let b = get_or s v.b-index 0 in
    let h = (c.type_inv.s v.b-index).fits in
    v.invariant ∙ bytes_at_law v.c s v.b-index (omega arith)
    ∙ ap (λ (k : ℕ). bytes k (drop (v.b-index + 1) s))
    (byte_step v.c b h
    ∙ ap (bit_xor (v.c / 256)) (sym (c.requires.at (bit_xor v.c b % 256) (omega arith)))
    ∙ ap (λ (k : ℕ). bit_xor (v.c / 256) (get_or c.args.t.now (bit_xor v.c k % 256) 0)) (sym c.from.ensures))

pub returns : goal.returns
returns c = sym (c.loop-b.invariant ∙ bytes_end c.loop-b.c c.args.s.now c.loop-b.b-index (omega arith))
