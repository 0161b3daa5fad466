-- Sixteen bytes at a time: before each turn the bytes behind the blocks that were taken are still to be added.
-- Assumes nothing.
use mathlib.Core.Path.{◌≡◌, refl, sym, ap, ◌∙◌}
use Prim.Native.Nat.{ℕ, ◌+◌, ◌*◌, ◌/◌}
use native.Mathlib.Omega.{arith}
use lib.Bits.{bit_xor}
use lib.ListN.{length, drop}
use Rattle.checksum.specs.Crc32.{bytes, crc32}
use Rattle.checksum.proofs.Linear.{bytes_by}
use Rattle.std.proofs.Common.{rules}
use Rattle.crc.proofs.Front.{front}
use Rattle.crc.proofs.Blocks.{block_at}
use Rattle.crc.proofs.crc32_with.Goals as goal

pub loop-block-init : goal.loop-block-init
loop-block-init c = refl

pub loop-block-preserved : goal.loop-block-preserved
loop-block-preserved c =
    let s = c.args.s.now in
    let v = c.loop-block in
    let i = v.block-index in
    let next : (i + 1) * 16 ≡ i * 16 + 16 = omega arith in
    let a = c.as_chunks.ensures in
    v.invariant ∙ bytes_by v.c 16 s (i * 16)
    ∙ ap (λ (k : ℕ). bytes k (drop (i * 16 + 16) s))
    (sym (c.sixteen-c.ensures ∙ ap (bytes v.c) (block_at 16 s _ i _ a.front (omega (arith, a.front_len)))))
    ∙ ap (λ (k : ℕ). bytes c.sixteen-c.result (drop k s)) (sym next)

pub tail-requires : goal.tail-requires
tail-requires c = front _ (search rules)

pub returns : goal.returns
unfolding crc32
returns c =
    let s = c.args.s.now in
    let v = c.loop-block in
    let a = c.as_chunks.ensures in
    let all : length s / 16 * 16 ≡ v.block-index * 16 = omega (arith, a.front_len) in
    ap (λ (k : ℕ). bit_xor k 0xffff_ffff)
    (c.tail.ensures ∙ ap (bytes v.c) (a.back ∙ ap (λ (k : ℕ). drop k s) all) ∙ sym v.invariant)
