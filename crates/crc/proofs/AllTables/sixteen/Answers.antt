-- Sixteen bytes are two words of eight.
-- Assumes nothing.
use mathlib.Core.Path.{◌≡◌, sym, ap, ap₂, ◌∙◌}
use Prim.Native.Nat.{ℕ, ◌<◌}
use lib.Bits.{bit_xor}
use lib.ListN.{length, get_or, take, drop}
use Rattle.checksum.specs.Crc32.{steps, bytes}
use Rattle.checksum.proofs.Linear.{two_words}
use lib.Seq.{take-length}
use Rattle.std.proofs.Common.{rules}
use native.Mathlib.Omega.{arith}
use Rattle.crc.proofs.AllTables.sixteen.Goals as goal

pub returns : goal.returns
returns c =
    let s = c.args.s.now in
    let e : length s ≡ 16 = search rules in
    let b : (i : ℕ) → get_or s i 0 < 256 = search rules in
    let all : take 16 (drop 0 s) ≡ s = ap (λ (k : ℕ). take k s) (sym e) ∙ take-length s in
    ap₂ bit_xor
    (c.word.ensures ∙ ap₂ (λ (x y : ℕ). steps 128 (bit_xor x y)) c.from.ensures c.at-2.ensures)
    (c.word-hi.ensures ∙ ap (steps 64) c.at.ensures)
    ∙ sym (two_words 8 8 c.args.c s 0 b (omega arith))
    ∙ ap (bytes c.args.c) all
