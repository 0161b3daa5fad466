use Rattle.std.proofs.Common.{◌≡◌, ℕ, ◌*◌, ◌<◌}
use Rattle.varints.proofs.Digits.{lim}
use Rattle.varints.specs.Steps.{rest}
use Rattle.tzb_core.proofs.varint.varint_slow.Given as goal

abbrev pub invariant-loop-at : goal.invariant-loop-at
invariant-loop-at l =
    (k : ℕ) × (l.unit * lim k ≡ 0x1_0000_0000) × (l.n < l.unit) × (rest l.n l.unit k l.s l.at ≡ rest l.low 16384 2 l.s l.from)
