-- The next float upward, from the bits: Rust's `f64::next_up`, written out.
-- Assumes nothing.
use Rattle.std.specs.Prelude.{cond, ℕ, ◌+◌, ◌-◌, ltb, eqb, Float}
use Rattle.std.specs.Float.{binary64}
use Rattle.std.specs.Float.Ieee.{to_bits, of_bits, ne}

-- the next pattern: from either zero to the least number above it; up from a number above zero, and down from one below, since patterns hold sign and size
abbrev pub step_of : ℕ → ℕ
step_of b = cond (eqb b 0) 1 (cond (eqb b 0x8000_0000_0000_0000) 1 (cond (ltb b 0x8000_0000_0000_0000) (b + 1) (b - 1)))

-- not a number stays as it is, and so does the infinity above, whose pattern is 0x7ff0_0000_0000_0000
unfoldable pub next_up : Float → Float
next_up x = cond (ne x x) x (cond (eqb (to_bits binary64 x) 0x7ff0_0000_0000_0000) x (of_bits binary64 (step_of (to_bits binary64 x))))
