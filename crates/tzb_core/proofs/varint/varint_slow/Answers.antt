-- `varint::varint_slow` meets its contract. The loop's invariant: what is left to read, below it what was read, is the number; the unit with the digits left makes 32 bits.
-- Assumes nothing.
use Rattle.std.proofs.Common.{◌≡◌, ℕ, ◌+◌, ◌-◌, ◌*◌, ◌<◌, ◌≤◌, false, ◌&&◌, nat_eq, nat_lt, refl, ◌∙◌, arith}
use Rattle.varints.proofs.Digits.{rest_out, rest_more, lim, lim_down, room, unit_fits, turn_high, turn_zero, turn_end, turn_fits, turn_more}
use Rattle.tzb_core.proofs.varint.varint_slow.Goals as goal

-- a byte b that is none too large and has a digit to follow: the next unit is at most the fifth digit's, and the sum is below it
on_fits : (n u k b : ℕ) → u * lim k ≡ 0x1_0000_0000 → n < u → (nat_eq u 0x1000_0000 && nat_lt 15 b) ≡ false → 128 ≤ b → b < 256
    → (u * 128 ≤ 0x1000_0000) × (n + u * (b - 128) < u * 128)
on_fits n u k b w i o l h =
    let m = turn_more u k b w o l in
    (unit_fits u k m w, room u k m w n (b - 128) i (omega arith))

pub loop-at-init : goal.loop-at-init
loop-at-init c = (2, refl, c.requires, refl)

pub returns-then-unit-b : goal.returns-then-unit-b
returns-then-unit-b c =
    let l = c.loop-at in
    c.fail.ensures
    ∙ turn_high _ _ _ _ _ c.loop-at-test.true refl _ l.invariant.1 c.if-unit-b.true
    ∙ l.invariant.3

pub returns-then-b-eq0 : goal.returns-then-b-eq0
returns-then-b-eq0 c =
    let l = c.loop-at in
    c.fail-then-b-eq0.ensures
    ∙ turn_zero _ _ _ _ _ c.loop-at-test.true refl _ l.invariant.1 c.if-unit-b.false c.if-b-lt128.true c.if-b-eq0.true
    ∙ l.invariant.3

pub overflow_mul-result : goal.overflow_mul-result
overflow_mul-result c =
    let l = c.loop-at in
    omega (arith, turn_fits l.n l.unit l.invariant.0 _ l.invariant.1 l.invariant.2 c.if-unit-b.false c.if-b-lt128.true)

pub overflow_add-result : goal.overflow_add-result
overflow_add-result c =
    let l = c.loop-at in
    omega (arith, turn_fits l.n l.unit l.invariant.0 _ l.invariant.1 l.invariant.2 c.if-unit-b.false c.if-b-lt128.true)

pub returns-then-b-lt128 : goal.returns-then-b-lt128
returns-then-b-lt128 c =
    let l = c.loop-at in
    turn_end _ _ _ _ _ c.loop-at-test.true refl _ l.invariant.1 c.if-unit-b.false c.if-b-lt128.true c.if-b-eq0.false
    ∙ l.invariant.3

pub overflow_mul-n : goal.overflow_mul-n
overflow_mul-n c =
    let l = c.loop-at in
    omega (arith, on_fits l.n l.unit l.invariant.0 _ l.invariant.1 l.invariant.2 c.if-unit-b.false c.if-b-lt128.false (omega arith))

pub overflow_add-n : goal.overflow_add-n
overflow_add-n c =
    let l = c.loop-at in
    omega (arith, on_fits l.n l.unit l.invariant.0 _ l.invariant.1 l.invariant.2 c.if-unit-b.false c.if-b-lt128.false (omega arith))

pub overflow_mul-unit : goal.overflow_mul-unit
overflow_mul-unit c =
    let l = c.loop-at in
    omega (arith, on_fits l.n l.unit l.invariant.0 _ l.invariant.1 l.invariant.2 c.if-unit-b.false c.if-b-lt128.false (omega arith))

pub loop-at-preserved : goal.loop-at-preserved
loop-at-preserved c =
    let l = c.loop-at in
    let m = turn_more l.unit l.invariant.0 _ l.invariant.1 c.if-unit-b.false c.if-b-lt128.false in (
      l.invariant.0 - 1,
      lim_down l.unit l.invariant.0 m l.invariant.1,
      (on_fits l.n l.unit l.invariant.0 _ l.invariant.1 l.invariant.2 c.if-unit-b.false c.if-b-lt128.false (omega arith)).1,
      rest_more _ _ _ _ _ c.loop-at-test.true refl _ m c.if-b-lt128.false ∙ l.invariant.3,
    )

pub returns : goal.returns
returns c = c.fail-2.ensures ∙ rest_out _ _ _ _ _ c.loop-at-test.false ∙ c.loop-at.invariant.3
