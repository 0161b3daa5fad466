-- `answer::Refusal::counted_from` meets its contract: a sum that 64 bits do not hold is told as their greatest number, which is no place.
-- Assumes nothing.
use Prim.Native.Nat.{ℕ, ◌+◌, min}
use native.Mathlib.Omega.{arith}
use mathlib.Core.Path.{◌≡◌, ap}
use Rattle.answer.specs.Refusals.{no_place, placed_at, counted_from}
use Rattle.answer.proofs.Refusal.counted_from.Goals as goal

pub returns : goal.returns
unfolding counted_from
returns c =
    let e : c.saturating_add.result ≡ min (c.args.before + c.args.self.place) no_place = omega (arith, c.saturating_add.ensures) in
    ap (λ (p : ℕ). placed_at p c.args.self) e
