-- A number of places that is offered fits a byte, as the count does.
-- Assumes nothing.
use Prim.Native.Nat.{ℕ, ◌<◌}
use native.Mathlib.Omega.{arith}
use mathlib.Core.Path.{◌≡◌}
use mathlib.Core.Bool.{true}
use Rattle.answer.proofs.CheckLaws.{same_eq}
use Rattle.tzb_journal.specs.Journal.{offered}

pub offered_fits : (places : ℕ) → offered places ≡ true → places < 256
offered_fits places g = omega (arith, same_eq places 3 g)
