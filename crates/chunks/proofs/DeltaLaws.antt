-- Laws of specs/Delta, as proofs cite them. Nothing here need be believed.
-- Assumes nothing.
use mathlib.Core.Path.{◌≡◌}
use mathlib.Core.Bool.{true, false}
use lib.IntN.{ℤ, ◌+ℤ◌}
use Rattle.answer.specs.Answers.{ok, no}
use Rattle.chunks.specs.Delta.{fits32, add_delta}

pub sum_fits : (before delta z : ℤ) → z ≡ before +ℤ delta → fits32 z ≡ true → ok z ≡ add_delta before delta
unfolding add_delta
sum_fits before delta z e h = rw (← e, h)

pub sum_over : (before delta : ℤ) → fits32 (before +ℤ delta) ≡ false → no 41 ≡ add_delta before delta
unfolding add_delta
sum_over before delta h = rw h
