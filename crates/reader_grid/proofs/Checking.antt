-- Laws of opening's checks of GRID, as the proofs of the code want them.
-- Assumes nothing.
use Prim.Native.Nat.{ℕ, ◌+◌, ◌*◌, ◌≤◌, ◌<◌}
use native.Mathlib.Omega.{arith}
use native.Mathlib.Nat.{mul-le-mul}
use mathlib.Core.Path.{◌≡◌}
use Rattle.answer.specs.Answers.{fine}
use Rattle.answer.proofs.CheckLaws.{fine_claim, at_le}
use Rattle.reader_grid.specs.Word.{word_count, word_offset, range_check}

pub area_fits : (a b : ℕ) → a < 65_536 → b < 65_536 → a * b < 4_294_967_296
area_fits a b h k =
    let x : a ≤ 65_535 = omega arith in
    let y : b ≤ 65_535 = omega arith in
    let p : a * b ≤ 65_535 * 65_535 = mul-le-mul x y in
    omega arith

pub ranged : (w total : ℕ) → range_check w total ≡ fine → word_offset w + word_count w ≤ total
unfolding range_check
ranged w total e = at_le _ _ (fine_claim _ _ e)
