-- Document 01's delta sum ("Chunk bytes"): a delta added to the coordinate before it.
-- Assumes nothing.
use Rattle.std.specs.Prelude.{Bool, ◌&&◌, ℤ, pos, negsuc, ◌+ℤ◌}
use Rattle.std.specs.Int.Signed.{le_z}
use Rattle.answer.specs.Answers.{Answer, ok, need}

-- within i32
unfoldable pub fits32 : ℤ → Bool
fits32 z = le_z (negsuc 2_147_483_647) z && le_z z (pos 2_147_483_647)

-- a delta added to the coordinate before it: a sum outside i32 is 41
unfoldable pub add_delta : ℤ → ℤ → Answer ℤ
add_delta before delta = need 41 (fits32 (before +ℤ delta)) (ok (before +ℤ delta))
