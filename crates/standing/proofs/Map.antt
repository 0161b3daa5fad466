-- A file that opens and of which no rule is broken is ready to be drawn from.
-- Assumes nothing.
use Prim.Native.Nat.{ℕ}
use mathlib.Core.Path.{◌≡◌}
use mathlib.Core.List.{List}
use Rattle.answer.specs.Answers.{ok}
use Rattle.opened.specs.declared.Opened.{Opened}
use Rattle.reader_check.specs.FullCheck.{lowest_broken}
use Rattle.reader_outline.specs.Told.{Ready}
use Rattle.tzb.specs.Opening.{open_of}
use Rattle.tzb_map.proofs.MapLaws as M
use Rattle.tzb_map.proofs.MapLaws.{accepted_is}

-- ---- what is drawn of, the full check has accepted
pub is_ready : (file : List ℕ) (o : Opened) → ok o ≡ open_of file → (n : ℕ) → n ≡ lowest_broken o file → n ≡ 0 → Ready o file
is_ready file o e n h z = M.is_ready file o (accepted_is file o e n h z)
