-- What the code answers where a map is asked for is what is drawn: two answers that tell the same are the same.
-- Assumes nothing.
use Prim.Native.Nat.{ℕ}
use mathlib.Core.Path.{◌≡◌, sym, ◌∙◌}
use Rattle.std.specs.declared.result.Result.{Result}
use Rattle.replies.specs.declared.Fault.{Fault}
use Rattle.replies.specs.Replies.{Drawn}

pub one_drawing : (a b : Result ℕ Fault) (x : Drawn ℕ) → a ≡ x → b ≡ x → a ≡ b
one_drawing a b x e f = e ∙ sym f
