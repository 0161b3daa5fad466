-- What the code says of a segment is what is seen of it: two values of the enum that tell the same are the same.
-- Assumes nothing.
use mathlib.Core.Path.{◌≡◌, sym, ◌∙◌}
use Rattle.plane.specs.declared.Seen.{Seen}
use Rattle.plane.specs.Sight.{Sight}

pub one_seen : (a b : Seen) (x : Sight) → a ≡ x → b ≡ x → a ≡ b
one_seen a b x e f = e ∙ sym f
