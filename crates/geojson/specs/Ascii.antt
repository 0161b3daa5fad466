-- The bytes of a text whose characters are ASCII: each character's number.
-- Assumes nothing.
use Rattle.std.specs.Prelude.{ℕ, List, [], ◌∷◌}
use Prim.Native.Char.{code}
use Prim.Native.String.{String, [] as none, ◌∷◌ as ◌before◌}

abbrev pub ascii : String → List ℕ
ascii none = []
ascii (c before s) = code c ∷ ascii s
