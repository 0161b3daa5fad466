-- Tests of several parts: what it takes for all to pass, and what follows where they did.
-- Assumes nothing.
use Rattle.std.specs.Prelude.{◌≡◌, refl, Bool, true, false, ◌&&◌}
use Rattle.std.proofs.lemmas.Bool.{false≢true}

-- of two
pub and_i : (a b : Bool) → a ≡ true → b ≡ true → a && b ≡ true
and_i true b h k = k
and_i false b h k = h

pub and_l : (a b : Bool) → a && b ≡ true → a ≡ true
and_l true b h = refl
and_l false b h = absurd (false≢true h)

pub and_r : (a b : Bool) → a && b ≡ true → b ≡ true
and_r true b h = h
and_r false b h = absurd (false≢true h)

-- of three
pub and3 : (a b c : Bool) → a && b && c ≡ true → (a ≡ true) × (b ≡ true) × (c ≡ true)
and3 true true c h = (refl, refl, h)
and3 true false c h = absurd (false≢true h)
and3 false b c h = absurd (false≢true h)

-- of four
pub and4 : (a b c d : Bool) → a && b && c && d ≡ true → (a ≡ true) × (b ≡ true) × (c ≡ true) × (d ≡ true)
and4 true true true d h = (refl, refl, refl, h)
and4 true true false d h = absurd (false≢true h)
and4 true false c d h = absurd (false≢true h)
and4 false b c d h = absurd (false≢true h)

pub and4_i : (a b c d : Bool) → a ≡ true → b ≡ true → c ≡ true → d ≡ true → a && b && c && d ≡ true
and4_i a b c d h k l m = and_i (a && b && c) d (and_i (a && b) c (and_i a b h k) l) m
