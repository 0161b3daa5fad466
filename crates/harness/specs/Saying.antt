-- An answer as a list writes it: 0 and three numbers, or a refusal, whose number is not 0.
-- Assumes nothing.
use Rattle.std.specs.Prelude.{ℕ, ◌-◌, ◌≤◌, ◌≡◌, List, length, Option, Some, None}
use Rattle.fields.specs.Le.{le}
use Rattle.harness.specs.declared.said.Said.{Said}

abbrev pub said : ℕ → ℕ → ℕ → ℕ → Said
said a x y z = record { 0 = a; 1 = x; 2 = y; 3 = z }

-- 1 and the zone, or 0 for none
abbrev pub zone_said : Option ℕ → Said
zone_said None = said 0 0 0 0
zone_said (Some z) = said 0 1 z 0

-- a question that ends with four numbers, of which the first is 0, so no refusal, and the second that count
abbrev pub Counts : ℕ → List ℕ → Type 0
Counts n q = (16 ≤ length q) × (le 4 q (length q - 16) ≡ 0) × (n ≡ le 4 q (length q - 12))
