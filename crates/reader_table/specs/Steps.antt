-- Nothing here need be believed: the code's own steps cite it, and no public promise does.
-- How `entries` finds which entries share no byte with an earlier one without a look at every pair: a map of the file with a bit for each unit of four bytes.
-- Assumes nothing.
use Rattle.std.specs.Prelude.{ℕ, ◌+◌, ◌*◌, ◌/◌, ◌%◌, ◌^◌, ◌≤◌, ◌<◌, List, ◌≡◌, length, get_or}
use Rattle.std.specs.Int.Bits.{bit_and, bit_or}
use Rattle.answer.specs.Answers.{fine}
use Rattle.answer.specs.Checks.{each}
use Rattle.reader_table.specs.Table.{off_at, len_at, apart_at, placed_check}
use Rattle.reader_table.specs.declared.units.Stride.{Stride}

-- the first n entries share no byte with an earlier one
pub record Settled (s : List ℕ) (n : ℕ) : Type 0 where
  pub apart_each : (i : ℕ) → i < n → each (apart_at s i) i 0 ≡ fine

-- 12 and 13 refuse none of the first n entries
pub record Placed (s : List ℕ) (n : ℕ) : Type 0 where
  pub placed_each : (i : ℕ) → i < n → placed_check s i ≡ fine

-- entry j has the first byte of unit u
pub record Has (s : List ℕ) (j u : ℕ) : Type 0 where
  pub starts : off_at s j ≤ 4 * u
  pub ends : 4 * u < off_at s j + len_at s j

-- of the first n entries, no two have a unit from lo up to hi in common
pub record Split (s : List ℕ) (n lo hi : ℕ) : Type 0 where
  pub split_each : (i j u : ℕ) → i < n → j < i → lo ≤ u → u < hi → Has s i u → Has s j u → ⊥

-- the bit of a unit in its byte of the map
unfoldable pub own : ℕ → ℕ
own k = 2 ^ (k % 8)

pub record Marked (m : List ℕ) (k : ℕ) : Type 0 where
  pub mark : 0 < bit_and (get_or m (k / 8) 0) (own k)

-- the bits of some units from k on, all in one byte
pub record Strides (k : ℕ) (r : Stride) : Type 0 where
  pub some : 0 < r.units
  pub few : r.units ≤ 8
  pub one_byte : (q : ℕ) → q < r.units → (k + q) / 8 ≡ k / 8
  pub has_bit : (q : ℕ) → q < r.units → bit_or (own (k + q)) r.bits ≡ r.bits

-- between two maps: no unit from one place to another was marked, all are now, and no mark is taken away
pub record Taken (m m' : List ℕ) (from to : ℕ) : Type 0 where
  pub free : (k : ℕ) → from ≤ k → k < to → Marked m k → ⊥
  pub held : (k : ℕ) → from ≤ k → k < to → Marked m' k
  pub kept : (k : ℕ) → Marked m k → Marked m' k

-- a unit's place in a window of so many units: its first place or its end, where the unit lies before it or behind it
pub record Clipped (u base size r : ℕ) : Type 0 where
  pub within : r ≤ size
  pub low : (k : ℕ) → u ≤ base + k → r ≤ k
  pub high : (k : ℕ) → base + k < u → k < size → k < r

-- the same for the units of entry i in the window that starts at unit base
pub record TakenBy (s : List ℕ) (i base : ℕ) (m m' : List ℕ) : Type 0 where
  pub was_free : (k : ℕ) → k < 8 * length m → Has s i (base + k) → Marked m k → ⊥
  pub is_held : (k : ℕ) → k < 8 * length m → Has s i (base + k) → Marked m' k
  pub still : (k : ℕ) → Marked m k → Marked m' k

-- every unit of the window that one of the first i entries has is marked
pub record MarkedBy (s : List ℕ) (i base : ℕ) (m : List ℕ) : Type 0 where
  pub marks : (j k : ℕ) → j < i → k < 8 * length m → Has s j (base + k) → Marked m k
