-- What the two loops keep: the offset that is asked of the next chunk, and a sum of point counts.
-- Assumes nothing.
use Prim.Native.Nat.{ℕ, suc, ◌+◌, ◌-◌, ◌≤◌, ◌<◌}
use native.Mathlib.Omega.{arith}
use native.Mathlib.Numerals.{add-one}
use mathlib.Core.Path.{◌≡◌, refl, sym, ap, ◌∙◌}
use mathlib.Core.List.{List}
use Rattle.answer.specs.Answers.{Check}
use Rattle.opened.specs.declared.Directory.{Directory}
use Rattle.reader_records.specs.declared.ChunkRecord.{ChunkRecord}
use Rattle.reader_records.specs.declared.GroupRecord.{GroupRecord}
use Rattle.reader_dirs.specs.Dirs.{least_off, chunk_of, group_of, chunk_check, chunk_check_at, group_check, group_check_at}
use Rattle.basics.specs.Total.{total}

-- with `sum` added so far, the whole is m
pub total_start : (f : ℕ → ℕ) (n i : ℕ) → 0 + total f (n - i) i ≡ total f (n - i) i
total_start f n i = omega arith

pub total_next : (f : ℕ → ℕ) (n i sum x m : ℕ) → sum + total f (n - i) i ≡ m → i < n → x ≡ f i → sum + x + total f (n - (i + 1)) (i + 1) ≡ m
unfolding total
total_next f n i sum x m v h ex =
    let g : n - i ≡ suc (n - (i + 1)) = omega arith in
    let w : sum + (f i + total f (n - (i + 1)) (i + 1)) ≡ m = rw g at v in
    omega arith

pub total_end : (f : ℕ → ℕ) (n i sum m : ℕ) → sum + total f (n - i) i ≡ m → n ≤ i → sum ≡ m
unfolding total
total_end f n i sum m v h =
    let e : n - i ≡ 0 = omega arith in
    let w : sum + 0 ≡ m = rw e at v in
    omega arith

-- the sum over a group's chunks, by where they begin and how many they are
pub total_is : (f : ℕ → ℕ) (from to count a n sum : ℕ) → sum ≡ total f (to - from) from → to ≡ from + count → from ≡ a → count ≡ n → sum ≡ total f n a
total_is f from to count a n sum h et ef en =
    let e : to - from ≡ n = omega arith in
    rw (e, ef) at h

-- the chunk after one is asked to be above it
pub least_first : (s : List ℕ) (d : Directory) → 0 ≡ least_off s d 0
unfolding least_off
least_first s d = refl

pub least_next : (s : List ℕ) (d : Directory) (i x : ℕ) (v : ChunkRecord) → x ≡ v.off → v ≡ chunk_of s d i → x + 1 ≡ least_off s d (i + 1)
unfolding least_off
least_next s d i x v e g = rw (add-one i) (ap (λ (y : ℕ). y + 1) (e ∙ ap (λ (u : ChunkRecord). u.off) g))

-- a check made of a record that was read, with the offset that was kept, is that record's check
pub chunk_checked : (s : List ℕ) (d : Directory) (points i least : ℕ) (v : ChunkRecord) (a : Check)
    → v ≡ chunk_of s d i → least ≡ least_off s d i → a ≡ chunk_check v points least → chunk_check_at s d points i ≡ a
unfolding chunk_check_at
chunk_checked s d points i least v a e g h = rw (← e, ← g) (sym h)

pub group_checked : (s : List ℕ) (g d : Directory) (i : ℕ) (v : GroupRecord) (a : Check) → v ≡ group_of s g i → a ≡ group_check s d v → group_check_at s g d i ≡ a
unfolding group_check_at
group_checked s g d i v a e h = rw (← e) (sym h)
