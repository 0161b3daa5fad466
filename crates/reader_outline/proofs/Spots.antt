-- Points that lie in numbers: those that were written as numbers, one by its place, one put at a place, and a part that is written anew.
-- Assumes nothing.
use Prim.Native.Nat.{ℕ, zero, suc, ◌+◌, ◌*◌, ◌≤◌, ◌<◌}
use native.Mathlib.Omega.{arith}
use mathlib.Core.Path.{◌≡◌, refl, sym, ap, ◌∙◌}
use mathlib.Core.List.{List, [], ◌∷◌, ◌++◌, append_assoc}
use lib.ListN.{length, take, set, get_or, length-append}
use lib.Seq.{take_at, length-take-le}
use lib.IntN.{ℤ, pos}
use Rattle.plane.specs.declared.I32Point.{I32Point}
use Rattle.plane.specs.Places.{point}
use Rattle.plane.specs.Lines.{origin}
use Rattle.chunks.specs.Decode.{flat}
use Rattle.reader_outline.specs.Held.{spots, points_in}

twice : (k : ℕ) → 2 * suc k ≡ suc (suc (2 * k))
twice k = omega arith

-- ---- what was written is read
spots_flat : (l : List I32Point) (r : List ℤ) → spots (flat l ++ r) ≡ l ++ spots r
unfolding spots points_in
spots_flat [] r = refl
spots_flat (q ∷ l) r = ap (λ (k : List I32Point). q ∷ k) (spots_flat l r)

pub points_flat : (l : List I32Point) (r : List ℤ) → points_in (flat l ++ r) (length l) ≡ l
unfolding spots points_in
points_flat l r = ap (take (length l)) (spots_flat l r) ∙ take_at l (spots r) (length l) refl

-- ---- how many
pub spots_room : (k : ℕ) (m : List ℤ) → 2 * k ≤ length m → k ≤ length (spots m)
unfolding spots points_in
spots_room zero m h = omega arith
spots_room (suc k) [] h = absurd (omega arith)
spots_room (suc k) (x ∷ []) h = absurd (omega arith)
spots_room (suc k) (x ∷ y ∷ m) h = let g = spots_room k m (omega arith) in omega arith

pub points_length : (k : ℕ) (m : List ℤ) → 2 * k ≤ length m → length (points_in m k) ≡ k
unfolding spots points_in
points_length k m h = length-take-le k (spots m) (spots_room k m h)

-- ---- a part written anew
spots_anew : (k : ℕ) (m w : List ℤ) → 2 * k ≤ length m → spots (take (2 * k) m ++ w) ≡ take k (spots m) ++ spots w
unfolding spots points_in
spots_anew zero m w h = refl
spots_anew (suc k) [] w h = absurd (omega arith)
spots_anew (suc k) (x ∷ []) w h = absurd (omega arith)
spots_anew (suc k) (x ∷ y ∷ m) w h = rw (twice k) (ap (λ (l : List I32Point). point x y ∷ l) (spots_anew k m w (omega arith)))

-- points written behind the first k
pub points_anew : (k : ℕ) (m : List ℤ) (l : List I32Point) (r : List ℤ) → 2 * k ≤ length m → points_in (take (2 * k) m ++ (flat l ++ r)) (k + length l) ≡ points_in m k ++ l
unfolding spots points_in
points_anew k m l r h =
    ap (take (k + length l)) (spots_anew k m (flat l ++ r) h ∙ ap (λ (b : List I32Point). take k (spots m) ++ b) (spots_flat l r) ∙ sym (append_assoc (take k (spots m)) l (spots r)))
    ∙ take_at (take k (spots m) ++ l) (spots r) (k + length l) (length-append (take k (spots m)) l ∙ ap (λ (n : ℕ). n + length l) (points_length k m h))

-- ---- one point
pub spot_is : (i : ℕ) (m : List ℤ) → 2 * i + 1 < length m → point (get_or m (2 * i) (pos 0)) (get_or m (2 * i + 1) (pos 0)) ≡ get_or (spots m) i origin
unfolding spots points_in
spot_is i [] h = absurd (omega arith)
spot_is i (x ∷ []) h = absurd (omega arith)
spot_is zero (x ∷ y ∷ m) h = refl
spot_is (suc i) (x ∷ y ∷ m) h =
    let e : 2 * suc i + 1 ≡ suc (suc (2 * i + 1)) = omega arith in
    rw (e, twice i) (spot_is i m (omega arith))

pub spot_put : (i : ℕ) (m : List ℤ) (x y : ℤ) → 2 * i + 1 < length m → spots (set (set m (2 * i) x) (2 * i + 1) y) ≡ set (spots m) i (point x y)
unfolding spots points_in
spot_put i [] u v h = absurd (omega arith)
spot_put i (x ∷ []) u v h = absurd (omega arith)
spot_put zero (x ∷ y ∷ m) u v h = refl
spot_put (suc i) (x ∷ y ∷ m) u v h =
    let e : 2 * suc i + 1 ≡ suc (suc (2 * i + 1)) = omega arith in
    rw (e, twice i) (ap (λ (l : List I32Point). point x y ∷ l) (spot_put i m u v (omega arith)))
