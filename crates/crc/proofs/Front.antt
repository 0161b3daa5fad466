-- The tables, filled from the front.
-- Assumes nothing.
use mathlib.Core.Path.{◌≡◌, refl, sym, ap, ap₂, ◌∙◌, subst}
use mathlib.Core.List.{List}
use mathlib.Core.Logic.{◌⊎◌, inl, inr}
use Prim.Native.Nat.{ℕ, ◌^◌, ◌+◌, ◌-◌, ◌*◌, ◌/◌, ◌%◌, ◌≤◌, ◌<◌}
use native.Mathlib.Nat.{eq-or-lt_of_le, one-mul, pow-suc}
use native.Mathlib.Numerals.{add-one}
use native.Mathlib.Omega.{arith}
use lib.Bits.{bit_xor, xor_comm, xor_shifted}
use lib.Pow.{pow_mono}
use lib.ListN.{length, get_or, set, length-set}
use lib.Seq.{get_or-set_same, get_or-set_other}
use Rattle.checksum.specs.Crc32.{step, steps, entry, Filled}
use Rattle.checksum.proofs.Linear.{steps_linear, steps_add, steps_split}
use Rattle.crc.specs.Steps.{First}

-- a rule that holds of the entries below i, at one more
one_more : (f : ℕ → ℕ) (t : List ℕ) (i v : ℕ) → i < length t → ((j : ℕ) → j < i → get_or t j 0 ≡ f j) → v ≡ f i
    → (j : ℕ) → j < i + 1 → get_or (set t i v) j 0 ≡ f j
one_more f t i v h below e j l = go (eq-or-lt_of_le {n = j} {m = i} (omega arith))
  where
    go : (j ≡ i) ⊎ (j < i) → get_or (set t i v) j 0 ≡ f j
    go (inl q) = ap (λ (k : ℕ). get_or (set t i v) k 0) q ∙ get_or-set_same t i v 0 h ∙ e ∙ ap f (sym q)
    go (inr k) = get_or-set_other t i j v 0 (omega arith) ∙ below j k

-- ---- the first table

pub wider : (t : List ℕ) (i v : ℕ) → i < 256 → First t i → v ≡ steps 8 i → First (set t i v) (i + 1)
wider t i v h f e =
    let r = f.room in
    record { room = simp length-set r; at = one_more (steps 8) t i v (omega arith) f.at e }

zero_stays : 0 ≡ steps 8 0
unfolding steps step
zero_stays = refl

pub begun : (t : List ℕ) → 256 ≤ length t → First (set t 0 0) 1
begun t h = wider t 0 0 (omega arith) (record { room = h; at = λ j l. absurd (omega arith) }) zero_stays

-- the bit of 2 ^ k is none of those below it
apart : (k j : ℕ) → j < 2 ^ k → bit_xor (2 ^ k) j ≡ 2 ^ k + j
apart k j h =
    let q : 2 ^ k ≡ 1 * 2 ^ k = sym (one-mul (2 ^ k)) in
    ap (λ (x : ℕ). bit_xor x j) q ∙ xor_shifted 1 k j h ∙ ap (λ (x : ℕ). x + j) (sym q)

pub one_shifted : (k : ℕ) → k < 8 → 1 * 2 ^ k % 18446744073709551616 ≡ 2 ^ k
one_shifted k h = let most : 2 ^ k ≤ 2 ^ 7 = pow_mono {j = 7} (omega arith) in omega (arith, most)

-- an entry from the one 2 ^ k places before it, and the one at 2 ^ k, x
pub doubles : (t : List ℕ) (k j p x : ℕ) → k < 8 → p ≡ 2 ^ k → j < p → First t (2 ^ k + j) → x ≡ steps 8 p → First (set t (p + j) (bit_xor x (get_or t j 0))) (2 ^ k + (j + 1))
doubles t k j p x few e h f g =
    let l : j < 2 ^ k = subst (λ (z : ℕ). j < z) e h in
    let d : x ≡ steps 8 (2 ^ k) = g ∙ ap (steps 8) e in
    let v : bit_xor x (get_or t j 0) ≡ steps 8 (2 ^ k + j) = ap₂ bit_xor d (f.at j (omega arith)) ∙ sym (steps_linear 8 (2 ^ k) j) ∙ ap (steps 8) (apart k j l) in
    let most : 2 ^ k ≤ 2 ^ 7 = pow_mono {j = 7} (omega arith) in
    let n : 2 ^ k + j + 1 ≡ 2 ^ k + (j + 1) = omega arith in
    rw e (subst (First _) n (wider t (2 ^ k + j) _ (omega arith) f v))

pub twice : (k : ℕ) → 2 ^ k + 2 ^ k ≡ 2 ^ (k + 1)
twice k = omega (arith, pow-suc 2 k, ap (λ (i : ℕ). 2 ^ i) (add-one k))

-- ---- all tables

-- the first table's entries
pub first : (i : ℕ) → i < 256 → steps 8 i ≡ entry i
first i h =
    let q : 8 ≡ 8 * (i / 256 + 1) = omega arith in
    let r : i ≡ i % 256 = omega arith in
    ap₂ steps q r

-- they begin with the first
pub front : (t : List ℕ) → Filled t 4096 → First t 256
front t f = let e = f.size in record { room = omega arith; at = λ j h. f.at j (omega arith) ∙ sym (first j h) }

pub back : (t : List ℕ) → length t ≡ 4096 → First t 256 → Filled t 256
back t e f = record { size = e; at = λ j h. f.at j h ∙ first j h }

pub more : (t : List ℕ) (i v : ℕ) → i < 4096 → Filled t i → v ≡ entry i → Filled (set t i v) (i + 1)
more t i v h f e =
    let s = f.size in
    record { size = simp length-set s; at = one_more entry t i v (omega arith) f.at e }

-- an entry from the one 256 places before it, x, and the first table's entry, y
pub later : (t : List ℕ) (i x y : ℕ) → 256 ≤ i → Filled t i → x ≡ get_or t (i - 256) 0 → y ≡ get_or t (x % 256) 0 → bit_xor y (x / 256) ≡ entry i
later t i x y h f e g =
    let q : 8 * ((i - 256) / 256 + 1) + 8 ≡ 8 * (i / 256 + 1) = omega arith in
    let r : (i - 256) % 256 ≡ i % 256 = omega arith in
    ap (λ (z : ℕ). bit_xor z (x / 256)) (g ∙ f.at (x % 256) (omega arith) ∙ sym (first (x % 256) (omega arith)))
    ∙ xor_comm (steps 8 (x % 256)) (x / 256)
    ∙ sym (steps_split 8 x)
    ∙ ap (steps 8) (e ∙ f.at (i - 256) (omega arith))
    ∙ sym (steps_add (8 * ((i - 256) / 256 + 1)) 8 ((i - 256) % 256)) ∙ ap₂ steps q r

-- the entry x of table k
pub row : (t : List ℕ) (k x : ℕ) → Filled t 4096 → k < 16 → x < 256 → get_or t (256 * k + x) 0 ≡ steps (8 * (k + 1)) x
row t k x f h l =
    let q : 8 * ((256 * k + x) / 256 + 1) ≡ 8 * (k + 1) = omega arith in
    let r : (256 * k + x) % 256 ≡ x = omega arith in
    f.at (256 * k + x) (omega arith) ∙ ap₂ steps q r
