-- The map: a bit set stays set, and what setting the bits of some units comes to.
-- Assumes nothing.
use Prim.Native.Nat.{ℕ, zero, suc, ◌+◌, ◌-◌, ◌*◌, ◌/◌, ◌%◌, ◌^◌, ◌≤◌, ◌<◌, min, max}
use native.Mathlib.Nat.{mod-eq_of_lt, le_trans, not-suc-le-zero}
use native.Mathlib.Omega.{arith}
use mathlib.Core.Bool.{Bool, true, false}
use mathlib.Core.List.{List}
use mathlib.Core.Path.{◌≡◌, refl, sym, ap, subst, ◌∙◌}
use lib.ListN.{length, get_or, set}
use lib.Seq.{get_or-set_same, get_or-set_other}
use lib.Arith.{bin_ind}
use lib.Pow.{pow_pos, pow-lt}
use lib.Bits.{bit_and, bit_or, and_step, or_step, and_comm, or_comm, and_self, or_self, and_zero_r}
use lib.Dec.{eqb, leb}
use borrow.Author.Tests.{eqb-true, eqb-false, leb-true, leb-false}
use Rattle.reader_table.specs.declared.units.Stride.{Stride}
use Rattle.reader_table.specs.Steps.{own, Marked, Strides, Taken}

-- ---- bits

low_digit : (o p d : ℕ) → d < 2 → o ≡ p * 2 + d → (o / 2 ≡ p) × (o % 2 ≡ d)
low_digit o p d h e = (omega arith, omega arith)

max_small : (a c : ℕ) → a < 2 → c < 2 → max a c < 2
max_small a c h g = omega arith

grown : (x y a b d f : ℕ) → a ≤ b → x ≡ a * 2 + d → y ≡ b * 2 + f → d ≤ f → x ≤ y
grown x y a b d f h ex ey g = omega arith

min_grows : (a c d : ℕ) → min a d ≤ min (max a c) d
min_grows a c d = omega arith

-- with more bits set, no common bit is lost
pub and_grows : (b x y : ℕ) → bit_and x b ≤ bit_and (bit_or x y) b
and_grows =
    bin_ind (λ (b : ℕ). (x y : ℕ) → bit_and x b ≤ bit_and (bit_or x y) b)
    (λ x y. subst (λ (z : ℕ). z ≤ bit_and (bit_or x y) 0) (sym (and_zero_r x)) (omega arith))
    (λ n ih x y.
    let l = low_digit (bit_or x y) (bit_or (x / 2) (y / 2)) (max (x % 2) (y % 2)) (max_small (x % 2) (y % 2) (omega arith) (omega arith)) (or_step x y) in
    grown (bit_and x n) (bit_and (bit_or x y) n) (bit_and (x / 2) (n / 2)) (bit_and (bit_or (x / 2) (y / 2)) (n / 2)) (min (x % 2) (n % 2)) (min (max (x % 2) (y % 2)) (n % 2))
    (ih (x / 2) (y / 2))
    (and_step x n)
    (and_step (bit_or x y) n ∙ ap (λ (z : ℕ). bit_and z (n / 2) * 2 + min (bit_or x y % 2) (n % 2)) l.0 ∙ ap (λ (z : ℕ). bit_and (bit_or (x / 2) (y / 2)) (n / 2) * 2 + min z (n % 2)) l.1)
    (min_grows (x % 2) (y % 2) (n % 2)))

pub own_small : (k : ℕ) → own k < 256
unfolding own
own_small k = pow-lt {i = k % 8} {j = 8} (omega arith)

pub own_some : (k : ℕ) → 0 < own k
unfolding own
own_some k = pow_pos (k % 8)

pub own_is : (k : ℕ) → (1 * 2 ^ (k % 8)) % 256 ≡ own k
unfolding own
own_is k =
    let h = own_small k in
    let e : 1 * 2 ^ (k % 8) ≡ 2 ^ (k % 8) = omega arith in
    rw e (mod-eq_of_lt h)

-- every unit's bit is one of the eight
eight : (q : ℕ) → q < 8 → bit_or (2 ^ q) 255 ≡ 255
eight zero h = refl
eight (suc zero) h = refl
eight (suc (suc zero)) h = refl
eight (suc (suc (suc zero))) h = refl
eight (suc (suc (suc (suc zero)))) h = refl
eight (suc (suc (suc (suc (suc zero))))) h = refl
eight (suc (suc (suc (suc (suc (suc zero)))))) h = refl
eight (suc (suc (suc (suc (suc (suc (suc zero))))))) h = refl
eight (suc (suc (suc (suc (suc (suc (suc (suc q)))))))) h = absurd (omega arith)

pub own_in_all : (k : ℕ) → bit_or (own k) 255 ≡ 255
unfolding own
own_in_all k = eight (k % 8) (omega arith)

pub all_bits : (k : ℕ) → k % 8 ≡ 0 → Strides k (record { bits = 255; units = 8 })
all_bits k e = record {
  some = omega arith;
  few = omega arith;
  one_byte = λ q h. omega arith;
  has_bit = λ q h. own_in_all (k + q);
}

pub one_bit : (k bits : ℕ) → bits ≡ own k → Strides k (record { bits = bits; units = 1 })
one_bit k bits e = record {
  some = omega arith;
  few = omega arith;
  one_byte = λ q h. omega arith;
  has_bit = λ q h. same q (omega arith);
}
  where
    same : (q : ℕ) → q ≡ 0 → bit_or (own (k + q)) bits ≡ bits
    same q z =
        let d : k + q ≡ k = omega arith in
        rw (d, ← e) (or_self bits)

-- p is one of the bits
module _ (old bits p : ℕ) (e : bit_or p bits ≡ bits) where
  held_bit : 0 < p → 0 < bit_and (bit_or old bits) p
  held_bit h =
      let a = and_grows p p bits in
      let b = and_grows p bits old in
      let a' : p ≤ bit_and bits p = subst (λ (z : ℕ). z ≤ bit_and bits p) (and_self p) (subst (λ (z : ℕ). bit_and p p ≤ bit_and z p) e a) in
      let b' : bit_and bits p ≤ bit_and (bit_or old bits) p = subst (λ (z : ℕ). bit_and bits p ≤ bit_and z p) (or_comm bits old) b in
      le_trans h (le_trans a' b')

  free_bit : bit_and old bits ≡ 0 → 0 < bit_and old p → ⊥
  free_bit z h =
      let a : bit_and p old ≤ bit_and bits old = subst (λ (y : ℕ). bit_and p old ≤ bit_and y old) e (and_grows old p bits) in
      let b : bit_and old p ≤ 0 = subst (λ (y : ℕ). y ≤ 0) (and_comm p old) (subst (λ (y : ℕ). bit_and p old ≤ y) (and_comm bits old ∙ z) a) in
      not-suc-le-zero (le_trans h b)

-- ---- marks

module _ (m : List ℕ) (b bits x : ℕ) (h : b < length m) where
  in_byte : x / 8 ≡ b → get_or (set m b (bit_or (get_or m b 0) bits)) (x / 8) 0 ≡ bit_or (get_or m (x / 8) 0) bits
  in_byte e = rw e (get_or-set_same m b (bit_or (get_or m b 0) bits) 0 h)

  keeps : Marked m x → Marked (set m b (bit_or (get_or m b 0) bits)) x
  keeps k = go (eqb (x / 8) b) refl
    where
      go : (t : Bool) → eqb (x / 8) b ≡ t → Marked (set m b (bit_or (get_or m b 0) bits)) x
      go true e =
          record { mark = subst (λ (z : ℕ). 0 < bit_and z (own x)) (sym (in_byte (eqb-true (x / 8) b e))) (le_trans k.mark (and_grows (own x) (get_or m (x / 8) 0) bits)) }
      go false e =
          record { mark = subst (λ (z : ℕ). 0 < bit_and z (own x)) (sym (get_or-set_other m b (x / 8) (bit_or (get_or m b 0) bits) 0 (eqb-false (x / 8) b e))) k.mark }

-- ---- the units taken so far

pub take_none : (m : List ℕ) (from : ℕ) → Taken m m from from
take_none m from = record {
  free = λ k h g. absurd (omega arith);
  held = λ k h g. absurd (omega arith);
  kept = λ k z. z;
}

module _ (m₀ m : List ℕ) (from k : ℕ) (c : Taken m₀ m from k) (t : Stride) (d : Strides k t) (h : k / 8 < length m)
    (z : bit_and (get_or m (k / 8) 0) t.bits ≡ 0) where
  byte : (x : ℕ) → k ≤ x → x < k + t.units → (x / 8 ≡ k / 8) × (bit_or (own x) t.bits ≡ t.bits)
  byte x l g =
      let e : k + (x - k) ≡ x = omega arith in
      (subst (λ (y : ℕ). y / 8 ≡ k / 8) e (d.one_byte (x - k) (omega arith)), subst (λ (y : ℕ). bit_or (own y) t.bits ≡ t.bits) e (d.has_bit (x - k) (omega arith)))

  new_free : (x : ℕ) → k ≤ x → x < k + t.units → Marked m₀ x → ⊥
  new_free x l g q =
      let y = byte x l g in
      free_bit (get_or m (k / 8) 0) t.bits (own x) y.1 z (subst (λ (v : ℕ). 0 < bit_and (get_or m v 0) (own x)) y.0 (c.kept x q).mark)

  new_held : (x : ℕ) → k ≤ x → x < k + t.units → Marked (set m (k / 8) (bit_or (get_or m (k / 8) 0) t.bits)) x
  new_held x l g =
      let y = byte x l g in
      record { mark = subst (λ (v : ℕ). 0 < bit_and v (own x)) (sym (in_byte m (k / 8) t.bits x h y.0)) (held_bit (get_or m (x / 8) 0) t.bits (own x) y.1 (own_some x)) }

  pub take_on : Taken m₀ (set m (k / 8) (bit_or (get_or m (k / 8) 0) t.bits)) from (k + t.units)
  take_on = record {
    free = λ x l g. free_at x l g (leb k x) refl;
    held = λ x l g. held_at x l g (leb k x) refl;
    kept = λ x q. keeps m (k / 8) t.bits x h (c.kept x q);
  }
    where
      free_at : (x : ℕ) → from ≤ x → x < k + t.units → (v : Bool) → leb k x ≡ v → Marked m₀ x → ⊥
      free_at x l g true e = new_free x (leb-true k x e) g
      free_at x l g false e = c.free x l (leb-false k x e)

      held_at : (x : ℕ) → from ≤ x → x < k + t.units → (v : Bool) → leb k x ≡ v → Marked (set m (k / 8) (bit_or (get_or m (k / 8) 0) t.bits)) x
      held_at x l g true e = new_held x (leb-true k x e) g
      held_at x l g false e = keeps m (k / 8) t.bits x h (c.held x l (leb-false k x e))

pub take_end : (m m' : List ℕ) (from k to : ℕ) → Taken m m' from k → to ≤ k → Taken m m' from to
take_end m m' from k to c h = record {
  free = λ x l g. c.free x l (omega arith);
  held = λ x l g. c.held x l (omega arith);
  kept = c.kept;
}
