-- The code's floor: a float without its fraction, less 1 where that is above the float, is the floor of the definition.
-- Assumes nothing.
use Rattle.std.proofs.Common.{◌≡◌, ℕ, zero, suc, ◌+◌, ◌-◌, ◌*◌, ◌/◌, ◌%◌, ◌^◌, ◌<◌, ◌≤◌, min, Bool, true, false, cond, ◌||◌, T, ltb, ℤ, pos, negsuc, ◌+ℤ◌, ◌-ℤ◌, neg_ℤ, nat_abs, sym, refl, ap, ◌∙◌, true≢false, mul-le-mul_right, mod-lt, mul-lt-mul_of_pos_right, div-add-mod', div-mul-le_self, le_of_mul-le-mul_right, arith, lt→ltb, w64, SFits, to_z, of_z, ltb-false, ltb-true, le-ltb, lt-ltb}
use native.Mathlib.Nat.{div-eq_of_lt-le, min-eq_left, zero-div}
use mathlib.Core.Bool.{false≢true}
use lib.Signed.{shr_z}
use mir.ValLaws.{to_z-of_z}
use lib.Ieee.{Float, nan, inf, fin, binary64, up, down, lt, le, eq, of_int, to_signed}
use lib.Ieee.Fits.{down_pos}
use lib.Ieee.Exact.{HasValue}
use lib.Ieee.Back.{round_whole}
use Rattle.floors.specs.Floor.{signed, floor_of}
use Rattle.basics.specs.Signed.{sum_abs, mag_le}
use Rattle.floors.specs.Steps.{Small}

-- ---- small numbers in 64 bits
fits_64 : (z : ℤ) → nat_abs z ≤ 9_000_001 → SFits w64 z
fits_64 z h = record { sfits = omega (arith, mag_le z) }

-- at most one more or less
module _ (z : ℤ) (k : nat_abs z ≤ 9_000_000) where
  same_in : to_z w64 (of_z w64 z) ≡ z
  same_in = to_z-of_z w64 z (fits_64 z (omega arith))

  moved_small : (d : ℤ) → nat_abs d ≤ 1 → nat_abs (z +ℤ d) ≤ 9_000_001
  moved_small d h = omega (arith, sum_abs z d)

  moved_fits : (d : ℤ) → nat_abs d ≤ 1 → SFits w64 (to_z w64 (of_z w64 z) +ℤ d)
  moved_fits d h = rw same_in (fits_64 _ (moved_small d h))

  moved_is : (d : ℤ) → nat_abs d ≤ 1 → to_z w64 (of_z w64 (to_z w64 (of_z w64 z) +ℤ d)) ≡ z +ℤ d
  moved_is d h = rw same_in (to_z-of_z w64 (z +ℤ d) (fits_64 _ (moved_small d h)))

or_l : (a b : Bool) → T a → T (a || b)
or_l true b t = tt
or_l false b t = absurd t

-- ---- what the cut asks: the float lies from -2^63 to below 2^63
pub not_below_law : (x : Float) → Small x → T (le (fin true 1 (pos 63)) x)
unfolding le lt eq
not_below_law nan h = absurd (false≢true h.is_finite)
not_below_law (inf s) h = absurd (false≢true h.is_finite)
not_below_law (fin false m e) h = or_l (lt (fin true 1 (pos 63)) (fin false m e)) (eq (fin true 1 (pos 63)) (fin false m e)) (lt→ltb 0 (1 * 2 ^ 63 * down e + m * up e * 1) (omega (arith, down_pos e)))
not_below_law (fin true m e) h = or_l (lt (fin true 1 (pos 63)) (fin true m e)) (eq (fin true 1 (pos 63)) (fin true m e)) (lt→ltb (m * up e * 1) (1 * 2 ^ 63 * down e) (omega (arith, down_pos e, h.small)))

pub not_past : (x : Float) → Small x → T (lt x (fin false 1 (pos 63)))
unfolding lt
not_past nan h = absurd (false≢true h.is_finite)
not_past (inf s) h = absurd (false≢true h.is_finite)
not_past (fin false m e) h = lt→ltb (m * up e * 1) (1 * 2 ^ 63 * down e) (omega (arith, down_pos e, h.small))
not_past (fin true m e) h = lt→ltb 0 (m * up e * 1 + 1 * 2 ^ 63 * down e) (omega (arith, down_pos e))

-- ---- the cut
module _ (s : Bool) (m : ℕ) (e : ℤ) (h : Small (fin s m e)) where
  part_small : m * up e / down e ≤ 9_000_000
  part_small = le_of_mul-le-mul_right {k = down e} (omega (arith, div-mul-le_self (m * up e) (down e), h.small)) (down_pos e)

  pub cut_is : to_signed 63 (fin s m e) ≡ signed s (m * up e / down e)
  unfolding to_signed
  cut_is = go s
    where
      low : min (m * up e / down e) (2 ^ 63) ≡ m * up e / down e
      low = min-eq_left (omega (arith, part_small))

      high : min (m * up e / down e) (2 ^ 63 - 1) ≡ m * up e / down e
      high = min-eq_left (omega (arith, part_small))

      go : (t : Bool) → cond t (neg_ℤ (pos (min (m * up e / down e) (2 ^ 63)))) (pos (min (m * up e / down e) (2 ^ 63 - 1))) ≡ signed t (m * up e / down e)
      go true = ap (λ (q : ℕ). neg_ℤ (pos q)) low
      go false = ap pos high

pub signed_abs : (s : Bool) (n : ℕ) → nat_abs (signed s n) ≡ n
signed_abs false n = refl
signed_abs true zero = refl
signed_abs true (suc n) = refl

pub cut_small : (x : Float) → Small x → nat_abs (to_signed 63 x) ≤ 9_000_000
cut_small nan h = absurd (false≢true h.is_finite)
cut_small (inf s) h = absurd (false≢true h.is_finite)
cut_small (fin s m e) h = rw (cut_is s m e h, signed_abs) (part_small s m e h)

-- ---- whether the cut, made a float, is above the float
-- a test of two numbers, both so many times greater
scaled : (a b k a' b' : ℕ) → 0 < k → a' ≡ a * k → b' ≡ b * k → ltb a' b' ≡ ltb a b
scaled a b k a' b' p ea eb = rw (ea, eb) (go (ltb a b) refl)
  where
    go : (t : Bool) → ltb a b ≡ t → ltb (a * k) (b * k) ≡ t
    go true h = lt-ltb _ _ (mul-lt-mul_of_pos_right (ltb-true a b h) p)
    go false h = le-ltb _ _ (mul-le-mul_right k (ltb-false a b h))

-- the test in whole numbers, where q is the whole part of a / d
abbrev above_by : Bool → ℕ → ℕ → ℕ → Bool
above_by false a d q = ltb a (q * d)
above_by true a d q = ltb (q * d) a

module _ (m : ℕ) (e : ℤ) (q : ℕ) where
  over_plus : (y : Float) → HasValue y false q 1 → lt (fin false m e) y ≡ above_by false (m * up e) (down e) q
  unfolding lt
  over_plus nan v = absurd v
  over_plus (inf t) v = absurd v
  over_plus (fin true n d) v = absurd (true≢false v.0)
  over_plus (fin false n d) v =
      let f : n * up d ≡ q * down d = omega (arith, v.1) in
      scaled (m * up e) (q * down e) (down d) _ _ (down_pos d) refl (ap (λ (z : ℕ). z * down e) f ∙ omega arith)

  over_minus : (y : Float) → HasValue y true q 1 → lt (fin true m e) y ≡ above_by true (m * up e) (down e) q
  unfolding lt
  over_minus nan v = absurd v
  over_minus (inf t) v = absurd v
  over_minus (fin false n d) v = absurd (false≢true v.0)
  over_minus (fin true n d) v =
      let f : n * up d ≡ q * down d = omega (arith, v.1) in
      scaled (q * down e) (m * up e) (down d) _ _ (down_pos d) (ap (λ (z : ℕ). z * down e) f ∙ omega arith) refl

over_zero : (m : ℕ) (e : ℤ) (y : Float) → HasValue y false 0 1 → lt (fin true m e) y ≡ above_by true (m * up e) (down e) 0
unfolding lt
over_zero m e nan v = absurd v
over_zero m e (inf t) v = absurd v
over_zero m e (fin true n d) v = absurd (true≢false v.0)
over_zero m e (fin false n d) v =
    let f : n * up d ≡ 0 = omega (arith, v.1) in
    scaled (0 * down e) (m * up e) (down d) 0 (m * up e * down d + n * up d * down e) (down_pos d) (omega arith) (ap (λ (z : ℕ). m * up e * down d + z * down e) f ∙ omega arith)

above_is : (s : Bool) (m : ℕ) (e : ℤ) (q : ℕ) → q ≤ 9_000_000 → lt (fin s m e) (of_int binary64 (signed s q)) ≡ above_by s (m * up e) (down e) q
unfolding of_int
above_is false m e q h = over_plus m e q _ (round_whole binary64 false q (omega arith))
above_is true m e zero h = over_zero m e _ (round_whole binary64 false 0 (omega arith))
above_is true m e (suc k) h = over_minus m e (suc k) _ (round_whole binary64 true (suc k) (omega arith))

-- ---- the floor in whole numbers
-- q is the whole part, and r what is left
module _ (a d q r : ℕ) (e : a ≡ q * d + r) (h : r < d) where
  down_by : (b : ℕ) → a ≡ suc b → 0 < r → b / d ≡ q
  down_by b f p = div-eq_of_lt-le d (omega arith) (omega arith)

  down_even : (b k : ℕ) → a ≡ suc b → r ≡ 0 → q ≡ suc k → b / d ≡ k
  down_even b k f z g = let u : a ≡ suc k * d = e ∙ ap (λ (n : ℕ). n * d + r) g ∙ omega arith in div-eq_of_lt-le d (omega arith) (omega arith)

less_one : (q : ℕ) → neg_ℤ (pos q) -ℤ pos 1 ≡ negsuc q
less_one zero = refl
less_one (suc k) = ap negsuc (omega arith)

-- below zero, with a rest
minus_less : (a d q r : ℕ) → a ≡ q * d + r → r < d → q * d < a → neg_ℤ (pos q) -ℤ pos 1 ≡ shr_z (neg_ℤ (pos a)) d
minus_less zero d q r e h p = absurd (omega arith)
minus_less (suc b) d q r e h p = less_one q ∙ ap negsuc (sym (down_by (suc b) d q r e h b refl (omega arith)))

-- below zero, with none
minus_kept : (a d q r : ℕ) → a ≡ q * d + r → r < d → a ≤ q * d → neg_ℤ (pos q) ≡ shr_z (neg_ℤ (pos a)) d
minus_kept zero d zero r e h p = ap pos (sym (zero-div d))
minus_kept zero d (suc k) r e h p = absurd (omega arith)
minus_kept (suc b) d zero r e h p = absurd (omega arith)
minus_kept (suc b) d (suc k) r e h p = ap negsuc (sym (down_even (suc b) d (suc k) r e h b k refl (omega arith) refl))

module _ (a d : ℕ) (p : 0 < d) where
  parts : a ≡ a / d * d + a % d
  parts = sym (div-add-mod' a d)

  less : (s : Bool) → above_by s a d (a / d) ≡ true → signed s (a / d) -ℤ pos 1 ≡ shr_z (signed s a) d
  less false t = absurd (omega (arith, ltb-true a (a / d * d) t, div-mul-le_self a d))
  less true t = minus_less a d (a / d) (a % d) parts (mod-lt a p) (ltb-true _ _ t)

  kept : (s : Bool) → above_by s a d (a / d) ≡ false → signed s (a / d) ≡ shr_z (signed s a) d
  kept false t = refl
  kept true t = minus_kept a d (a / d) (a % d) parts (mod-lt a p) (ltb-false _ _ t)

-- ---- the code's floor
pub floor_less : (x : Float) → Small x → lt x (of_int binary64 (to_signed 63 x)) ≡ true → to_signed 63 x -ℤ pos 1 ≡ floor_of x
unfolding floor_of
floor_less nan h t = absurd (false≢true h.is_finite)
floor_less (inf s) h t = absurd (false≢true h.is_finite)
floor_less (fin s m e) h t =
    let c = cut_is s m e h in
    rw c (less (m * up e) (down e) (down_pos e) s (sym (above_is s m e _ (part_small s m e h)) ∙ (rw c at t)))

pub floor_kept : (x : Float) → Small x → lt x (of_int binary64 (to_signed 63 x)) ≡ false → to_signed 63 x ≡ floor_of x
unfolding floor_of
floor_kept nan h t = absurd (false≢true h.is_finite)
floor_kept (inf s) h t = absurd (false≢true h.is_finite)
floor_kept (fin s m e) h t =
    let c = cut_is s m e h in
    rw c (kept (m * up e) (down e) (down_pos e) s (sym (above_is s m e _ (part_small s m e h)) ∙ (rw c at t)))

-- the two ways out of the code, with each number as its width holds it
module _ (x : Float) (cut : ℤ) (y : Float) (h : Small x) (ec : cut ≡ to_signed 63 x) (ey : y ≡ of_int binary64 (to_z w64 (of_z w64 cut))) where
  small_cut : nat_abs cut ≤ 9_000_000
  small_cut = rw ec (cut_small x h)

  same_cut : to_z w64 (of_z w64 cut) ≡ cut
  same_cut = same_in cut small_cut

  asked : lt x y ≡ lt x (of_int binary64 (to_signed 63 x))
  asked = ap (lt x) (ey ∙ ap (of_int binary64) (same_cut ∙ ec))

  pub floor_taken : lt x y ≡ true → (to_z w64 (of_z w64 (to_z w64 (of_z w64 cut) -ℤ pos 1)) ≡ floor_of x) × (nat_abs (to_z w64 (of_z w64 (to_z w64 (of_z w64 cut) -ℤ pos 1))) ≤ 9_000_001)
  floor_taken t =
      let e : to_z w64 (of_z w64 (to_z w64 (of_z w64 cut) -ℤ pos 1)) ≡ cut -ℤ pos 1 = moved_is cut small_cut (negsuc 0) (omega arith) in
      (e ∙ ap (λ (z : ℤ). z -ℤ pos 1) ec ∙ floor_less x h (sym asked ∙ t), rw e (moved_small cut small_cut (negsuc 0) (omega arith)))

  pub floor_left : lt x y ≡ false → (to_z w64 (of_z w64 cut) ≡ floor_of x) × (nat_abs (to_z w64 (of_z w64 cut)) ≤ 9_000_001)
  floor_left t = (same_cut ∙ ec ∙ floor_kept x h (sym asked ∙ t), rw same_cut (omega (arith, small_cut)))

  pub cut_fits : (d : ℤ) → nat_abs d ≤ 1 → SFits w64 (to_z w64 (of_z w64 cut) +ℤ d)
  cut_fits d k = moved_fits cut small_cut d k
