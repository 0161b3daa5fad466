-- Whole numbers by naturals. `Is z p q` says that z is p - q; sums and products of such pairs are again such pairs, and the tests of order on ℤ are those of ℕ after a shift that makes all numbers natural. So `omega`, which does not read ℤ, does the arithmetic.
use Rattle.std.specs.Prelude.{◌≡◌, refl, Bool, true, false, not, cond, ℕ, zero, suc, ◌+◌, ◌-◌, ◌*◌, ◌≤◌, ◌<◌, ltb, leb, eqb, ℤ, pos, negsuc, neg_ℤ, nat_abs, ◌+ℤ◌, ◌-ℤ◌, ◌*ℤ◌}
use Rattle.std.proofs.Common.{sym, ap, ◌∙◌, true≢false, arith, ltb-true, ltb-false, leb-true, eqb-true, lt-ltb, le-ltb, le-leb, eq-eqb, ne_eqb}
use Rattle.std.proofs.lemmas.Bool.{false≢true, eqb-false, not-true, lt-leb}
use Rattle.std.proofs.Math.IntN.{sub_ℕ}
use Rattle.std.specs.Int.Signed.{lt_z, le_z}

abbrev pub is_zero : ℤ → Bool
is_zero z = eqb (nat_abs z) 0

abbrev pub eq_z : ℤ → ℤ → Bool
eq_z (pos a) (pos b) = eqb a b
eq_z (pos a) (negsuc b) = false
eq_z (negsuc a) (pos b) = false
eq_z (negsuc a) (negsuc b) = eqb a b

-- ---- z is p - q
abbrev pub Is : ℤ → ℕ → ℕ → Type 0
Is (pos n) p q = p ≡ q + n
Is (negsuc n) p q = q ≡ p + suc n

pub is_sub : (a b : ℕ) → Is (sub_ℕ a b) a b
is_sub a b = go (ltb a b) refl
  where
    go : (t : Bool) → ltb a b ≡ t → Is (cond t (negsuc (b - suc a)) (pos (a - b))) a b
    go true e = omega (arith, ltb-true a b e)
    go false e = omega (arith, ltb-false a b e)

-- the same number by another pair
pub is_move : (z : ℤ) (p q p' q' : ℕ) → Is z p q → p + q' ≡ q + p' → Is z p' q'
is_move (pos n) p q p' q' h e = omega arith
is_move (negsuc n) p q p' q' h e = omega arith

-- a number is fixed by its pair
pub is_unique : (x y : ℤ) (p q : ℕ) → Is x p q → Is y p q → x ≡ y
is_unique (pos a) (pos b) p q e f = ap pos (omega arith)
is_unique (pos a) (negsuc b) p q e f = absurd (omega arith)
is_unique (negsuc a) (pos b) p q e f = absurd (omega arith)
is_unique (negsuc a) (negsuc b) p q e f = ap negsuc (omega arith)

pub is_neg : (z : ℤ) (p q : ℕ) → Is z p q → Is (neg_ℤ z) q p
is_neg (pos zero) p q h = omega arith
is_neg (pos (suc n)) p q h = h
is_neg (negsuc n) p q h = h

pub is_add : (x y : ℤ) (p q p' q' : ℕ) → Is x p q → Is y p' q' → Is (x +ℤ y) (p + p') (q + q')
is_add (pos a) (pos b) p q p' q' h k = omega arith
is_add (pos a) (negsuc b) p q p' q' h k = is_move (sub_ℕ a (suc b)) a (suc b) (p + p') (q + q') (is_sub a (suc b)) (omega arith)
is_add (negsuc a) (pos b) p q p' q' h k = is_move (sub_ℕ b (suc a)) b (suc a) (p + p') (q + q') (is_sub b (suc a)) (omega arith)
is_add (negsuc a) (negsuc b) p q p' q' h k = omega arith

pub is_minus : (x y : ℤ) (p q p' q' : ℕ) → Is x p q → Is y p' q' → Is (x -ℤ y) (p + q') (q + p')
is_minus x y p q p' q' h k = is_add x (neg_ℤ y) p q q' p' h (is_neg y p' q' k)

pub is_mul : (x y : ℤ) (p q p' q' : ℕ) → Is x p q → Is y p' q' → Is (x *ℤ y) (p * p' + q * q') (p * q' + q * p')
is_mul (pos a) (pos b) p q p' q' e f = rw (e, f) (omega arith)
is_mul (pos a) (negsuc b) p q p' q' e f = is_neg (pos (a * suc b)) (p * q' + q * p') (p * p' + q * q') (rw (e, f) (omega arith))
is_mul (negsuc a) (pos b) p q p' q' e f = is_neg (pos (suc a * b)) (p * q' + q * p') (p * p' + q * q') (rw (e, f) (omega arith))
is_mul (negsuc a) (negsuc b) p q p' q' e f = rw (e, f) (omega arith)

-- ---- a shift by k that makes z natural
abbrev pub shift : ℕ → ℤ → ℕ
shift k (pos n) = k + n
shift k (negsuc n) = k - suc n

pub shift_is : (k : ℕ) (z : ℤ) → nat_abs z ≤ k → Is z (shift k z) k
shift_is k (pos n) h = refl
shift_is k (negsuc n) h = omega arith

-- ---- the tests of order
pub lt_is : (x y : ℤ) (p q k : ℕ) → Is x p k → Is y q k → lt_z x y ≡ true → p < q
lt_is (pos a) (pos b) p q k e f t = omega (arith, ltb-true a b t)
lt_is (pos a) (negsuc b) p q k e f t = absurd (false≢true t)
lt_is (negsuc a) (pos b) p q k e f t = omega arith
lt_is (negsuc a) (negsuc b) p q k e f t = omega (arith, ltb-true b a t)

pub is_lt : (x y : ℤ) (p q k : ℕ) → Is x p k → Is y q k → p < q → lt_z x y ≡ true
is_lt (pos a) (pos b) p q k e f h = lt-ltb a b (omega arith)
is_lt (pos a) (negsuc b) p q k e f h = absurd (omega arith)
is_lt (negsuc a) (pos b) p q k e f h = refl
is_lt (negsuc a) (negsuc b) p q k e f h = lt-ltb b a (omega arith)

flip : (a b : ℕ) → leb a b ≡ not (ltb b a)
flip a b = go (ltb b a) refl
  where
    go : (t : Bool) → ltb b a ≡ t → leb a b ≡ not t
    go true e = lt-leb a b (ltb-true b a e)
    go false e = le-leb a b (ltb-false b a e)

pub le_not_lt : (x y : ℤ) → le_z x y ≡ not (lt_z y x)
le_not_lt (pos a) (pos b) = flip a b
le_not_lt (pos a) (negsuc b) = refl
le_not_lt (negsuc a) (pos b) = refl
le_not_lt (negsuc a) (negsuc b) = flip b a

pub le_is : (x y : ℤ) (p q k : ℕ) → Is x p k → Is y q k → le_z x y ≡ true → p ≤ q
le_is (pos a) (pos b) p q k e f t = omega (arith, leb-true a b t)
le_is (pos a) (negsuc b) p q k e f t = absurd (false≢true t)
le_is (negsuc a) (pos b) p q k e f t = omega arith
le_is (negsuc a) (negsuc b) p q k e f t = omega (arith, leb-true b a t)

pub is_le : (x y : ℤ) (p q k : ℕ) → Is x p k → Is y q k → p ≤ q → le_z x y ≡ true
is_le (pos a) (pos b) p q k e f h = le-leb a b (omega arith)
is_le (pos a) (negsuc b) p q k e f h = absurd (omega arith)
is_le (negsuc a) (pos b) p q k e f h = refl
is_le (negsuc a) (negsuc b) p q k e f h = le-leb b a (omega arith)

-- ---- the laws of the order, each by one shift
module _ (x y z : ℤ) where
  k : ℕ
  k = nat_abs x + nat_abs y + nat_abs z

  sx : Is x (shift k x) k
  unfolding k
  sx = shift_is k x (omega arith)

  sy : Is y (shift k y) k
  unfolding k
  sy = shift_is k y (omega arith)

  sz : Is z (shift k z) k
  unfolding k
  sz = shift_is k z (omega arith)

  pub lt_le : lt_z x y ≡ true → le_z y z ≡ true → lt_z x z ≡ true
  lt_le h l = is_lt x z (shift k x) (shift k z) k sx sz (omega (arith, lt_is x y (shift k x) (shift k y) k sx sy h, le_is y z (shift k y) (shift k z) k sy sz l))

  pub le_lt : le_z x y ≡ true → lt_z y z ≡ true → lt_z x z ≡ true
  le_lt h l = is_lt x z (shift k x) (shift k z) k sx sz (omega (arith, le_is x y (shift k x) (shift k y) k sx sy h, lt_is y z (shift k y) (shift k z) k sy sz l))

  pub le_le : le_z x y ≡ true → le_z y z ≡ true → le_z x z ≡ true
  le_le h l = is_le x z (shift k x) (shift k z) k sx sz (omega (arith, le_is x y (shift k x) (shift k y) k sx sy h, le_is y z (shift k y) (shift k z) k sy sz l))

-- a test that passed, and the opposite test
pub lt_not_le : (x y : ℤ) → lt_z x y ≡ true → le_z y x ≡ false
lt_not_le x y h = le_not_lt y x ∙ ap not h

pub not_lt_le : (x y : ℤ) → lt_z x y ≡ false → le_z y x ≡ true
not_lt_le x y h = le_not_lt y x ∙ ap not h

pub not_le_lt : (x y : ℤ) → le_z x y ≡ false → lt_z y x ≡ true
not_le_lt x y h = go (lt_z y x) (sym (le_not_lt x y) ∙ h)
  where
    go : (t : Bool) → not t ≡ false → t ≡ true
    go true e = refl
    go false e = absurd (true≢false e)

pub asym : (x y : ℤ) → lt_z x y ≡ true → lt_z y x ≡ false
asym (pos a) (pos b) t = le-ltb b a (omega (arith, ltb-true a b t))
asym (pos a) (negsuc b) t = absurd (false≢true t)
asym (negsuc a) (pos b) t = refl
asym (negsuc a) (negsuc b) t = le-ltb a b (omega (arith, ltb-true b a t))

pub antisym : (x y : ℤ) → le_z x y ≡ true → le_z y x ≡ true → x ≡ y
antisym (pos a) (pos b) h l = ap pos (omega (arith, leb-true a b h, leb-true b a l))
antisym (pos a) (negsuc b) h l = absurd (false≢true h)
antisym (negsuc a) (pos b) h l = absurd (false≢true l)
antisym (negsuc a) (negsuc b) h l = ap negsuc (omega (arith, leb-true b a h, leb-true a b l))

-- ---- the sign
pub neg_zero : (z : ℤ) → is_zero (neg_ℤ z) ≡ is_zero z
neg_zero (pos zero) = refl
neg_zero (pos (suc n)) = refl
neg_zero (negsuc n) = refl

pub neg_pos : (z : ℤ) → lt_z (pos 0) (neg_ℤ z) ≡ lt_z z (pos 0)
neg_pos (pos zero) = refl
neg_pos (pos (suc n)) = sym (le-ltb (suc n) 0 (omega arith))
neg_pos (negsuc n) = lt-ltb 0 (suc n) (omega arith)

pub pos_is : (z : ℤ) (p q : ℕ) → Is z p q → q < p → lt_z (pos 0) z ≡ true
pos_is (pos n) p q e h = lt-ltb 0 n (omega arith)
pos_is (negsuc n) p q e h = absurd (omega arith)

pub nonpos_is : (z : ℤ) (p q : ℕ) → Is z p q → p ≤ q → lt_z (pos 0) z ≡ false
nonpos_is (pos n) p q e h = le-ltb 0 n (omega arith)
nonpos_is (negsuc n) p q e h = refl

-- a difference above 0
pub sub_pos : (x y : ℤ) → lt_z (pos 0) (x -ℤ y) ≡ lt_z y x
sub_pos x y = go (lt_z y x) refl
  where
    k : ℕ
    k = nat_abs x + nat_abs y

    sx : Is x (shift k x) k
    sx = shift_is k x (omega arith)

    sy : Is y (shift k y) k
    sy = shift_is k y (omega arith)

    d : Is (x -ℤ y) (shift k x + k) (k + shift k y)
    d = is_minus x y (shift k x) k (shift k y) k sx sy

    go : (t : Bool) → lt_z y x ≡ t → lt_z (pos 0) (x -ℤ y) ≡ t
    go true e = pos_is (x -ℤ y) (shift k x + k) (k + shift k y) d (omega (arith, lt_is y x (shift k y) (shift k x) k sy sx e))
    go false e = nonpos_is (x -ℤ y) (shift k x + k) (k + shift k y) d (omega (arith, le_is x y (shift k x) (shift k y) k sx sy (le_not_lt x y ∙ ap not e)))

-- ---- each test of ℤ is the test of ℕ on the pair
pub lt_test : (x y : ℤ) (p q k : ℕ) → Is x p k → Is y q k → lt_z x y ≡ ltb p q
lt_test x y p q k e f = go (ltb p q) refl
  where
    go : (t : Bool) → ltb p q ≡ t → lt_z x y ≡ t
    go true h = is_lt x y p q k e f (ltb-true p q h)
    go false h = not-true (lt_z x y) (sym (le_not_lt y x) ∙ is_le y x q p k f e (ltb-false p q h))

pub le_test : (x y : ℤ) (p q k : ℕ) → Is x p k → Is y q k → le_z x y ≡ leb p q
le_test x y p q k e f = le_not_lt x y ∙ ap not (lt_test y x q p k f e) ∙ sym (flip p q)

pub zero_test : (z : ℤ) (p q : ℕ) → Is z p q → is_zero z ≡ eqb p q
zero_test z p q e = size z e (eqb p q) refl
  where
    size : (z : ℤ) → Is z p q → (t : Bool) → eqb p q ≡ t → is_zero z ≡ t
    size (pos n) e true h = eq-eqb n 0 (omega (arith, eqb-true p q h))
    size (pos n) e false h = ne_eqb n 0 (λ (u : n ≡ 0). eqb-false p q h (omega arith))
    size (negsuc n) e true h = absurd (omega (arith, eqb-true p q h))
    size (negsuc n) e false h = ne_eqb (suc n) 0 (λ (u : suc n ≡ 0). omega arith)

pub pos_test : (z : ℤ) (p q : ℕ) → Is z p q → lt_z (pos 0) z ≡ ltb q p
pos_test z p q e = lt_test (pos 0) z q p q (omega arith) e

pub neg_test : (z : ℤ) (p q : ℕ) → Is z p q → lt_z z (pos 0) ≡ ltb p q
neg_test z p q e = lt_test z (pos 0) p q q e (omega arith)

-- ---- equality of two numbers, as a test
pub eq_z_true : (x y : ℤ) → eq_z x y ≡ true → x ≡ y
eq_z_true (pos a) (pos b) t = ap pos (eqb-true a b t)
eq_z_true (pos a) (negsuc b) t = absurd (false≢true t)
eq_z_true (negsuc a) (pos b) t = absurd (false≢true t)
eq_z_true (negsuc a) (negsuc b) t = ap negsuc (eqb-true a b t)
