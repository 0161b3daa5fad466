-- The laws of the exact test: it is the same from both ends; it sees nothing of a segment above, below or to the left of the point; and of a segment strictly to the right it counts just whether one end alone is above.
use Rattle.std.specs.Prelude.{◌≡◌, refl, Bool, true, not, ◌||◌, ℕ, ◌+◌, ◌-◌, ◌*◌, ◌≤◌, ◌<◌, ℤ, pos, neg_ℤ, nat_abs, ◌-ℤ◌, ◌*ℤ◌}
use Rattle.std.proofs.Math.Path.{sym, ap, ap₂}
use Rattle.std.proofs.Common.{◌∙◌, true≢false, mul-pos, arith}
use Rattle.std.proofs.Math.Bool.{false, ◌&&◌, cond, and-false, or_comm}
use Rattle.std.proofs.lemmas.Bool.{false≢true}
use Rattle.std.specs.Int.Signed.{lt_z, le_z}
use Rattle.basics.specs.Parity.{◌⊻◌}
use Rattle.plane.specs.declared.I32Point.{I32Point}
use Rattle.plane.specs.Tally.{On, Off, none}
use Rattle.plane.specs.Segment.{cross, amid_z, on_z, counts_z, seg, above, same_point}
use Rattle.basics.specs.Whole.{is_zero, eq_z, Is, is_move, is_unique, is_neg, is_minus, is_mul, shift, shift_is, lt_is, le_is, le_not_lt, lt_not_le, not_lt_le, antisym, neg_zero, neg_pos, pos_is, nonpos_is, sub_pos, asym, eq_z_true}

-- ---- the turn, in naturals: the cross product is `plus` - `less`
abbrev pub plus : ℕ → ℕ → ℕ → ℕ → ℕ → ℕ → ℕ
plus A A' B B' P P' = B * P' + B' * A + A' * P

abbrev pub less : ℕ → ℕ → ℕ → ℕ → ℕ → ℕ → ℕ
less A A' B B' P P' = B' * P + B * A' + A * P'

-- from a below up to b, past p: i and j to the ends along x, v down to the lower end and u up to the upper
module _ (A A' B B' P P' : ℕ) (lo : A' ≤ P') (hi : P' < B') where
  turn_left : P < A → P < B → less A A' B B' P P' < plus A A' B B' P P'
  turn_left h k = go (A - P) (B - P) (B' - P') (P' - A') (omega arith) (omega arith) (omega arith) (omega arith) (omega arith) (omega arith)
    where
      go : (i j u v : ℕ) → A ≡ P + i → B ≡ P + j → B' ≡ P' + u → P' ≡ A' + v → 0 < i → 0 < u → less A A' B B' P P' < plus A A' B B' P P'
      go i j u v a b b' p' I U = rw (a, b, b', p') (omega (arith, mul-pos I U))

  turn_right : A < P → B < P → plus A A' B B' P P' ≤ less A A' B B' P P'
  turn_right h k = go (P - A) (P - B) (B' - P') (P' - A') (omega arith) (omega arith) (omega arith) (omega arith)
    where
      go : (i j u v : ℕ) → P ≡ A + i → P ≡ B + j → B' ≡ P' + u → P' ≡ A' + v → plus A A' B B' P P' ≤ less A A' B B' P P'
      go i j u v a b b' p' = omega (arith, ap (λ (z : ℕ). z * u) a, ap (λ (z : ℕ). z * v) b, ap (λ (z : ℕ). z * P) b', ap (λ (z : ℕ). z * A) b', ap (λ (z : ℕ). z * P) p', ap (λ (z : ℕ). z * B) p')

-- ---- the cross product of numbers that a shift by k makes natural
module _ (ax ay bx by px py : ℤ) (k A A' B B' P P' : ℕ) (a : Is ax A k) (a' : Is ay A' k) (b : Is bx B k) (b' : Is by B' k) (p : Is px P k) (p' : Is py P' k) where
  pub cross_is : Is (cross ax ay bx by px py) (plus A A' B B' P P') (less A A' B B' P P')
  unfolding cross
  cross_is =
      is_move (cross ax ay bx by px py) (B * P' + A * A' + (B' * A + A' * P)) (B * A' + A * P' + (B' * P + A' * A)) (plus A A' B B' P P') (less A A' B B' P P')
      (is_minus ((bx -ℤ ax) *ℤ (py -ℤ ay)) ((by -ℤ ay) *ℤ (px -ℤ ax)) (B * P' + A * A') (B * A' + A * P') (B' * P + A' * A) (B' * A + A' * P)
      (is_mul (bx -ℤ ax) (py -ℤ ay) B A P' A' (gap bx ax B A b a) (gap py ay P' A' p' a'))
      (is_mul (by -ℤ ay) (px -ℤ ax) B' A' P A (gap by ay B' A' b' a') (gap px ax P A p a)))
      (omega arith)
    where
      gap : (u v : ℤ) (U W : ℕ) → Is u U k → Is v W k → Is (u -ℤ v) U W
      gap u v U W h l = is_move (u -ℤ v) (U + k) (k + W) U W (is_minus u v U k W k h l) (omega arith)

-- ---- three points, all of whose numbers a shift by k makes natural
record Shifted (p a b : I32Point) : Type 0 where
  k : ℕ
  A : ℕ
  A' : ℕ
  B : ℕ
  B' : ℕ
  P : ℕ
  P' : ℕ
  ax : Is a.x A k
  ay : Is a.y A' k
  bx : Is b.x B k
  by : Is b.y B' k
  px : Is p.x P k
  py : Is p.y P' k

-- by the sum of their sizes
shifted : (p a b : I32Point) → Shifted p a b
shifted p a b =
    let n : ℕ = nat_abs a.x + nat_abs a.y + nat_abs b.x + nat_abs b.y + nat_abs p.x + nat_abs p.y in
    record {
      k = n;
      A = shift n a.x;
      A' = shift n a.y;
      B = shift n b.x;
      B' = shift n b.y;
      P = shift n p.x;
      P' = shift n p.y;
      ax = shift_is n a.x (omega arith);
      ay = shift_is n a.y (omega arith);
      bx = shift_is n b.x (omega arith);
      by = shift_is n b.y (omega arith);
      px = shift_is n p.x (omega arith);
      py = shift_is n p.y (omega arith);
    }

abbrev turn : I32Point → I32Point → I32Point → ℤ
turn p a b = cross a.x a.y b.x b.y p.x p.y

-- p is to the left of the way from a to b
left_of : I32Point → I32Point → I32Point → Bool
left_of p a b = lt_z (pos 0) (turn p a b)

-- above, as an order
is_above : (p a : I32Point) → above p a ≡ true → lt_z p.y a.y ≡ true
unfolding above
is_above p a h = h

not_above_law : (p a : I32Point) → above p a ≡ false → le_z a.y p.y ≡ true
unfolding above
not_above_law p a h = not_lt_le p.y a.y h

module _ (p a b : I32Point) where
  place : Shifted p a b
  place = shifted p a b

  open place use {k, A, A', B, B', P, P', ax, ay, bx, by, px, py}

  forth : Is (turn p a b) (plus A A' B B' P P') (less A A' B B' P P')
  forth = cross_is a.x a.y b.x b.y p.x p.y k A A' B B' P P' ax ay bx by px py

  back : Is (turn p b a) (less A A' B B' P P') (plus A A' B B' P P')
  back = is_move (turn p b a) (plus B B' A A' P P') (less B B' A A' P P') (less A A' B B' P P') (plus A A' B B' P P') (cross_is b.x b.y a.x a.y p.x p.y k B B' A A' P P' bx by ax ay px py) (omega arith)

  turn_swap : turn p b a ≡ neg_ℤ (turn p a b)
  turn_swap = is_unique (turn p b a) (neg_ℤ (turn p a b)) (less A A' B B' P P') (plus A A' B B' P P') back (is_neg (turn p a b) (plus A A' B B' P P') (less A A' B B' P P') forth)

  -- a segment that rises past p is seen from its left, and not from its right
  rise_left : lt_z p.x a.x ≡ true → lt_z p.x b.x ≡ true → le_z a.y p.y ≡ true → lt_z p.y b.y ≡ true → left_of p a b ≡ true
  unfolding left_of
  rise_left h l m n =
      pos_is (turn p a b) (plus A A' B B' P P') (less A A' B B' P P') forth
      (turn_left A A' B B' P P' (le_is a.y p.y A' P' k ay py m) (lt_is p.y b.y P' B' k py by n) (lt_is p.x a.x P A k px ax h) (lt_is p.x b.x P B k px bx l))

  rise_right : lt_z a.x p.x ≡ true → lt_z b.x p.x ≡ true → le_z a.y p.y ≡ true → lt_z p.y b.y ≡ true → left_of p a b ≡ false
  unfolding left_of
  rise_right h l m n =
      nonpos_is (turn p a b) (plus A A' B B' P P') (less A A' B B' P P') forth
      (turn_right A A' B B' P P' (le_is a.y p.y A' P' k ay py m) (lt_is p.y b.y P' B' k py by n) (lt_is a.x p.x A P k ax px h) (lt_is b.x p.x B P k bx px l))

-- ---- the box of a segment
amid_swap : (u v w : ℤ) → amid_z u v w ≡ amid_z v u w
unfolding amid_z
amid_swap u v w = go (lt_z u v) (lt_z v u) refl refl
  where
    alike : u ≡ v → le_z v w && le_z w u ≡ le_z u w && le_z w v
    alike e = rw e

    go : (s t : Bool) → lt_z u v ≡ s → lt_z v u ≡ t → cond s (le_z u w && le_z w v) (le_z v w && le_z w u) ≡ cond t (le_z v w && le_z w u) (le_z u w && le_z w v)
    go true true h k = absurd (true≢false (sym k ∙ asym u v h))
    go true false h k = refl
    go false true h k = refl
    go false false h k = alike (antisym u v (not_lt_le v u k) (not_lt_le u v h))

-- a choice between two falsehoods
neither : (s : Bool) {b c : Bool} → b ≡ false → c ≡ false → cond s b c ≡ false
neither true h k = h
neither false h k = k

amid_less : (u v w : ℤ) → lt_z w u ≡ true → lt_z w v ≡ true → amid_z u v w ≡ false
unfolding amid_z
amid_less u v w h k = neither (lt_z u v) (ap (λ t. t && le_z w v) (lt_not_le w u h)) (ap (λ t. t && le_z w u) (lt_not_le w v k))

amid_more : (u v w : ℤ) → lt_z u w ≡ true → lt_z v w ≡ true → amid_z u v w ≡ false
unfolding amid_z
amid_more u v w h k = neither (lt_z u v) (ap (λ t. le_z u w && t) (lt_not_le v w k) ∙ and-false (le_z u w)) (ap (λ t. le_z v w && t) (lt_not_le u w h) ∙ and-false (le_z v w))

-- ---- which segments count
-- A, B: the end is above p; L, R: p is to the left of the way from a to b, or from b to a
mix : Bool → Bool → Bool → Bool → Bool
mix A B L R = (not A && B && L) || (not B && A && R)

mix_swap : (A B L R : Bool) → mix A B L R ≡ mix B A R L
unfolding mix
mix_swap A B L R = or_comm (not A && B && L) (not B && A && R)

mix_all : (A B L R : Bool) → (A ≡ false → B ≡ true → L ≡ true) → (B ≡ false → A ≡ true → R ≡ true) → mix A B L R ≡ A ⊻ B
unfolding mix
mix_all true true L R h k = refl
mix_all true false L R h k = k refl refl
mix_all false true true R h k = refl
mix_all false true false R h k = h refl refl
mix_all false false L R h k = refl

mix_none : (A B L R : Bool) → (A ≡ false → B ≡ true → L ≡ false) → (B ≡ false → A ≡ true → R ≡ false) → mix A B L R ≡ false
unfolding mix
mix_none true true L R h k = refl
mix_none true false L R h k = k refl refl
mix_none false true true R h k = h refl refl
mix_none false true false R h k = refl
mix_none false false L R h k = refl

module _ (p a b : I32Point) where
  counts_is : counts_z a.x a.y b.x b.y p.x p.y ≡ mix (above p a) (above p b) (left_of p a b) (left_of p b a)
  unfolding counts_z mix above left_of
  counts_is = rw (le_not_lt a.y p.y, le_not_lt b.y p.y, turn_swap p a b, neg_pos)

  on_swap : on_z a.x a.y b.x b.y p.x p.y ≡ on_z b.x b.y a.x a.y p.x p.y
  unfolding on_z
  on_swap = ap₂ ◌&&◌ (sym (neg_zero (turn p a b)) ∙ ap is_zero (sym (turn_swap p a b))) (ap₂ ◌&&◌ (amid_swap a.x b.x p.x) (amid_swap a.y b.y p.y))

  -- p is not in the segment's box: what is left is whether it counts
  seen : (t : Bool) → amid_z a.x b.x p.x && amid_z a.y b.y p.y ≡ false → mix (above p a) (above p b) (left_of p a b) (left_of p b a) ≡ t → seg p a b ≡ Off t
  unfolding seg on_z
  seen t h k = rw (h, and-false, counts_is, k)

  outside_x : amid_z a.x b.x p.x ≡ false → amid_z a.x b.x p.x && amid_z a.y b.y p.y ≡ false
  outside_x h = rw h

  outside_y : amid_z a.y b.y p.y ≡ false → amid_z a.x b.x p.x && amid_z a.y b.y p.y ≡ false
  outside_y h = rw (h, and-false)

-- ---- that the sign is the meeting place's: for a below b the level of p meets the segment at x = ax + (bx - ax) (py - ay) / (by - ay), which is above px just where (by - ay) (px - ax) is below (bx - ax) (py - ay)
pub meets_right : (ax ay bx by px py : ℤ) → lt_z (pos 0) (cross ax ay bx by px py) ≡ lt_z ((by -ℤ ay) *ℤ (px -ℤ ax)) ((bx -ℤ ax) *ℤ (py -ℤ ay))
unfolding cross
meets_right ax ay bx by px py = sub_pos ((bx -ℤ ax) *ℤ (py -ℤ ay)) ((by -ℤ ay) *ℤ (px -ℤ ax))

-- ---- THE LAWS
module _ (p a b : I32Point) where
  pub seg_swap : seg p a b ≡ seg p b a
  unfolding seg
  seg_swap = ap₂ (λ (s t : Bool). cond s On (Off t)) (on_swap p a b) (counts_is p a b ∙ mix_swap (above p a) (above p b) (left_of p a b) (left_of p b a) ∙ sym (counts_is p b a))

  -- p strictly to the left of both ends
  pub seg_left : lt_z p.x a.x ≡ true → lt_z p.x b.x ≡ true → seg p a b ≡ Off (above p a ⊻ above p b)
  seg_left h k =
      seen p a b (above p a ⊻ above p b) (outside_x p a b (amid_less a.x b.x p.x h k))
      (mix_all (above p a) (above p b) (left_of p a b) (left_of p b a) (λ m n. rise_left p a b h k (not_above_law p a m) (is_above p b n)) (λ m n. rise_left p b a k h (not_above_law p b m) (is_above p a n)))

  -- p strictly to the right of both ends
  pub seg_right : lt_z a.x p.x ≡ true → lt_z b.x p.x ≡ true → seg p a b ≡ none
  seg_right h k =
      seen p a b false (outside_x p a b (amid_more a.x b.x p.x h k))
      (mix_none (above p a) (above p b) (left_of p a b) (left_of p b a) (λ m n. rise_right p a b h k (not_above_law p a m) (is_above p b n)) (λ m n. rise_right p b a k h (not_above_law p b m) (is_above p a n)))

  -- p above both ends
  pub seg_under : lt_z a.y p.y ≡ true → lt_z b.y p.y ≡ true → seg p a b ≡ none
  unfolding above
  seg_under h k =
      seen p a b false (outside_y p a b (amid_more a.y b.y p.y h k))
      (mix_none (above p a) (above p b) (left_of p a b) (left_of p b a) (λ m n. absurd (true≢false (sym n ∙ asym b.y p.y k))) (λ m n. absurd (true≢false (sym n ∙ asym a.y p.y h))))

  -- p below both ends
  pub seg_over : lt_z p.y a.y ≡ true → lt_z p.y b.y ≡ true → seg p a b ≡ none
  unfolding above
  seg_over h k =
      seen p a b false (outside_y p a b (amid_less a.y b.y p.y h k))
      (mix_none (above p a) (above p b) (left_of p a b) (left_of p b a) (λ m n. absurd (true≢false (sym h ∙ m))) (λ m n. absurd (true≢false (sym k ∙ m))))
