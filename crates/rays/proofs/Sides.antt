-- Exact geometry on naturals: which side of a segment a point is on, and what follows for its place. Nothing here is about floats.
-- Assumes nothing.
use mathlib.Core.Path.{◌≡◌, sym, ap}
use mathlib.Core.Logic.{◌⊎◌, inl, inr}
use Prim.Native.Nat.{ℕ, ◌+◌, ◌-◌, ◌*◌, ◌≤◌, ◌<◌, min, max}
use native.Mathlib.Nat.{le_of_lt, not-le_of_lt, mul-pos, mul-le-mul_right}
use native.Mathlib.Omega.{arith}
use mathlib.Core.Bool.{Bool, true, false, not, ◌&&◌, ◌||◌, cond}
use lib.Dec.{T, ltb, leb, eqb, ltb→lt, lt→ltb, nltb→le, leb→le, le→leb, not_T}
use lib.Ieee.Fits.{and_i, and_l, and_r}
use lib.Ieee.Bits.{is_true, is_false}
use Rattle.plane.proofs.Turns.{plus, less}

abbrev pub amid : ℕ → ℕ → ℕ → Bool
amid u v w = cond (ltb u v) (leb u w && leb w v) (leb v w && leb w u)

-- on the segment: no turn, and in its box
unfoldable pub on_n : ℕ → ℕ → ℕ → ℕ → ℕ → ℕ → Bool
on_n ax ay bx by px py = eqb (plus ax ay bx by px py) (less ax ay bx by px py) && (amid ax bx px && amid ay by py)

-- a is not above p and b is, and the turn is to the left; or the other way round
unfoldable pub counts_n : ℕ → ℕ → ℕ → ℕ → ℕ → ℕ → Bool
counts_n ax ay bx by px py =
    ((leb ay py && ltb py by) && ltb (less ax ay bx by px py) (plus ax ay bx by px py))
    || ((leb by py && ltb py ay) && ltb (plus ax ay bx by px py) (less ax ay bx by px py))

-- ---- tests and facts
pub or_split : (a b : Bool) → T (a || b) → T a ⊎ T b
or_split true b t = inl tt
or_split false b t = inr t

pub falsum : (b : Bool) → (T b → ⊥) → b ≡ false
falsum b f = is_false b (not_T b f)

pub verum : (b : Bool) → T b → b ≡ true
verum b t = is_true b t

pub amid_view : (u v w : ℕ) → T (amid u v w) → (min u v ≤ w) × (w ≤ max u v)
amid_view u v w = go (ltb u v) (ltb→lt u v) (nltb→le u v)
  where
    go : (b : Bool) → (T b → u < v) → (T (not b) → v ≤ u) → T (cond b (leb u w && leb w v) (leb v w && leb w u)) → (min u v ≤ w) × (w ≤ max u v)
    go true f g t = let f' = f tt in let p = leb→le u w (and_l (leb u w) (leb w v) t) in let q = leb→le w v (and_r (leb u w) (leb w v) t) in (omega arith, omega arith)
    go false f g t = let g' = g tt in let p = leb→le v w (and_l (leb v w) (leb w u) t) in let q = leb→le w u (and_r (leb v w) (leb w u) t) in (omega arith, omega arith)

pub amid_make : (u v w : ℕ) → min u v ≤ w → w ≤ max u v → T (amid u v w)
amid_make u v w p q = go (ltb u v) (ltb→lt u v) (nltb→le u v)
  where
    go : (b : Bool) → (T b → u < v) → (T (not b) → v ≤ u) → T (cond b (leb u w && leb w v) (leb v w && leb w u))
    go true f g = let f' = f tt in and_i (leb u w) (leb w v) (le→leb u w (omega arith)) (le→leb w v (omega arith))
    go false f g = let g' = g tt in and_i (leb v w) (leb w u) (le→leb v w (omega arith)) (le→leb w u (omega arith))

-- ---- the turn from the point's own place: i and j to the ends along x, u up to the upper end and v down to the lower
module _ (ax ay bx by px py i j u v : ℕ) (y : py ≡ ay + v) (y' : by ≡ py + u) where
  pub turn_left : ax ≡ px + i → bx ≡ px + j → plus ax ay bx by px py ≡ less ax ay bx by px py + (i * u + j * v)
  turn_left p q = rw (p, q, y', y) (omega arith)

  pub turn_right : px ≡ ax + i → px ≡ bx + j → less ax ay bx by px py ≡ plus ax ay bx by px py + (i * u + j * v)
  turn_right p q = omega (arith, ap (λ (z : ℕ). z * by) p, ap (λ (z : ℕ). z * ay) q, ap (λ (z : ℕ). z * py) p, ap (λ (z : ℕ). z * py) q, ap (λ (z : ℕ). z * i) y', ap (λ (z : ℕ). z * j) y, ap (λ (z : ℕ). z * ax) y', ap (λ (z : ℕ). z * bx) y, ap (λ (z : ℕ). z * px) y, ap (λ (z : ℕ). z * px) y')

  -- a on the right, b on the left
  pub turn_back : ax ≡ px + i → px ≡ bx + j → plus ax ay bx by px py + j * v ≡ less ax ay bx by px py + i * u
  turn_back p q = rw (p, y') (omega (arith, ap (λ (z : ℕ). z * py) q, ap (λ (z : ℕ). z * ay) q, ap (λ (z : ℕ). z * j) y))

  -- a on the left, b on the right
  pub turn_forth : px ≡ ax + i → bx ≡ px + j → plus ax ay bx by px py + i * u ≡ less ax ay bx by px py + j * v
  turn_forth p q = rw (q, y') (omega (arith, ap (λ (z : ℕ). z * py) p, ap (λ (z : ℕ). z * ay) p, ap (λ (z : ℕ). z * i) y', ap (λ (z : ℕ). z * j) y, ap (λ (z : ℕ). z * u) p))

-- swapping the ends turns the other way
pub swap_plus : (ax ay bx by px py : ℕ) → plus ax ay bx by px py ≡ less bx by ax ay px py
swap_plus ax ay bx by px py = omega arith

pub swap_less : (ax ay bx by px py : ℕ) → less ax ay bx by px py ≡ plus bx by ax ay px py
swap_less ax ay bx by px py = omega arith

-- ---- for a below b, and p from a's height to b's
module _ (ax ay bx by px py : ℕ) (lo : ay ≤ py) (hi : py ≤ by) where
  v_is : py ≡ ay + (py - ay)
  v_is = omega arith

  u_is : by ≡ py + (by - py)
  u_is = omega arith

  pub right_all : max ax bx ≤ px → plus ax ay bx by px py ≤ less ax ay bx by px py
  right_all h =
      let e = turn_right ax ay bx by px py (px - ax) (px - bx) (by - py) (py - ay) v_is u_is (omega arith) (omega arith) in
      more (plus ax ay bx by px py) (less ax ay bx by px py) ((px - ax) * (by - py) + (px - bx) * (py - ay)) e
    where
      more : (p l d : ℕ) → l ≡ p + d → p ≤ l
      more p l d e = omega arith

  pub left_all : px ≤ min ax bx → less ax ay bx by px py ≤ plus ax ay bx by px py
  left_all h =
      let e = turn_left ax ay bx by px py (ax - px) (bx - px) (by - py) (py - ay) v_is u_is (omega arith) (omega arith) in
      more (less ax ay bx by px py) (plus ax ay bx by px py) ((ax - px) * (by - py) + (bx - px) * (py - ay)) e
    where
      more : (p l d : ℕ) → l ≡ p + d → p ≤ l
      more p l d e = omega arith

  -- strictly beside both ends there is a turn
  beside : (i j u v p l : ℕ) → 0 < i → 0 < j → 0 < u + v → l ≡ p + (i * u + j * v) → p ≡ l → ⊥
  beside i j u v p l I J h e q = omega (arith, mul-le-mul_right u I, mul-le-mul_right v J)

  pub no_turn_amid : ay < by → plus ax ay bx by px py ≡ less ax ay bx by px py → (min ax bx ≤ px) × (px ≤ max ax bx)
  no_turn_amid up e = (lower (ltb px (min ax bx)) (ltb→lt px (min ax bx)) (nltb→le px (min ax bx)), upper (ltb (max ax bx) px) (ltb→lt (max ax bx) px) (nltb→le (max ax bx) px))
    where
      apart : 0 < by - py + (py - ay)
      apart = omega arith

      i_pos : (a b x : ℕ) → x < min a b → (0 < a - x) × (0 < b - x) × (a ≡ x + (a - x)) × (b ≡ x + (b - x))
      i_pos a b x h = (omega arith, omega arith, omega arith, omega arith)

      j_pos : (a b x : ℕ) → max a b < x → (0 < x - a) × (0 < x - b) × (x ≡ a + (x - a)) × (x ≡ b + (x - b))
      j_pos a b x h = (omega arith, omega arith, omega arith, omega arith)

      lower : (t : Bool) → (T t → px < min ax bx) → (T (not t) → min ax bx ≤ px) → min ax bx ≤ px
      lower false f g = g tt
      lower true f g =
          let c = i_pos ax bx px (f tt) in
          absurd (beside (ax - px) (bx - px) (by - py) (py - ay) (less ax ay bx by px py) (plus ax ay bx by px py) c.0 c.1 apart (turn_left ax ay bx by px py (ax - px) (bx - px) (by - py) (py - ay) v_is u_is c.2 c.3) (sym e))

      upper : (t : Bool) → (T t → max ax bx < px) → (T (not t) → px ≤ max ax bx) → px ≤ max ax bx
      upper false f g = g tt
      upper true f g =
          let c = j_pos ax bx px (f tt) in
          absurd (beside (px - ax) (px - bx) (by - py) (py - ay) (plus ax ay bx by px py) (less ax ay bx by px py) c.0 c.1 apart (turn_right ax ay bx by px py (px - ax) (px - bx) (by - py) (py - ay) v_is u_is c.2 c.3) e)

  -- at a's height, between the ends: the turn is to the left where a is on the right
  pub at_foot : py ≡ ay → py < by → min ax bx < px → px < max ax bx → ltb (less ax ay bx by px py) (plus ax ay bx by px py) ≡ ltb px ax
  at_foot f up l r = go (ltb px ax) (ltb→lt px ax) (nltb→le px ax)
    where
      right : (i u v j p l : ℕ) → 0 < i → 0 < u → v ≡ 0 → p + j * v ≡ l + i * u → l < p
      right i u v j p l I U z e = omega (arith, mul-pos I U, ap (λ (w : ℕ). w * j) z)

      wrong : (i u v j p l : ℕ) → 0 < i → 0 < u → v ≡ 0 → p + i * u ≡ l + j * v → p < l
      wrong i u v j p l I U z e = omega (arith, mul-pos I U, ap (λ (w : ℕ). w * j) z)

      go : (t : Bool) → (T t → px < ax) → (T (not t) → ax ≤ px) → ltb (less ax ay bx by px py) (plus ax ay bx by px py) ≡ t
      go true g h =
          let g' = g tt in
          verum (ltb (less ax ay bx by px py) (plus ax ay bx by px py)) (lt→ltb (less ax ay bx by px py) (plus ax ay bx by px py)
          (right (ax - px) (by - py) (py - ay) (px - bx) (plus ax ay bx by px py) (less ax ay bx by px py) (omega arith) (omega arith) (omega arith)
          (turn_back ax ay bx by px py (ax - px) (px - bx) (by - py) (py - ay) v_is u_is (omega arith) (omega arith))))
      go false g h =
          let h' = h tt in
          falsum (ltb (less ax ay bx by px py) (plus ax ay bx by px py)) (λ (t : T (ltb (less ax ay bx by px py) (plus ax ay bx by px py))). not-le_of_lt (ltb→lt (less ax ay bx by px py) (plus ax ay bx by px py) t)
          (le_of_lt (wrong (px - ax) (by - py) (py - ay) (bx - px) (plus ax ay bx by px py) (less ax ay bx by px py) (omega arith) (omega arith) (omega arith)
          (turn_forth ax ay bx by px py (px - ax) (bx - px) (by - py) (py - ay) v_is u_is (omega arith) (omega arith)))))
