-- The ray test at whole numbers, each of its tests by the naturals: a coordinate X from 0 to 36,000,000 stands for X - 18,000,000.
-- Assumes nothing.
use mathlib.Core.Path.{◌≡◌, refl, sym, ap, ap₂, ◌∙◌, subst}
use mathlib.Core.Logic.{◌⊎◌, inl, inr, ◌≢◌}
use Prim.Native.Nat.{ℕ, suc, ◌+◌, ◌-◌, ◌*◌, ◌^◌, ◌≤◌, ◌<◌, min, max}
use native.Mathlib.Nat.{le_trans, le_of_eq, le_of_lt}
use native.Mathlib.Omega.{arith}
use mathlib.Core.Bool.{Bool, true, false, not, ◌&&◌, ◌||◌, cond, and-true, and-false, or-false}
use borrow.Author.Tests.{lt-ltb, le-ltb, le-leb, eq-eqb, ne_eqb}
use lib.Dec.{T, ltb, leb, eqb, ltb→lt, nltb→le, leb→le, nleb→lt, eqb→eq, T_not, lit≤, lit<}
use lib.Ieee.{Float, binary64, lt, le, eq, sub, div}
use lib.Ieee.Fits.{and_i, and_l, and_r, eq→eqb}
use Rattle.rounding.specs.Gap.{both_ltb, both_eqb, tri}
use Rattle.rounding.specs.Ints.{dist, diff, Fine, lt_diff, eq_diff, le_diff, eq_not_finite, eq_finite_not}
use Rattle.rounding.specs.Quotients.{Short, sub_diff, quot_eq, quot_le, quot_finite, quot_none, lhs, rhs}
use Rattle.rounding.specs.Upward.{next_up}
use Rattle.rounding.specs.Next.{Bump, next_bump}
use Rattle.rounding.specs.Nudge.{bump_lt, lt_bump, bump_steep}
use Rattle.plane.specs.Sight.{Sight, On, Off}
use Rattle.plane.proofs.Turns.{plus, less}
use Rattle.rays.specs.Ray.{outside, away, degenerate, between, level, ratio, touches, nudged, missed, slope, steep, shortcut, crosses, ray_at}
use Rattle.rays.proofs.Sides.{amid, on_n, counts_n, or_split, falsum, verum, amid_view, amid_make, right_all, left_all, no_turn_amid, at_foot, swap_plus, swap_less}

abbrev pub at : ℕ → Float
at X = diff X 18000000

abbrev pub In : ℕ → Type 0
In X = X ≤ 36000000

pub fine : (X : ℕ) → In X → Fine (dist X 18000000)
fine X h = omega arith

pub short : (X Y : ℕ) → In X → In Y → Short X Y
short X Y h k = omega arith

apart : (X Y : ℕ) → (X ≡ Y → ⊥) → 0 < dist X Y
apart X Y n = let n' : X ≢ Y = n in omega arith

-- ---- the tests
pub lt_at : (X Y : ℕ) → In X → In Y → lt (at X) (at Y) ≡ ltb X Y
lt_at X Y h k = lt_diff X Y 18000000 (fine X h) (fine Y k)

pub eq_at : (X Y : ℕ) → In X → In Y → eq (at X) (at Y) ≡ eqb X Y
eq_at X Y h k = eq_diff X Y 18000000 (fine X h) (fine Y k)

or_leb : (X Y : ℕ) → ltb X Y || eqb X Y ≡ leb X Y
or_leb X Y = go (ltb X Y) (eqb X Y) (leb X Y) (ltb→lt X Y) (nltb→le X Y) (eqb→eq X Y) (λ (e : X ≡ Y). eq→eqb e) (leb→le X Y) (nleb→lt X Y)
  where
    no1 : X < Y → Y < X → ⊥
    no1 h k = omega arith

    no2 : X ≡ Y → Y < X → ⊥
    no2 h k = omega arith

    same : Y ≤ X → X ≤ Y → X ≡ Y
    same h k = omega arith

    go : (p q r : Bool) → (T p → X < Y) → (T (not p) → Y ≤ X) → (T q → X ≡ Y) → (X ≡ Y → T q) → (T r → X ≤ Y) → (T (not r) → Y < X) → p || q ≡ r
    go true q true a b c d e f = refl
    go true q false a b c d e f = absurd (no1 (a tt) (f tt))
    go false true true a b c d e f = refl
    go false true false a b c d e f = absurd (no2 (c tt) (f tt))
    go false false true a b c d e f = absurd (d (same (b tt) (e tt)))
    go false false false a b c d e f = refl

pub le_at : (X Y : ℕ) → In X → In Y → le (at X) (at Y) ≡ leb X Y
le_at X Y h k = le_diff X Y 18000000 (fine X h) (fine Y k) ∙ or_leb X Y

pub sub_at : (X Y : ℕ) → In X → In Y → sub binary64 (at X) (at Y) ≡ diff X Y
sub_at X Y h k = sub_diff X Y 18000000 (fine X h) (fine Y k)

between_at : (u v w : ℕ) → In u → In v → In w → between (at u) (at v) (at w) ≡ amid u v w
between_at u v w a b c =
    ap (λ (t : Bool). cond t (le (at u) (at w) && le (at w) (at v)) (le (at v) (at w) && le (at w) (at u))) (lt_at u v a b)
    ∙ ap₂ (λ (x y : Bool). cond (ltb u v) x y) (ap₂ ◌&&◌ (le_at u w a c) (le_at w v c b)) (ap₂ ◌&&◌ (le_at v w b c) (le_at w u c a))

-- ---- the parts of the ray test that the proof goes by
-- the slopes' test for ends with a below b
abbrev over : Float → Float → Float → Float → Float → Float → Bool
over ax ay bx by x y = le (slope ax ay bx by) (slope ax ay x y)

-- both ends in one place
abbrev point_at : Float → Float → Float → Float → Sight
point_at ax ay x y = cond (eq x ax && eq y ay) On (Off false)

abbrev cast_at : Float → Float → Float → Float → Float → Float → Sight
cast_at ax ay bx by x y = cond (touches ax ay bx by x y) On (Off (crosses ax ay bx by x (nudged ay by y)))

-- ---- the choice of a side
-- o: the point is above or below both ends; s: the slopes' test; r: what comes out
record Core (o s : Bool) (ax bx px : ℕ) (r : Bool) : Type 0 where
  missed' : T o → r ≡ false
  right' : T (not o) → max ax bx ≤ px → r ≡ false
  left' : T (not o) → px < max ax bx → px ≤ min ax bx → r ≡ true
  mid' : T (not o) → min ax bx < px → px < max ax bx → s ≡ r

pick_n : ℕ → ℕ → ℕ → Bool → Bool
pick_n ax bx px s = cond (ltb bx ax) (cond (leb ax px) false (cond (leb px bx) true s)) (cond (leb bx px) false (cond (leb px ax) true s))

pick_core : (o s : Bool) (ax bx px : ℕ) (r : Bool) → Core o s ax bx px r → cond o false (pick_n ax bx px s) ≡ r
unfolding pick_n
pick_core true s ax bx px r c = sym (c.missed' tt)
pick_core false s ax bx px r c = go (ltb bx ax) (leb ax px) (leb px bx) (leb bx px) (leb px ax) (ltb→lt bx ax) (nltb→le bx ax) (leb→le ax px) (nleb→lt ax px) (leb→le px bx) (nleb→lt px bx) (leb→le bx px) (nleb→lt bx px) (leb→le px ax) (nleb→lt px ax)
  where
    R : max ax bx ≤ px → r ≡ false
    R = c.right' tt

    L : px < max ax bx → px ≤ min ax bx → r ≡ true
    L = c.left' tt

    M : min ax bx < px → px < max ax bx → s ≡ r
    M = c.mid' tt

    go : (p q1 q2 q3 q4 : Bool) → (T p → bx < ax) → (T (not p) → ax ≤ bx) → (T q1 → ax ≤ px) → (T (not q1) → px < ax) → (T q2 → px ≤ bx) → (T (not q2) → bx < px) → (T q3 → bx ≤ px) → (T (not q3) → px < bx) → (T q4 → px ≤ ax) → (T (not q4) → ax < px)
        → cond p (cond q1 false (cond q2 true s)) (cond q3 false (cond q4 true s)) ≡ r
    go true true q2 q3 q4 a b e f g h i j k l = let a' = a tt in let e' = e tt in sym (R (omega arith))
    go true false true q3 q4 a b e f g h i j k l = let a' = a tt in let f' = f tt in let g' = g tt in sym (L (omega arith) (omega arith))
    go true false false q3 q4 a b e f g h i j k l = let a' = a tt in let f' = f tt in let h' = h tt in M (omega arith) (omega arith)
    go false q1 q2 true q4 a b e f g h i j k l = let b' = b tt in let i' = i tt in sym (R (omega arith))
    go false q1 q2 false true a b e f g h i j k l = let b' = b tt in let j' = j tt in let k' = k tt in sym (L (omega arith) (omega arith))
    go false q1 q2 false false a b e f g h i j k l = let b' = b tt in let j' = j tt in let l' = l tt in M (omega arith) (omega arith)

pick_at : (ax bx px : ℕ) (s : Bool) → In ax → In bx → In px → cond (lt (at bx) (at ax)) (shortcut (at bx) (at ax) (at px) s) (shortcut (at ax) (at bx) (at px) s) ≡ pick_n ax bx px s
unfolding pick_n
pick_at ax bx px s a b p =
    ap (λ (t : Bool). cond t (shortcut (at bx) (at ax) (at px) s) (shortcut (at ax) (at bx) (at px) s)) (lt_at bx ax b a)
    ∙ ap₂ (λ (x y : Bool). cond (ltb bx ax) x y)
    (ap₂ (λ (x y : Bool). cond x false (cond y true s)) (le_at ax px a p) (le_at px bx p b))
    (ap₂ (λ (x y : Bool). cond x false (cond y true s)) (le_at bx px b p) (le_at px ax p a))

-- ---- a segment that rises from a to b
-- the nudged y: at an end it is a little more than that whole number, and elsewhere it is the whole number itself
data Place (z : Float) (ay by py : ℕ) : Type 0 where
  foot : py ≡ ay → Bump z py 18000000 0x1000_0000 → Place z ay by py
  head : py ≡ by → Bump z py 18000000 0x1000_0000 → Place z ay by py
  inner : ay < py → py < by → z ≡ at py → Place z ay by py

module _ (ax ay bx by px py : ℕ) (iax : In ax) (iay : In ay) (ibx : In bx) (iby : In by) (ipx : In px) (ipy : In py) (up : ay < by) (lo : ay ≤ py) (hi : py ≤ by) (turn : plus ax ay bx by px py ≡ less ax ay bx by px py → ⊥) where
  to_right : max ax bx ≤ px → ltb (less ax ay bx by px py) (plus ax ay bx by px py) ≡ false
  to_right h = le-ltb (less ax ay bx by px py) (plus ax ay bx by px py) (right_all ax ay bx by px py lo hi h)

  to_left : px ≤ min ax bx → ltb (less ax ay bx by px py) (plus ax ay bx by px py) ≡ true
  to_left h = lt-ltb (less ax ay bx by px py) (plus ax ay bx by px py) (strict (less ax ay bx by px py) (plus ax ay bx by px py) (left_all ax ay bx by px py lo hi h) turn)
    where
      strict : (l p : ℕ) → l ≤ p → (p ≡ l → ⊥) → l < p
      strict l p h n = let n' : p ≢ l = n in omega arith

  one_side : min ax bx < px → px < max ax bx → ltb bx ax ≡ ltb px ax
  one_side l r = both_ltb px ax bx ax (λ (h : px < ax). omega arith) (λ (h : ax ≤ px). omega arith)

  over_is : (z : Float) → over (at ax) (at ay) (at bx) (at by) (at px) z ≡ le (div binary64 (diff by ay) (diff bx ax)) (div binary64 (sub binary64 z (at ay)) (diff px ax))
  over_is z = ap₂ le (ap₂ (div binary64) (sub_at by ay iby iay) (sub_at bx ax ibx iax)) (ap (λ (w : Float). div binary64 (sub binary64 z (at ay)) w) (sub_at px ax ipx iax))

  -- within the strip, at a height of its own
  steep_inner : min ax bx < px → px < max ax bx → over (at ax) (at ay) (at bx) (at by) (at px) (at py) ≡ ltb (less ax ay bx by px py) (plus ax ay bx by px py)
  steep_inner l r =
      over_is (at py)
      ∙ ap (λ (w : Float). le (div binary64 (diff by ay) (diff bx ax)) (div binary64 w (diff px ax))) (sub_at py ay ipy iay)
      ∙ quot_le by ay bx ax py ay px ax (short by ay iby iay) (short bx ax ibx iax) (short py ay ipy iay) (short px ax ipx iax) (apart bx ax n1) (apart px ax n2) (one_side l r)
      ∙ regroup (by * px) (ay * ax) (py * ax) (ay * bx) (by * ax) (ay * px) (py * bx) (lhs by ay bx ax py ay px ax) (rhs by ay bx ax py ay px ax) (less ax ay bx by px py) (plus ax ay bx by px py) turn (omega arith) (omega arith)
    where
      n1 : bx ≡ ax → ⊥
      n1 e = omega arith

      n2 : px ≡ ax → ⊥
      n2 e = omega arith

      cancel : (l r q p b : ℕ) → l ≡ q + b → r ≡ p + b → l ≡ r → p ≡ q
      cancel l r q p b x y h = omega arith

      regroup : (a b c d e f g l r q p : ℕ) → (p ≡ q → ⊥) → l ≡ q + b → r ≡ p + b → ltb l r || eqb l r ≡ ltb q p
      regroup a b c d e f g l r q p n x y = ap₂ ◌||◌ (both_ltb q p l r (λ (h : q < p). omega arith) (λ (h : p ≤ q). omega arith)) (ne_eqb l r (λ (h : l ≡ r). n (cancel l r q p b x y h))) ∙ or-false (ltb q p)

  steep_foot : (z : Float) → py ≡ ay → Bump z py 18000000 0x1000_0000 → min ax bx < px → px < max ax bx → over (at ax) (at ay) (at bx) (at by) (at px) z ≡ ltb (less ax ay bx by px py) (plus ax ay bx by px py)
  steep_foot z f b l r =
      over_is z
      ∙ bump_steep z ay 18000000 (subst (λ (Y : ℕ). Bump z Y 18000000 0x1000_0000) f b) (fine ay iay) px ax (wide (short px ax ipx iax)) (apart px ax n2) by bx ax up (short by ay iby iay) (short bx ax ibx iax) (apart bx ax n1) (one_side l r)
      ∙ sym (at_foot ax ay bx by px py lo hi f (subst (λ (Y : ℕ). Y < by) (sym f) up) l r)
    where
      n1 : bx ≡ ax → ⊥
      n1 e = omega arith

      n2 : px ≡ ax → ⊥
      n2 e = omega arith

      wide : dist px ax < 2 ^ 26 → dist px ax ≤ 2 ^ 53
      wide h = le_trans (le_of_lt h) (lit≤ tt)

  -- above or below
  out_bump : (z : Float) → Bump z py 18000000 0x1000_0000 → outside (at ay) (at by) z ≡ ltb py ay || ltb by (suc py)
  out_bump z b = ap₂ ◌||◌ (bump_lt z py 18000000 0x1000_0000 b (lit< tt) ay (fine ay iay)) (lt_bump z py 18000000 0x1000_0000 b (lit< tt) by (fine by iby))

  out_inner : outside (at ay) (at by) (at py) ≡ ltb py ay || ltb by py
  out_inner = ap₂ ◌||◌ (lt_at py ay ipy iay) (lt_at by py iby ipy)

  neither : (a b c d : ℕ) → b ≤ a → d ≤ c → ltb a b || ltb c d ≡ false
  neither a b c d h k = ap₂ ◌||◌ (le-ltb a b h) (le-ltb c d k)

  void : (b : Bool) → b ≡ false → T b → ⊥
  void b e t = subst T e t

  full : (b : Bool) → b ≡ true → T (not b) → ⊥
  full b e t = T_not b t (subst T (sym e) tt)

  below_head : (t : Bool) → py < by → ltb py by && t ≡ t
  below_head t h = ap (λ (u : Bool). u && t) (lt-ltb py by h)

  rise_core : (z : Float) → Place z ay by py → Core (outside (at ay) (at by) z) (over (at ax) (at ay) (at bx) (at by) (at px) z) ax bx px (ltb py by && ltb (less ax ay bx by px py) (plus ax ay bx by px py))
  rise_core z (foot f b) =
      let o : outside (at ay) (at by) z ≡ false = out_bump z b ∙ neither py ay by (suc py) (le_of_eq (sym f)) (subst (λ (Y : ℕ). Y < by) (sym f) up) in
      let h : ltb py by && ltb (less ax ay bx by px py) (plus ax ay bx by px py) ≡ ltb (less ax ay bx by px py) (plus ax ay bx by px py) = below_head (ltb (less ax ay bx by px py) (plus ax ay bx by px py)) (subst (λ (Y : ℕ). Y < by) (sym f) up) in
      record {
        missed' = λ (t : T (outside (at ay) (at by) z)). absurd (void (outside (at ay) (at by) z) o t);
        right' = λ (t : T (not (outside (at ay) (at by) z))) (r : max ax bx ≤ px). h ∙ to_right r;
        left' = λ (t : T (not (outside (at ay) (at by) z))) (q : px < max ax bx) (l : px ≤ min ax bx). h ∙ to_left l;
        mid' = λ (t : T (not (outside (at ay) (at by) z))) (l : min ax bx < px) (r : px < max ax bx). steep_foot z f b l r ∙ sym h;
      }
  rise_core z (head f b) =
      let h : ltb py by && ltb (less ax ay bx by px py) (plus ax ay bx by px py) ≡ false = ap (λ (u : Bool). u && ltb (less ax ay bx by px py) (plus ax ay bx by px py)) (le-ltb py by (le_of_eq (sym f))) in
      let o : outside (at ay) (at by) z ≡ true = out_bump z b ∙ ap₂ ◌||◌ (le-ltb py ay lo) (lt-ltb by (suc py) (le_of_eq (ap suc (sym f)))) in
      record {
        missed' = λ (t : T (outside (at ay) (at by) z)). h;
        right' = λ (t : T (not (outside (at ay) (at by) z))) (r : max ax bx ≤ px). absurd (full (outside (at ay) (at by) z) o t);
        left' = λ (t : T (not (outside (at ay) (at by) z))) (q : px < max ax bx) (l : px ≤ min ax bx). absurd (full (outside (at ay) (at by) z) o t);
        mid' = λ (t : T (not (outside (at ay) (at by) z))) (l : min ax bx < px) (r : px < max ax bx). absurd (full (outside (at ay) (at by) z) o t);
      }
  rise_core z (inner a b e) =
      let o : outside (at ay) (at by) z ≡ false = ap (outside (at ay) (at by)) e ∙ out_inner ∙ neither py ay by py (le_of_lt a) (le_of_lt b) in
      let h : ltb py by && ltb (less ax ay bx by px py) (plus ax ay bx by px py) ≡ ltb (less ax ay bx by px py) (plus ax ay bx by px py) = below_head (ltb (less ax ay bx by px py) (plus ax ay bx by px py)) b in
      record {
        missed' = λ (t : T (outside (at ay) (at by) z)). absurd (void (outside (at ay) (at by) z) o t);
        right' = λ (t : T (not (outside (at ay) (at by) z))) (r : max ax bx ≤ px). h ∙ to_right r;
        left' = λ (t : T (not (outside (at ay) (at by) z))) (q : px < max ax bx) (l : px ≤ min ax bx). h ∙ to_left l;
        mid' = λ (t : T (not (outside (at ay) (at by) z))) (l : min ax bx < px) (r : px < max ax bx). ap (over (at ax) (at ay) (at bx) (at by) (at px)) e ∙ steep_inner l r ∙ sym h;
      }

-- ---- small facts on tests
pub bool_iff : (p q : Bool) → (T p → T q) → (T q → T p) → p ≡ q
bool_iff true true f g = refl
bool_iff true false f g = absurd (f tt)
bool_iff false true f g = absurd (g tt)
bool_iff false false f g = refl

-- between two ends in one place there is one place
squeeze : (a b p : ℕ) → a ≡ b → min a b ≤ p → p ≤ max a b → p ≡ b
squeeze a b p e l h = omega arith

amid_same : (a b p : ℕ) → a ≡ b → p ≡ b → (min a b ≤ p) × (p ≤ max a b)
amid_same a b p e f = (omega arith, omega arith)

-- ---- the nudge
nudged_at : (ay by py : ℕ) → In ay → In by → In py → nudged (at ay) (at by) (at py) ≡ cond (eqb py ay || eqb py by) (next_up (at py)) (at py)
nudged_at ay by py a b p = ap (λ (t : Bool). cond t (next_up (at py)) (at py)) (ap₂ ◌||◌ (eq_at py ay p a) (eq_at py by p b))

place : (u v lo' hi' py : ℕ) → (py ≡ u → Bump (next_up (at py)) py 18000000 0x1000_0000 → Place (next_up (at py)) lo' hi' py) → (py ≡ v → Bump (next_up (at py)) py 18000000 0x1000_0000 → Place (next_up (at py)) lo' hi' py)
    → ((py ≡ u → ⊥) → (py ≡ v → ⊥) → Place (at py) lo' hi' py) → Bump (next_up (at py)) py 18000000 0x1000_0000 → Place (cond (eqb py u || eqb py v) (next_up (at py)) (at py)) lo' hi' py
place u v lo' hi' py f g h b = go (eqb py u) (eqb py v) (eqb→eq py u) (eqb→eq py v) (λ (e : py ≡ u). eq→eqb e) (λ (e : py ≡ v). eq→eqb e)
  where
    go : (p q : Bool) → (T p → py ≡ u) → (T q → py ≡ v) → (py ≡ u → T p) → (py ≡ v → T q) → Place (cond (p || q) (next_up (at py)) (at py)) lo' hi' py
    go true q a c d e = f (a tt) b
    go false true a c d e = g (c tt) b
    go false false a c d e = h (λ (x : py ≡ u). d x) (λ (x : py ≡ v). e x)

strictly : (a b : ℕ) → a ≤ b → (b ≡ a → ⊥) → a < b
strictly a b h n = let n' : b ≢ a = n in omega arith

module _ (ax ay bx by px py : ℕ) (iax : In ax) (iay : In ay) (ibx : In bx) (iby : In by) (ipx : In px) (ipy : In py) (low : dist py 18000000 ≤ 0x100_0000) where
  place_up : ay ≤ py → py ≤ by → Place (nudged (at ay) (at by) (at py)) ay by py
  place_up lo hi =
      subst (λ (w : Float). Place w ay by py) (sym (nudged_at ay by py iay iby ipy))
      (place ay by ay by py (λ e b. foot e b) (λ e b. head e b) (λ n m. inner (strictly ay py lo n) (strictly py by hi (λ (e : by ≡ py). m (sym e))) refl) (next_bump py 18000000 low))

  place_down : by ≤ py → py ≤ ay → Place (nudged (at ay) (at by) (at py)) by ay py
  place_down lo hi =
      subst (λ (w : Float). Place w by ay py) (sym (nudged_at ay by py iay iby ipy))
      (place ay by by ay py (λ e b. head e b) (λ e b. foot e b) (λ n m. inner (strictly by py lo m) (strictly py ay hi (λ (e : ay ≡ py). n (sym e))) refl) (next_bump py 18000000 low))

  -- ---- crossing
  crosses_up : ay < by → ay ≤ py → py ≤ by → (plus ax ay bx by px py ≡ less ax ay bx by px py → ⊥)
      → crosses (at ax) (at ay) (at bx) (at by) (at px) (nudged (at ay) (at by) (at py)) ≡ ltb py by && ltb (less ax ay bx by px py) (plus ax ay bx by px py)
  unfolding crosses
  crosses_up up lo hi turn =
      let w = nudged (at ay) (at by) (at py) in
      let e : lt (at ay) (at by) ≡ true = lt_at ay by iay iby ∙ lt-ltb ay by up in
      ap₂ (λ (o s : Bool). cond o false (cond (lt (at bx) (at ax)) (shortcut (at bx) (at ax) (at px) s) (shortcut (at ax) (at bx) (at px) s)))
      (ap (λ (t : Bool). cond t (outside (at ay) (at by) w) (outside (at by) (at ay) w)) e)
      (ap (λ (t : Bool). cond t (over (at ax) (at ay) (at bx) (at by) (at px) w) (over (at bx) (at by) (at ax) (at ay) (at px) w)) e)
      ∙ ap (λ (t : Bool). cond (outside (at ay) (at by) w) false t) (pick_at ax bx px (over (at ax) (at ay) (at bx) (at by) (at px) w) iax ibx ipx)
      ∙ pick_core (outside (at ay) (at by) w) (over (at ax) (at ay) (at bx) (at by) (at px) w) ax bx px (ltb py by && ltb (less ax ay bx by px py) (plus ax ay bx by px py))
      (rise_core ax ay bx by px py iax iay ibx iby ipx ipy up lo hi turn w (place_up lo hi))

  crosses_down : by < ay → by ≤ py → py ≤ ay → (plus ax ay bx by px py ≡ less ax ay bx by px py → ⊥)
      → crosses (at ax) (at ay) (at bx) (at by) (at px) (nudged (at ay) (at by) (at py)) ≡ ltb py ay && ltb (plus ax ay bx by px py) (less ax ay bx by px py)
  unfolding crosses
  crosses_down down lo hi turn =
      let w = nudged (at ay) (at by) (at py) in
      let e : lt (at ay) (at by) ≡ false = lt_at ay by iay iby ∙ le-ltb ay by (le_of_lt down) in
      let r : Bool = ltb py ay && ltb (less bx by ax ay px py) (plus bx by ax ay px py) in
      let c : Core (outside (at by) (at ay) w) (over (at bx) (at by) (at ax) (at ay) (at px) w) bx ax px r =
      rise_core bx by ax ay px py ibx iby iax iay ipx ipy down lo hi (λ (q : plus bx by ax ay px py ≡ less bx by ax ay px py). turn (swap_plus ax ay bx by px py ∙ sym q ∙ sym (swap_less ax ay bx by px py))) w (place_down lo hi) in
      ap₂ (λ (o s : Bool). cond o false (cond (lt (at bx) (at ax)) (shortcut (at bx) (at ax) (at px) s) (shortcut (at ax) (at bx) (at px) s)))
      (ap (λ (t : Bool). cond t (outside (at ay) (at by) w) (outside (at by) (at ay) w)) e)
      (ap (λ (t : Bool). cond t (over (at ax) (at ay) (at bx) (at by) (at px) w) (over (at bx) (at by) (at ax) (at ay) (at px) w)) e)
      ∙ ap (λ (t : Bool). cond (outside (at by) (at ay) w) false t) (pick_at ax bx px (over (at bx) (at by) (at ax) (at ay) (at px) w) iax ibx ipx)
      ∙ pick_core (outside (at by) (at ay) w) (over (at bx) (at by) (at ax) (at ay) (at px) w) ax bx px r
      (record {
        missed' = c.missed';
        right' = λ (t : T (not (outside (at by) (at ay) w))) (h : max ax bx ≤ px). c.right' t (omega arith);
        left' = λ (t : T (not (outside (at by) (at ay) w))) (h : px < max ax bx) (k : px ≤ min ax bx). c.left' t (omega arith) (omega arith);
        mid' = λ (t : T (not (outside (at by) (at ay) w))) (h : min ax bx < px) (k : px < max ax bx). c.mid' t (omega arith) (omega arith);
      })
      ∙ ap₂ (λ (l p : ℕ). ltb py ay && ltb l p) (sym (swap_plus ax ay bx by px py)) (sym (swap_less ax ay bx by px py))

  -- ---- on the segment
  level_at : (u v w u' v' w' : ℕ) → In u → In v → In w → In u' → In v' → In w' → level (at u) (at v) (at w) (at u') (at v') (at w') ≡ eqb u v && eqb w v && amid u' v' w'
  level_at u v w u' v' w' a b c a' b' c' = ap₂ ◌&&◌ (ap₂ ◌&&◌ (eq_at u v a b) (eq_at w v c b)) (between_at u' v' w' a' b' c')

  ratios_at : eq (ratio (at ax) (at bx) (at px)) (ratio (at ay) (at by) (at py)) ≡ eq (div binary64 (diff px ax) (diff bx ax)) (div binary64 (diff py ay) (diff by ay))
  ratios_at = ap₂ eq (ap₂ (div binary64) (sub_at px ax ipx iax) (sub_at bx ax ibx iax)) (ap₂ (div binary64) (sub_at py ay ipy iay) (sub_at by ay iby iay))

  touches_at : touches (at ax) (at ay) (at bx) (at by) (at px) (at py)
      ≡ (eqb ay by && eqb py by && amid ax bx px) || ((eqb ax bx && eqb px bx && amid ay by py) || eq (div binary64 (diff px ax) (diff bx ax)) (div binary64 (diff py ay) (diff by ay)))
  unfolding touches
  touches_at = ap₂ ◌||◌ (level_at ay by py ax bx px iay iby ipy iax ibx ipx) (ap₂ ◌||◌ (level_at ax bx px ay by py iax ibx ipx iay iby ipy) ratios_at)

  on_make : plus ax ay bx by px py ≡ less ax ay bx by px py → T (amid ax bx px) → T (amid ay by py) → T (on_n ax ay bx by px py)
  unfolding on_n
  on_make e s t = and_i (eqb (plus ax ay bx by px py) (less ax ay bx by px py)) (amid ax bx px && amid ay by py) (eq→eqb e) (and_i (amid ax bx px) (amid ay by py) s t)

  on_view : T (on_n ax ay bx by px py) → (plus ax ay bx by px py ≡ less ax ay bx by px py) × T (amid ax bx px) × T (amid ay by py)
  unfolding on_n
  on_view t =
      let r = and_r (eqb (plus ax ay bx by px py) (less ax ay bx by px py)) (amid ax bx px && amid ay by py) t in
      (eqb→eq (plus ax ay bx by px py) (less ax ay bx by px py) (and_l (eqb (plus ax ay bx by px py) (less ax ay bx by px py)) (amid ax bx px && amid ay by py) t), and_l (amid ax bx px) (amid ay by py) r, and_r (amid ax bx px) (amid ay by py) r)

  zero_dist : (X Y : ℕ) → X ≡ Y → dist Y X ≡ 0
  zero_dist X Y e = omega arith

  -- a slanted or upright segment
  touches_slanted : (ay ≡ by → ⊥) → T (amid ay by py) → (plus ax ay bx by px py ≡ less ax ay bx by px py → (min ax bx ≤ px) × (px ≤ max ax bx)) → touches (at ax) (at ay) (at bx) (at by) (at px) (at py) ≡ on_n ax ay bx by px py
  touches_slanted n t within' = touches_at ∙ ap (λ (u : Bool). (u && eqb py by && amid ax bx px) || rest) (ne_eqb ay by n) ∙ go (eqb ax bx) (eqb→eq ax bx) (λ (e : ax ≡ bx). eq→eqb e)
    where
      R : Bool
      R = eq (div binary64 (diff px ax) (diff bx ax)) (div binary64 (diff py ay) (diff by ay))

      rest : Bool
      rest = (eqb ax bx && eqb px bx && amid ay by py) || eq (div binary64 (diff px ax) (diff bx ax)) (div binary64 (diff py ay) (diff by ay))

      upright : (a b p : ℕ) → a ≡ b → p ≡ b → plus a ay b by p py ≡ less a ay b by p py
      upright a b p e f = rw (e, f) (omega arith)

      nonzero : 0 < dist by ay
      nonzero = apart by ay (λ (e : by ≡ ay). n (sym e))

      no_ratio : ax ≡ bx → eq (div binary64 (diff px ax) (diff bx ax)) (div binary64 (diff py ay) (diff by ay)) ≡ false
      no_ratio e = eq_not_finite (div binary64 (diff px ax) (diff bx ax)) (div binary64 (diff py ay) (diff by ay)) (quot_none px ax bx ax (short px ax ipx iax) (short bx ax ibx iax) (zero_dist ax bx e)) (quot_finite py ay by ay (short py ay ipy iay) (short by ay iby iay) nonzero)

      shift : (l r q p d : ℕ) → l ≡ q + d → r ≡ p + d → eqb l r ≡ eqb p q
      shift l r q p d x y = both_eqb p q l r (λ (h : p ≡ q). omega arith) (λ (h : l ≡ r). omega arith)

      some_ratio : (ax ≡ bx → ⊥) → eq (div binary64 (diff px ax) (diff bx ax)) (div binary64 (diff py ay) (diff by ay)) ≡ eqb (plus ax ay bx by px py) (less ax ay bx by px py)
      some_ratio m =
          quot_eq px ax bx ax py ay by ay (short px ax ipx iax) (short bx ax ibx iax) (short py ay ipy iay) (short by ay iby iay) (apart bx ax (λ (e : bx ≡ ax). m (sym e))) nonzero
          ∙ shift (lhs px ax bx ax py ay by ay) (rhs px ax bx ax py ay by ay) (less ax ay bx by px py) (plus ax ay bx by px py) (ax * ay) (omega arith) (omega arith)

      go : (b : Bool) → (T b → ax ≡ bx) → (ax ≡ bx → T b) → (b && eqb px bx && amid ay by py) || eq (div binary64 (diff px ax) (diff bx ax)) (div binary64 (diff py ay) (diff by ay)) ≡ on_n ax ay bx by px py
      go true f g =
          let e = f tt in
          ap₂ ◌||◌ (ap (λ (u : Bool). eqb px bx && u) (verum (amid ay by py) t) ∙ and-true (eqb px bx)) (no_ratio e)
          ∙ or-false (eqb px bx)
          ∙ bool_iff (eqb px bx) (on_n ax ay bx by px py)
          (λ (h : T (eqb px bx)). let q = eqb→eq px bx h in let w = amid_same ax bx px e q in on_make (upright ax bx px e q) (amid_make ax bx px w.0 w.1) t)
          (λ (h : T (on_n ax ay bx by px py)). let w = amid_view ax bx px (on_view h).1 in eq→eqb (squeeze ax bx px e w.0 w.1))
      go false f g =
          some_ratio (λ (e : ax ≡ bx). g e)
          ∙ bool_iff (eqb (plus ax ay bx by px py) (less ax ay bx by px py)) (on_n ax ay bx by px py)
          (λ (h : T (eqb (plus ax ay bx by px py) (less ax ay bx by px py))). let q = eqb→eq (plus ax ay bx by px py) (less ax ay bx by px py) h in let w = within' q in on_make q (amid_make ax bx px w.0 w.1) t)
          (λ (h : T (on_n ax ay bx by px py)). eq→eqb (on_view h).0)

  -- a level segment
  touches_level : ay ≡ by → (ax ≡ bx → ⊥) → touches (at ax) (at ay) (at bx) (at by) (at px) (at py) ≡ on_n ax ay bx by px py
  touches_level e n =
      touches_at
      ∙ ap₂ ◌||◌ (ap (λ (u : Bool). u && eqb py by && amid ax bx px) (eq-eqb ay by e))
      (ap₂ ◌||◌ (ap (λ (u : Bool). u && eqb px bx && amid ay by py) (ne_eqb ax bx n)) no_ratio)
      ∙ or-false (eqb py by && amid ax bx px)
      ∙ bool_iff (eqb py by && amid ax bx px) (on_n ax ay bx by px py)
      (λ (h : T (eqb py by && amid ax bx px)). let q = eqb→eq py by (and_l (eqb py by) (amid ax bx px) h) in let w = amid_same ay by py e q in on_make (flat ay by py e q) (and_r (eqb py by) (amid ax bx px) h) (amid_make ay by py w.0 w.1))
      (λ (h : T (on_n ax ay bx by px py)). let w = amid_view ay by py (on_view h).2 in and_i (eqb py by) (amid ax bx px) (eq→eqb (squeeze ay by py e w.0 w.1)) (on_view h).1)
    where
      flat : (a b p : ℕ) → a ≡ b → p ≡ b → plus ax a bx b px p ≡ less ax a bx b px p
      flat a b p e f = rw (e, f) (omega arith)

      no_ratio : eq (div binary64 (diff px ax) (diff bx ax)) (div binary64 (diff py ay) (diff by ay)) ≡ false
      no_ratio = eq_finite_not (div binary64 (diff px ax) (diff bx ax)) (div binary64 (diff py ay) (diff by ay)) (quot_finite px ax bx ax (short px ax ipx iax) (short bx ax ibx iax) (apart bx ax (λ (q : bx ≡ ax). n (sym q)))) (quot_none py ay by ay (short py ay ipy iay) (short by ay iby iay) (zero_dist ay by e))

  -- ---- the whole
  counts_view : T (counts_n ax ay bx by px py) → (min ay by ≤ py) × (py < max ay by)
  unfolding counts_n
  counts_view t = go (or_split ((leb ay py && ltb py by) && L) ((leb by py && ltb py ay) && R) t)
    where
      L : Bool
      L = ltb (less ax ay bx by px py) (plus ax ay bx by px py)

      R : Bool
      R = ltb (plus ax ay bx by px py) (less ax ay bx by px py)

      go : T ((leb ay py && ltb py by) && L) ⊎ T ((leb by py && ltb py ay) && R) → (min ay by ≤ py) × (py < max ay by)
      go (inl u) =
          let w = and_l (leb ay py && ltb py by) L u in
          let p = leb→le ay py (and_l (leb ay py) (ltb py by) w) in
          let q = ltb→lt py by (and_r (leb ay py) (ltb py by) w) in
          (omega arith, omega arith)
      go (inr u) =
          let w = and_l (leb by py && ltb py ay) R u in
          let p = leb→le by py (and_l (leb by py) (ltb py ay) w) in
          let q = ltb→lt py ay (and_r (leb by py) (ltb py ay) w) in
          (omega arith, omega arith)

  counts_up : ay ≤ py → counts_n ax ay bx by px py ≡ ltb py by && ltb (less ax ay bx by px py) (plus ax ay bx by px py)
  unfolding counts_n
  counts_up lo =
      let L : Bool = ltb (less ax ay bx by px py) (plus ax ay bx by px py) in
      let R : Bool = ltb (plus ax ay bx by px py) (less ax ay bx by px py) in
      ap₂ (λ (u v : Bool). ((u && ltb py by) && L) || ((leb by py && v) && R)) (le-leb ay py lo) (le-ltb py ay lo)
      ∙ ap (λ (u : Bool). (ltb py by && L) || (u && R)) (and-false (leb by py))
      ∙ or-false (ltb py by && L)

  counts_down : by ≤ py → counts_n ax ay bx by px py ≡ ltb py ay && ltb (plus ax ay bx by px py) (less ax ay bx by px py)
  unfolding counts_n
  counts_down lo =
      let L : Bool = ltb (less ax ay bx by px py) (plus ax ay bx by px py) in
      let R : Bool = ltb (plus ax ay bx by px py) (less ax ay bx by px py) in
      ap₂ (λ (u v : Bool). ((leb ay py && u) && L) || ((v && ltb py ay) && R)) (le-ltb py by lo) (le-leb by py lo)
      ∙ ap (λ (u : Bool). (u && L) || (ltb py ay && R)) (and-false (leb ay py))

  -- what exact geometry says
  abbrev pub exact_at : Sight
  exact_at = cond (on_n ax ay bx by px py) On (Off (counts_n ax ay bx by px py))

  off_exact : (min ay by ≤ py → py ≤ max ay by → ⊥) → Off false ≡ exact_at
  off_exact n =
      sym (ap₂ (λ (u v : Bool). cond u On (Off v))
      (falsum (on_n ax ay bx by px py) (λ (t : T (on_n ax ay bx by px py)). let w = amid_view ay by py (on_view t).2 in n w.0 w.1))
      (falsum (counts_n ax ay bx by px py) (λ (t : T (counts_n ax ay bx by px py)). let w = counts_view t in n w.0 (le_of_lt w.1))))

  cast_exact : touches (at ax) (at ay) (at bx) (at by) (at px) (at py) ≡ on_n ax ay bx by px py
      → ((T (on_n ax ay bx by px py) → ⊥) → crosses (at ax) (at ay) (at bx) (at by) (at px) (nudged (at ay) (at by) (at py)) ≡ counts_n ax ay bx by px py)
      → cast_at (at ax) (at ay) (at bx) (at by) (at px) (at py) ≡ exact_at
  cast_exact e f =
      ap (λ (u : Bool). cond u On (Off (crosses (at ax) (at ay) (at bx) (at by) (at px) (nudged (at ay) (at by) (at py))))) e
      ∙ go (on_n ax ay bx by px py) f
    where
      go : (o : Bool) → ((T o → ⊥) → crosses (at ax) (at ay) (at bx) (at by) (at px) (nudged (at ay) (at by) (at py)) ≡ counts_n ax ay bx by px py)
          → cond o On (Off (crosses (at ax) (at ay) (at bx) (at by) (at px) (nudged (at ay) (at by) (at py)))) ≡ cond o On (Off (counts_n ax ay bx by px py))
      go true g = refl
      go false g = ap Off (g (λ t. t))

  -- from the two tests before the cast
  ray_is : (o m : Bool) → away (at ay) (at by) (at py) ≡ o → degenerate (at ax) (at ay) (at bx) (at by) ≡ m
      → ray_at (at ax) (at ay) (at bx) (at by) (at px) (at py) ≡ cond o (Off false) (cond m (point_at (at ax) (at ay) (at px) (at py)) (cast_at (at ax) (at ay) (at bx) (at by) (at px) (at py)))
  unfolding ray_at
  ray_is o m p q = ap₂ (λ (u v : Bool). cond u (Off false) (cond v (point_at (at ax) (at ay) (at px) (at py)) (cast_at (at ax) (at ay) (at bx) (at by) (at px) (at py)))) p q

  outside_at : (u v : ℕ) → In u → In v → outside (at u) (at v) (at py) ≡ ltb py u || ltb v py
  outside_at u v a b = ap₂ ◌||◌ (lt_at py u ipy a) (lt_at v py b ipy)

  not_same : (ay ≡ by → ⊥) → eq (at ay) (at by) && eq (at ax) (at bx) ≡ false
  not_same n = ap (λ (u : Bool). u && eq (at ax) (at bx)) (eq_at ay by iay iby ∙ ne_eqb ay by n)

  ray_up : ay < by → ray_at (at ax) (at ay) (at bx) (at by) (at px) (at py) ≡ exact_at
  ray_up up =
      ray_is (ltb py ay || ltb by py) false
      (ap (λ (t : Bool). cond t (outside (at ay) (at by) (at py)) (lt (at by) (at ay) && outside (at by) (at ay) (at py))) (lt_at ay by iay iby ∙ lt-ltb ay by up) ∙ outside_at ay by iay iby)
      (not_same n)
      ∙ go (ltb py ay) (ltb by py) (ltb→lt py ay) (nltb→le py ay) (ltb→lt by py) (nltb→le by py)
    where
      n : ay ≡ by → ⊥
      n e = omega arith

      body : ay ≤ py → py ≤ by → cast_at (at ax) (at ay) (at bx) (at by) (at px) (at py) ≡ exact_at
      body lo hi =
          let s : T (amid ay by py) = amid_make ay by py (omega arith) (omega arith) in
          let w = no_turn_amid ax ay bx by px py lo hi up in
          cast_exact (touches_slanted n s w)
          (λ (o : T (on_n ax ay bx by px py) → ⊥).
          crosses_up up lo hi (λ (e : plus ax ay bx by px py ≡ less ax ay bx by px py). o (on_make e (amid_make ax bx px (w e).0 (w e).1) s)) ∙ sym (counts_up lo))

      go : (p q : Bool) → (T p → py < ay) → (T (not p) → ay ≤ py) → (T q → by < py) → (T (not q) → py ≤ by) → cond (p || q) (Off false) (cast_at (at ax) (at ay) (at bx) (at by) (at px) (at py)) ≡ exact_at
      go true q a b c d = let a' = a tt in off_exact (λ (h : min ay by ≤ py) (k : py ≤ max ay by). omega arith)
      go false true a b c d = let c' = c tt in off_exact (λ (h : min ay by ≤ py) (k : py ≤ max ay by). omega arith)
      go false false a b c d = body (b tt) (d tt)

  ray_down : by < ay → ray_at (at ax) (at ay) (at bx) (at by) (at px) (at py) ≡ exact_at
  ray_down down =
      ray_is (ltb py by || ltb ay py) false
      (ap₂ (λ (t u : Bool). cond t (outside (at ay) (at by) (at py)) (u && outside (at by) (at ay) (at py))) (lt_at ay by iay iby ∙ le-ltb ay by (le_of_lt down)) (lt_at by ay iby iay ∙ lt-ltb by ay down) ∙ outside_at by ay iby iay)
      (not_same n)
      ∙ go (ltb py by) (ltb ay py) (ltb→lt py by) (nltb→le py by) (ltb→lt ay py) (nltb→le ay py)
    where
      n : ay ≡ by → ⊥
      n e = omega arith

      body : by ≤ py → py ≤ ay → cast_at (at ax) (at ay) (at bx) (at by) (at px) (at py) ≡ exact_at
      body lo hi =
          let s : T (amid ay by py) = amid_make ay by py (omega arith) (omega arith) in
          let w : plus ax ay bx by px py ≡ less ax ay bx by px py → (min ax bx ≤ px) × (px ≤ max ax bx) =
          λ (e : plus ax ay bx by px py ≡ less ax ay bx by px py). turned (no_turn_amid bx by ax ay px py lo hi down (sym (swap_less ax ay bx by px py) ∙ sym e ∙ swap_plus ax ay bx by px py)) in
          cast_exact (touches_slanted n s w)
          (λ (o : T (on_n ax ay bx by px py) → ⊥).
          crosses_down down lo hi (λ (e : plus ax ay bx by px py ≡ less ax ay bx by px py). o (on_make e (amid_make ax bx px (w e).0 (w e).1) s)) ∙ sym (counts_down lo))
        where
          turned : (min bx ax ≤ px) × (px ≤ max bx ax) → (min ax bx ≤ px) × (px ≤ max ax bx)
          turned h = (omega arith, omega arith)

      go : (p q : Bool) → (T p → py < by) → (T (not p) → by ≤ py) → (T q → ay < py) → (T (not q) → py ≤ ay) → cond (p || q) (Off false) (cast_at (at ax) (at ay) (at bx) (at by) (at px) (at py)) ≡ exact_at
      go true q a b c d = let a' = a tt in off_exact (λ (h : min ay by ≤ py) (k : py ≤ max ay by). omega arith)
      go false true a b c d = let c' = c tt in off_exact (λ (h : min ay by ≤ py) (k : py ≤ max ay by). omega arith)
      go false false a b c d = body (b tt) (d tt)

  counts_level : ay ≡ by → counts_n ax ay bx by px py ≡ false
  counts_level e = falsum (counts_n ax ay bx by px py) (λ (t : T (counts_n ax ay bx by px py)). let w = counts_view t in none w.0 w.1)
    where
      none : min ay by ≤ py → py < max ay by → ⊥
      none h k = omega arith

  -- the nudged y is above or below a level segment
  missed_level : ay ≡ by → missed (at ay) (at by) (nudged (at ay) (at by) (at py)) ≡ true
  missed_level e =
      ap (λ (t : Bool). cond t (outside (at ay) (at by) z) (outside (at by) (at ay) z)) (lt_at ay by iay iby ∙ le-ltb ay by (le_of_eq (sym e)))
      ∙ ap (outside (at by) (at ay)) (nudged_at ay by py iay iby ipy)
      ∙ go (eqb py ay) (eqb py by) (eqb→eq py ay) (eqb→eq py by) (λ (q : py ≡ ay). eq→eqb q)
    where
      z : Float
      z = nudged (at ay) (at by) (at py)

      b : Bump (next_up (at py)) py 18000000 0x1000_0000
      b = next_bump py 18000000 low

      up_there : py ≡ ay → outside (at by) (at ay) (next_up (at py)) ≡ true
      up_there q = ap₂ ◌||◌ (bump_lt (next_up (at py)) py 18000000 0x1000_0000 b (lit< tt) by (fine by iby) ∙ le-ltb py by (omega arith)) (lt_bump (next_up (at py)) py 18000000 0x1000_0000 b (lit< tt) ay (fine ay iay) ∙ lt-ltb ay (suc py) (omega arith))

      off : (py ≡ ay → ⊥) → outside (at by) (at ay) (at py) ≡ true
      off n = outside_at by ay iby iay ∙ two (ltb py by) (ltb ay py) (nltb→le py by) (nltb→le ay py)
        where
          two : (p q : Bool) → (T (not p) → by ≤ py) → (T (not q) → py ≤ ay) → p || q ≡ true
          two true q f g = refl
          two false true f g = refl
          two false false f g = let f' = f tt in let g' = g tt in absurd (n (omega arith))

      go : (p q : Bool) → (T p → py ≡ ay) → (T q → py ≡ by) → (py ≡ ay → T p) → outside (at by) (at ay) (cond (p || q) (next_up (at py)) (at py)) ≡ true
      go true q f g h = up_there (f tt)
      go false true f g h = absurd (h (g tt ∙ sym e))
      go false false f g h = off (λ (x : py ≡ ay). h x)

  crosses_level : ay ≡ by → crosses (at ax) (at ay) (at bx) (at by) (at px) (nudged (at ay) (at by) (at py)) ≡ false
  unfolding crosses
  crosses_level e =
      let z = nudged (at ay) (at by) (at py) in
      ap (λ (o : Bool). cond o false (cond (lt (at bx) (at ax)) (shortcut (at bx) (at ax) (at px) (steep (at ax) (at ay) (at bx) (at by) (at px) z)) (shortcut (at ax) (at bx) (at px) (steep (at ax) (at ay) (at bx) (at by) (at px) z)))) (missed_level e)

  -- both ends in one place
  point_exact : ay ≡ by → ax ≡ bx → point_at (at ax) (at ay) (at px) (at py) ≡ exact_at
  point_exact e f =
      ap (λ (u : Bool). cond u On (Off false)) (ap₂ ◌&&◌ (eq_at px ax ipx iax) (eq_at py ay ipy iay) ∙ bool_iff (eqb px ax && eqb py ay) (on_n ax ay bx by px py) to fro)
      ∙ sym (ap (λ (v : Bool). cond (on_n ax ay bx by px py) On (Off v)) (counts_level e))
    where
      spot : (a b c d x y : ℕ) → b ≡ a → d ≡ c → x ≡ a → y ≡ c → plus a c b d x y ≡ less a c b d x y
      spot a b c d x y p q r s = rw (p, q, r, s) (omega arith)

      to : T (eqb px ax && eqb py ay) → T (on_n ax ay bx by px py)
      to t =
          let p = eqb→eq px ax (and_l (eqb px ax) (eqb py ay) t) in
          let q = eqb→eq py ay (and_r (eqb px ax) (eqb py ay) t) in
          let w = amid_same ax bx px f (p ∙ f) in
          let v = amid_same ay by py e (q ∙ e) in
          on_make (spot ax bx ay by px py (sym f) (sym e) p q) (amid_make ax bx px w.0 w.1) (amid_make ay by py v.0 v.1)

      fro : T (on_n ax ay bx by px py) → T (eqb px ax && eqb py ay)
      fro t =
          let w = amid_view ax bx px (on_view t).1 in
          let v = amid_view ay by py (on_view t).2 in
          and_i (eqb px ax) (eqb py ay) (eq→eqb (squeeze ax bx px f w.0 w.1 ∙ sym f)) (eq→eqb (squeeze ay by py e v.0 v.1 ∙ sym e))

  ray_level : ay ≡ by → ray_at (at ax) (at ay) (at bx) (at by) (at px) (at py) ≡ exact_at
  ray_level e =
      ray_is false (eqb ax bx)
      (ap₂ (λ (t u : Bool). cond t (outside (at ay) (at by) (at py)) (u && outside (at by) (at ay) (at py))) (lt_at ay by iay iby ∙ le-ltb ay by (le_of_eq (sym e))) (lt_at by ay iby iay ∙ le-ltb by ay (le_of_eq e)))
      (ap₂ ◌&&◌ (eq_at ay by iay iby ∙ eq-eqb ay by e) (eq_at ax bx iax ibx))
      ∙ go (eqb ax bx) (eqb→eq ax bx) (λ (q : ax ≡ bx). eq→eqb q)
    where
      go : (m : Bool) → (T m → ax ≡ bx) → (ax ≡ bx → T m) → cond m (point_at (at ax) (at ay) (at px) (at py)) (cast_at (at ax) (at ay) (at bx) (at by) (at px) (at py)) ≡ exact_at
      go true f g = point_exact e (f tt)
      go false f g = cast_exact (touches_level e (λ (q : ax ≡ bx). g q)) (λ (o : T (on_n ax ay bx by px py) → ⊥). crosses_level e ∙ sym (counts_level e))

  pub ray_naturals : ray_at (at ax) (at ay) (at bx) (at by) (at px) (at py) ≡ exact_at
  ray_naturals = elim (tri ay by) [ inl u ↦ ray_up u | inr (inl u) ↦ ray_level u | inr (inr u) ↦ ray_down u ]
