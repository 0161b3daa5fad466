-- Laws of specs/Over, as proofs cite them. Nothing here need be believed.
-- Assumes nothing.
use Prim.Native.Nat.{ℕ, zero, suc, ◌+◌, ◌≤◌, ◌<◌}
use native.Mathlib.Nat.{not-suc-le-zero}
use native.Mathlib.Omega.{arith}
use mathlib.Core.Path.{◌≡◌, refl, sym, ap, ◌∙◌}
use mathlib.Core.List.{List, [], ◌∷◌, ◌++◌}
use native.Mathlib.Numerals.{add-one}
use lib.ListN.{length, take, drop, get_or, set, length-append}
use lib.Seq.{length-take-le, take-suc, take_all}
use Rattle.answer.specs.Over.{over}

pub over_none : {A : Type 0} (s : List A) (p : ℕ) → over s p [] ≡ s
unfolding over
over_none [] p = refl
over_none (x ∷ s) zero = refl
over_none (x ∷ s) (suc p) = ap (λ l. x ∷ l) (over_none s p)

-- no room
pub over_past : {A : Type 0} (s : List A) (p : ℕ) (l : List A) → length s ≤ p → over s p l ≡ s
unfolding over
over_past [] p l h = refl
over_past (x ∷ s) zero l h = absurd (not-suc-le-zero h)
over_past (x ∷ s) (suc p) l h = ap (λ t. x ∷ t) (over_past s p l (omega arith))

pub length_over : {A : Type 0} (s : List A) (p : ℕ) (l : List A) → length (over s p l) ≡ length s
unfolding over
length_over [] p l = refl
length_over (x ∷ s) (suc p) l = ap suc (length_over s p l)
length_over (x ∷ s) zero [] = refl
length_over (x ∷ s) zero (b ∷ l) = ap suc (length_over s zero l)

-- one list behind another
over_at : {A : Type 0} (s : List A) (p q : ℕ) (a b : List A) → q ≡ p + length a → over (over s p a) q b ≡ over s p (a ++ b)
unfolding over
over_at [] p q a b e = refl
over_at (x ∷ s) (suc p) (suc q) a b e = ap (λ l. x ∷ l) (over_at s p q a b (omega arith))
over_at (x ∷ s) (suc p) zero a b e = absurd (omega arith)
over_at (x ∷ s) zero q [] b e = ap (λ (k : ℕ). over (x ∷ s) k b) (none q e)
  where
    none : (k : ℕ) → k ≡ 0 + 0 → k ≡ 0
    none k h = omega arith
over_at (x ∷ s) zero (suc q) (c ∷ a) b e = ap (λ l. c ∷ l) (over_at s zero q a b (omega arith))
over_at (x ∷ s) zero zero (c ∷ a) b e = absurd (omega arith)

pub over_on : {A : Type 0} (s : List A) (p : ℕ) (a b : List A) → over (over s p a) (p + length a) b ≡ over s p (a ++ b)
over_on s p a b = over_at s p (p + length a) a b refl

-- all of it, from the first place on
pub over_all : {A : Type 0} (s l : List A) → length l ≤ length s → over s 0 l ≡ l ++ drop (length l) s
unfolding over
over_all [] [] h = refl
over_all [] (b ∷ l) h = absurd (not-suc-le-zero h)
over_all (x ∷ s) [] h = refl
over_all (x ∷ s) (b ∷ l) h = ap (λ t. b ∷ t) (over_all s l (omega arith))

-- one element
pub over_one : {A : Type 0} (s : List A) (p : ℕ) (b : A) → p < length s → over s p (b ∷ []) ≡ set s p b
unfolding over
over_one [] p b h = absurd (not-suc-le-zero h)
over_one (x ∷ s) zero b h = ap (λ t. b ∷ t) (over_none s zero)
over_one (x ∷ s) (suc p) b h = ap (λ t. x ∷ t) (over_one s p b (omega arith))

-- ---- what a call has written: the list a from p on, and q is the place behind it
pub record Written (s : List ℕ) (p : ℕ) (a : List ℕ) (q : ℕ) (after : List ℕ) : Type 0 where
  pub next : q ≡ p + length a
  pub is : after ≡ over s p a

pub wrote : {s : List ℕ} {p : ℕ} {a : List ℕ} {q : ℕ} {after : List ℕ} → q ≡ p + length a → after ≡ over s p a → Written s p a q after
wrote e f = record { next = e; is = f }

-- the same text, however it is worked out
pub being : {s : List ℕ} {p : ℕ} {a b : List ℕ} {q : ℕ} {after : List ℕ} → a ≡ b → Written s p a q after → Written s p b q after
being e w = rw e at w

infixl 20 ◌behind◌
pub ◌behind◌ : {s : List ℕ} {p : ℕ} {a : List ℕ} {q : ℕ} {mid b : List ℕ} {r : ℕ} {after : List ℕ}
    → Written s p a q mid → Written mid q b r after → Written s p (a ++ b) r after
◌behind◌ {s} {p} {a} {q} {mid} {b} {r} {after} f g =
    record {
      next = omega (arith, length-append a b, f.next, g.next);
      is = g.is ∙ ap (λ (m : List ℕ). over m q b) f.is ∙ over_at s p q a b f.next;
    }

-- a place that is no further than the longest text
pub near : (r p n m : ℕ) → r ≡ p + n → n ≤ m → r ≤ p + m
near r p n m e h = omega arith

-- ---- a text laid byte by byte
pub next_laid : (s : List ℕ) (p i : ℕ) (t out after : List ℕ) → i < length t → out ≡ over s p (take i t) → after ≡ over out (p + i) (get_or t i 0 ∷ [])
    → after ≡ over s p (take (i + 1) t)
next_laid s p i t out after h e f =
    let long = length-take-le i t (omega arith) in
    let here : p + i ≡ p + length (take i t) = omega arith in
    f ∙ ap (λ (m : List ℕ). over m (p + i) (get_or t i 0 ∷ [])) e
    ∙ over_at s p (p + i) (take i t) (get_or t i 0 ∷ []) here
    ∙ ap (over s p) (sym (take-suc t i 0 h) ∙ ap (λ (k : ℕ). take k t) (sym (add-one i)))

pub all_laid : (s : List ℕ) (p i : ℕ) (t out : List ℕ) → length t ≤ i → out ≡ over s p (take i t) → out ≡ over s p t
all_laid s p i t out h e = e ∙ ap (over s p) (take_all i t h)
