-- The refusals of a number, by its bytes, in document 01's order: 38 where the bytes run out, 39 for a last byte of zero that is not the only one, 40 at the fifth byte before anything else about it.
-- Assumes nothing.
use mathlib.Core.Path.{◌≡◌, refl, sym, ap, ap₂, ◌∙◌}
use Prim.Native.Nat.{ℕ, zero, suc, ◌+◌, ◌-◌, ◌*◌, ◌≤◌, ◌<◌}
use native.Mathlib.Nat.{not-suc-le-zero}
use native.Mathlib.Omega.{arith}
use mathlib.Core.List.{List}
use mathlib.Core.Bool.{Bool, true, false, not, cond, ◌&&◌, ◌||◌}
use mathlib.Core.Logic.{◌⊎◌, inl, inr}
use lib.ListN.{length, get_or}
use lib.Dec.{T, ltb, leb, eqb}
use lib.Bits.{bit_and}
use lib.IntN.{ℤ}
use Rattle.answer.specs.declared.Refusal.{Refusal}
use Rattle.answer.specs.Refusals.{refusal, placed_at}
use Rattle.answer.specs.Answers.{Answer, ok, refused, no, need, about}
use Rattle.varints.specs.Varint.{unzig, last, below, digits, signed, number_at}
use Rattle.varints.proofs.Digits.{digits_out, digits_end, digits_more, digits_high, digits_fifth, last_zero}

-- k bytes from p on, each with a digit to follow
abbrev pub Goes : ℕ → List ℕ → ℕ → Type 0
Goes zero s p = Unit
Goes (suc k) s p = (p < length s) × (128 ≤ get_or s p 0) × Goes k s (p + 1)

abbrev still : Bool → ℕ → Bool
still f zero = f
still f (suc k) = false

-- what refuses the digits after them refuses the number
carry : (k m : ℕ) (f : Bool) (s : List ℕ) (p : ℕ) (r : Refusal) → Goes k s p → digits m (still f k) s (p + k) ≡ refused r
    → digits (k + m) f s p ≡ refused r
carry zero m f s p r g e = ap₂ (λ (i j : ℕ). digits i f s j) (left m) (right p) ∙ e
  where
    left : (a : ℕ) → 0 + a ≡ a
    left a = omega arith

    right : (a : ℕ) → a ≡ a + 0
    right a = omega arith
carry (suc k) m f s p r g e =
    ap (λ (i : ℕ). digits i f s p) (up k m) ∙ digits_more s p g.0 (k + m) f g.1
    ∙ ap (below (get_or s p 0 - 128) 128) (carry k m false s (p + 1) r g.2 (rest_of k (ap (λ (j : ℕ). digits m false s j) (sym (next p k)) ∙ e)))
  where
    up : (a b : ℕ) → suc a + b ≡ suc (a + b)
    up a b = omega arith

    next : (a b : ℕ) → a + suc b ≡ a + 1 + b
    next a b = omega arith

    rest_of : (k : ℕ) → digits m false s (p + 1 + k) ≡ refused r → digits m (still false k) s (p + 1 + k) ≡ refused r
    rest_of zero e = e
    rest_of (suc k) e = e

zero_here : (m : ℕ) (s : List ℕ) (q : ℕ) → q < length s → get_or s q 0 ≡ 0 → digits m false s q ≡ no 39
zero_here zero s q h e = digits_fifth s q h false (omega (arith, e)) ∙ last_zero _ (q + 1) e
zero_here (suc m) s q h e = digits_end s q h m false (omega (arith, e)) ∙ last_zero _ (q + 1) e

module _ (s : List ℕ) (p : ℕ) where
  after : (k : ℕ) (r : Refusal) → k ≤ 4 → Goes k s p → digits (4 - k) (still true k) s (p + k) ≡ refused r → number_at s p ≡ refused (placed_at p r)
  unfolding number_at
  after k r h g e = ap (λ (x : Answer (ℕ × ℕ)). about p (signed x)) (ap (λ (i : ℕ). digits i true s p) (split k h) ∙ carry k (4 - k) true s p r g e)
    where
      split : (k : ℕ) → k ≤ 4 → 4 ≡ k + (4 - k)
      split k h = omega arith

  -- at most four such bytes, and no more
  pub cut_off : (k : ℕ) → k ≤ 4 → Goes k s p → length s ≤ p + k → number_at s p ≡ refused (placed_at p (refusal 38))
  cut_off k h g e = after k _ h g (digits_out s (p + k) (4 - k) (still true k) e)

  -- one to four such bytes, then a zero
  pub zero_last : (k : ℕ) → 0 < k → k ≤ 4 → Goes k s p → p + k < length s → get_or s (p + k) 0 ≡ 0 → number_at s p ≡ refused (placed_at p (refusal 39))
  zero_last zero z h g l e = absurd (not-suc-le-zero z)
  zero_last (suc k) z h g l e = after (suc k) _ h g (zero_here (4 - suc k) s (p + suc k) l e)

  -- four such bytes, then one with any of the bits 0xf0
  pub too_big : Goes 4 s p → p + 4 < length s → 15 < get_or s (p + 4) 0 → number_at s p ≡ refused (placed_at p (refusal 40))
  too_big g l e = after 4 _ (omega arith) g (digits_high s (p + 4) l false e)

-- ---- and there is no other refusal
abbrev OneOf : Refusal → Type 0
OneOf r = (r ≡ refusal 38) ⊎ (r ≡ refusal 39) ⊎ (r ≡ refusal 40)

-- of a number that starts at p
abbrev pub OneAt : ℕ → Refusal → Type 0
OneAt p r = (r ≡ placed_at p (refusal 38)) ⊎ (r ≡ placed_at p (refusal 39)) ⊎ (r ≡ placed_at p (refusal 40))

same_refusal : (r r' : Refusal) → ◌≡◌ {A = Answer (ℕ × ℕ)} (refused r) (refused r') → r' ≡ r
same_refusal r r' e = cc

other : {A : Type 0} (a : A) (r : Refusal) → ok a ≡ refused r → ⊥
other a r e = let z : ◌≡◌ {A = ℕ} 0 1 = cc in omega arith

last_no : (f : Bool) (b q : ℕ) (r : Refusal) → last f b q ≡ refused r → r ≡ refusal 39
last_no f b q r e = go (f || not (eqb b 0)) e
  where
    go : (t : Bool) → need {A = ℕ × ℕ} 39 t (ok (b, q)) ≡ refused r → r ≡ refusal 39
    go true h = absurd (other (b, q) r h)
    go false h = same_refusal (refusal 39) r h

below_no : (n u : ℕ) (x : Answer (ℕ × ℕ)) (r : Refusal) → below n u x ≡ refused r → x ≡ refused r
below_no n u (ok t) r e = absurd (other (n + u * t.0, t.1) r e)
below_no n u (refused k) r e = e

one_of : (k : ℕ) (f : Bool) (s : List ℕ) (p : ℕ) (r : Refusal) → digits k f s p ≡ refused r → OneOf r
unfolding digits
one_of zero f s p r e = go (ltb p (length s)) (leb (get_or s p 0) 15) e
  where
    go : (t u : Bool) → need 38 t (need 40 u (last f (get_or s p 0) (p + 1))) ≡ refused r → OneOf r
    go true true h = inr (inl (last_no f (get_or s p 0) (p + 1) r h))
    go true false h = inr (inr (same_refusal (refusal 40) r h))
    go false u h = inl (same_refusal (refusal 38) r h)
one_of (suc k) f s p r e = go (ltb p (length s)) (ltb (get_or s p 0) 128) e (one_of k false s (p + 1) r)
  where
    go : (t u : Bool) → need 38 t (cond u (last f (get_or s p 0) (p + 1)) (below (get_or s p 0 - 128) 128 (digits k false s (p + 1)))) ≡ refused r
        → (digits k false s (p + 1) ≡ refused r → OneOf r) → OneOf r
    go true true h ih = inr (inl (last_no f (get_or s p 0) (p + 1) r h))
    go true false h ih = ih (below_no (get_or s p 0 - 128) 128 (digits k false s (p + 1)) r h)
    go false u h ih = inl (same_refusal (refusal 38) r h)

pub three : (s : List ℕ) (p : ℕ) (r : Refusal) → number_at s p ≡ refused r → OneAt p r
unfolding number_at
three s p r e = go (digits 4 true s p) refl e
  where
    placed : (k : Refusal) → placed_at p k ≡ r → OneOf k → OneAt p r
    placed k i (inl h) = inl (sym i ∙ ap (placed_at p) h)
    placed k i (inr (inl h)) = inr (inl (sym i ∙ ap (placed_at p) h))
    placed k i (inr (inr h)) = inr (inr (sym i ∙ ap (placed_at p) h))

    go : (x : Answer (ℕ × ℕ)) → digits 4 true s p ≡ x → about p (signed x) ≡ refused r → OneAt p r
    go (ok t) h g = absurd (other (unzig t.0, t.1) r g)
    go (refused k) h g = placed k (again g) (one_of 4 true s p k h)
      where
        again : ◌≡◌ {A = Answer (ℤ × ℕ)} (refused (placed_at p k)) (refused r) → placed_at p k ≡ r
        again g = cc

-- of a byte, one of the bits 0xf0 is set exactly where it is above 15
abbrev agree : Bool → Bool → Bool
agree true b = b
agree false b = not b

abbrev upto : (ℕ → Bool) → ℕ → Bool
upto f zero = true
upto f (suc n) = f n && upto f n

pub top_bits : T (upto (λ b. agree (not (leb b 15)) (not (eqb (bit_and b 0xf0) 0))) 256)
top_bits = tt
