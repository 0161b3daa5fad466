-- A number read in bytes that stand behind others is the number read there: the place after it, and its refusal's place, are counted from the first byte of all.
-- Assumes nothing.
use Prim.Native.Nat.{ℕ, zero, suc, ◌+◌, ◌-◌, ◌≤◌}
use native.Mathlib.Omega.{arith}
use mathlib.Core.Path.{◌≡◌, refl, ap, ◌∙◌}
use mathlib.Core.Bool.{Bool, true, false, ◌||◌, not, cond}
use mathlib.Core.List.{List, ◌++◌}
use lib.ListN.{length, length-append, get_or}
use lib.Seq.{get_or-append-add}
use lib.Dec.{ltb, leb, eqb}
use borrow.Author.Tests.{lt-ltb, le-ltb, ltb-true, ltb-false, eqb-true, eqb-false, eq-eqb, ne_eqb}
use Rattle.answer.specs.Refusals.{no_place, counted_from}
use Rattle.answer.specs.Answers.{Answer, ok, refused, need, about}
use Rattle.answer.proofs.RefusalsLaws.{counted_at}
use Rattle.varints.specs.Varint.{last, below, digits, signed, number_at, at_end}

-- what is read behind a bytes, and the place after it
abbrev pub farther : {A : Type 0} → ℕ → Answer (A × ℕ) → Answer (A × ℕ)
farther a (ok t) = ok (t.0, a + t.1)
farther a (refused r) = refused (counted_from a r)

-- the same where a refusal has no place yet
abbrev later : {A : Type 0} → ℕ → Answer (A × ℕ) → Answer (A × ℕ)
later a (ok t) = ok (t.0, a + t.1)
later a (refused r) = refused r

next : (a p : ℕ) → a + p + 1 ≡ a + (p + 1)
next a p = omega arith

module _ (front s : List ℕ) where
  pub inside_same : (p : ℕ) → ltb (length front + p) (length (front ++ s)) ≡ ltb p (length s)
  inside_same p = go (ltb p (length s)) refl
    where
      go : (b : Bool) → ltb p (length s) ≡ b → ltb (length front + p) (length (front ++ s)) ≡ b
      go true e = lt-ltb (length front + p) (length (front ++ s)) (omega (arith, length-append front s, ltb-true p (length s) e))
      go false e = le-ltb (length front + p) (length (front ++ s)) (omega (arith, length-append front s, ltb-false p (length s) e))

  pub end_same : (p : ℕ) → at_end (front ++ s) (length front + p) ≡ at_end s p
  end_same p = ap (λ (n : ℕ). eqb (length front + p) n) (length-append front s) ∙ plus_same (length front)
    where
      plus_same : (a : ℕ) → eqb (a + p) (a + length s) ≡ eqb p (length s)
      plus_same a = go (eqb p (length s)) refl
        where
          go : (b : Bool) → eqb p (length s) ≡ b → eqb (a + p) (a + length s) ≡ b
          go true e = eq-eqb (a + p) (a + length s) (ap (λ (n : ℕ). a + n) (eqb-true p (length s) e))
          go false e = ne_eqb (a + p) (a + length s) (λ i. eqb-false p (length s) e (omega (arith, i)))

  last_later : (only : Bool) (b p : ℕ) → last only b (length front + p + 1) ≡ later (length front) (last only b (p + 1))
  last_later only b p = go (only || not (eqb b 0))
    where
      go : (t : Bool) → need 39 t (ok (b, length front + p + 1)) ≡ later (length front) (need 39 t (ok (b, p + 1)))
      go true = ap (λ (q : ℕ). ok (b, q)) (next (length front) p)
      go false = refl

  below_later : (n u : ℕ) (x : Answer (ℕ × ℕ)) → below n u (later (length front) x) ≡ later (length front) (below n u x)
  below_later n u (ok t) = refl
  below_later n u (refused r) = refl

  need_later : (n : ℕ) (b : Bool) (x y : Answer (ℕ × ℕ)) → x ≡ later (length front) y → need n b x ≡ later (length front) (need n b y)
  need_later n true x y e = e
  need_later n false x y e = refl

  cond_later : (b : Bool) (x y u v : Answer (ℕ × ℕ)) → x ≡ later (length front) u → y ≡ later (length front) v → cond b x y ≡ later (length front) (cond b u v)
  cond_later true x y u v e f = e
  cond_later false x y u v e f = f

  byte : (p : ℕ) → get_or (front ++ s) (length front + p) 0 ≡ get_or s p 0
  byte p = get_or-append-add front s p 0

  abbrev b₀ : ℕ → ℕ
  b₀ p = get_or s p 0

  digits_later : (k : ℕ) (only : Bool) (p : ℕ) → digits k only (front ++ s) (length front + p) ≡ later (length front) (digits k only s p)
  unfolding digits
  digits_later zero only p =
      rw (inside_same p, byte p)
      (need_later 38 (ltb p (length s)) (need 40 (leb (b₀ p) 15) (last only (b₀ p) (length front + p + 1))) (need 40 (leb (b₀ p) 15) (last only (b₀ p) (p + 1)))
      (need_later 40 (leb (b₀ p) 15) (last only (b₀ p) (length front + p + 1)) (last only (b₀ p) (p + 1)) (last_later only (b₀ p) p)))
  digits_later (suc k) only p =
      rw (inside_same p, byte p)
      (need_later 38 (ltb p (length s)) (cond (ltb (b₀ p) 128) (last only (b₀ p) (length front + p + 1)) (more (length front + p + 1))) (cond (ltb (b₀ p) 128) (last only (b₀ p) (p + 1)) (below (b₀ p - 128) 128 (digits k false s (p + 1))))
      (cond_later (ltb (b₀ p) 128) (last only (b₀ p) (length front + p + 1)) (more (length front + p + 1)) (last only (b₀ p) (p + 1)) (below (b₀ p - 128) 128 (digits k false s (p + 1))) (last_later only (b₀ p) p)
      (ap more (next (length front) p) ∙ ap (below (b₀ p - 128) 128) (digits_later k false (p + 1)) ∙ below_later (b₀ p - 128) 128 (digits k false s (p + 1)))))
    where
      more : ℕ → Answer (ℕ × ℕ)
      more q = below (b₀ p - 128) 128 (digits k false (front ++ s) q)

  pub number_shifted : (p : ℕ) → length front + p ≤ no_place → number_at (front ++ s) (length front + p) ≡ farther (length front) (number_at s p)
  unfolding number_at
  number_shifted p h = ap (λ (x : Answer (ℕ × ℕ)). about (length front + p) (signed x)) (digits_later 4 true p) ∙ go (digits 4 true s p)
    where
      go : (x : Answer (ℕ × ℕ)) → about (length front + p) (signed (later (length front) x)) ≡ farther (length front) (about p (signed x))
      go (ok t) = refl
      go (refused r) = ap refused (counted_at (length front) p r h)
