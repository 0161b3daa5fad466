-- The definition reads the shortest encoding of a number, and only that.
-- Assumes nothing.
use mathlib.Core.Path.{◌≡◌, refl, sym, ap, ap₂, ◌∙◌, subst}
use Prim.Native.Nat.{ℕ, zero, suc, ◌+◌, ◌-◌, ◌*◌, ◌/◌, ◌%◌, ◌≤◌, ◌<◌}
use native.Mathlib.Omega.{arith}
use mathlib.Core.List.{List, [], ◌∷◌, ◌++◌, append_assoc}
use mathlib.Core.Bool.{Bool, true, false, not, cond}
use lib.ListN.{length, get_or, length-append}
use lib.Seq.{get_or-append_seam}
use lib.Dec.{ltb, leb, eqb}
use lib.IntN.{ℤ, pos, negsuc}
use mir.Syntax.{w32}
use mir.Val.{SFits}
use borrow.Author.Tests.{lt-ltb, le-ltb, eq-eqb, ne_eqb, ltb-true, ltb-false, leb-true, eqb-true, eqb-false}
use Rattle.answer.specs.declared.Refusal.{Refusal}
use Rattle.answer.specs.Answers.{Answer, ok, refused, need, about}
use Rattle.varints.specs.Varint.{zig, unzig, last, below, digits, signed, number_at, shortest_digits, encode}
use Rattle.varints.proofs.Digits.{digits_end, digits_more, digits_fifth, last_whole, lim, lim_pos}

-- the bytes e stand in s from p on
abbrev pub Stand : List ℕ → List ℕ → ℕ → Type 0
Stand [] s p = Unit
Stand (b ∷ e) s p = (p < length s) × (get_or s p 0 ≡ b) × Stand e s (p + 1)

-- as they do between any two lists
pub stand : (a e z : List ℕ) → Stand e (a ++ (e ++ z)) (length a)
stand a [] z = tt
stand a (b ∷ e) z = (
  simp length-append (omega arith),
  get_or-append_seam a b (e ++ z) 0,
  subst (λ (l : List ℕ). Stand e l (length a + 1)) (append_assoc a (b ∷ []) (e ++ z))
      (subst (λ (k : ℕ). Stand e ((a ++ (b ∷ [])) ++ (e ++ z)) k) (length-append a (b ∷ [])) (stand (a ++ (b ∷ [])) e z)),
)

-- ---- zigzag

pub unzig_zig : (z : ℤ) → unzig (zig z) ≡ z
unzig_zig (pos k) =
    let e : 2 * k % 2 ≡ 0 = omega arith in
    let h : 2 * k / 2 ≡ k = omega arith in
    simp (eq-eqb _ _ e) (ap pos h)
unzig_zig (negsuc k) =
    let e : (2 * k + 1) % 2 ≡ 0 → ⊥ = omega arith in
    let h : (2 * k + 1) / 2 ≡ k = omega arith in
    simp (ne_eqb _ _ e) (ap negsuc h)

pub zig_unzig : (n : ℕ) → zig (unzig n) ≡ n
zig_unzig n = go (eqb (n % 2) 0) refl
  where
    go : (t : Bool) → eqb (n % 2) 0 ≡ t → zig (cond t (pos (n / 2)) (negsuc (n / 2))) ≡ n
    go true e = omega (arith, eqb-true (n % 2) 0 e)
    go false e = let f = eqb-false (n % 2) 0 e in omega arith

-- an i32's zigzag has 32 bits
pub zig_fits : (z : ℤ) → SFits w32 z → zig z < 0x1_0000_0000
zig_fits (pos k) h = omega arith
zig_fits (negsuc k) h = omega arith

-- ---- the shortest digits, by their number

module _ (k n : ℕ) where
  one_digit : n < 128 → shortest_digits (suc k) n ≡ n ∷ []
  unfolding shortest_digits
  one_digit h = simp (lt-ltb _ _ h)

  more_digits : 128 ≤ n → shortest_digits (suc k) n ≡ (n % 128 + 128) ∷ shortest_digits k (n / 128)
  unfolding shortest_digits
  more_digits h = simp (le-ltb _ _ h)

fifth_digit : (n : ℕ) → shortest_digits 0 n ≡ n ∷ []
unfolding shortest_digits
fifth_digit n = refl

-- ---- the shortest digits are read

-- of a number that is not the only byte's
abbrev pub First : Bool → ℕ → Type 0
First true n = Unit
First false n = 0 < n

last_ok : (f : Bool) (n q : ℕ) → First f n → last f n q ≡ ok (n, q)
last_ok true n q h = refl
last_ok false n q h = last_whole n q (omega arith)

-- they are e, at p
abbrev Reads : ℕ → Bool → ℕ → List ℕ → ℕ → List ℕ → Type 0
Reads k f n s p e = Stand e s p → digits k f s p ≡ ok (n, p + length e)

pub reads : (k : ℕ) (f : Bool) (n : ℕ) (s : List ℕ) (p : ℕ) → n < lim k → First f n → Reads k f n s p (shortest_digits k n)
reads zero f n s p h g = rw (fifth_digit n) (λ (st : Stand (n ∷ []) s p).
    digits_fifth s p st.0 f (omega (arith, st.1)) ∙ ap (λ (b : ℕ). last f b (p + 1)) st.1 ∙ last_ok f n (p + 1) g)
reads (suc k) f n s p h g = go (ltb n 128) refl (reads k false (n / 128) s (p + 1) (omega arith))
  where
    go : (t : Bool) → ltb n 128 ≡ t → (0 < n / 128 → Reads k false (n / 128) s (p + 1) (shortest_digits k (n / 128)))
        → Reads (suc k) f n s p (shortest_digits (suc k) n)
    go true e ih = rw (one_digit k n (ltb-true n 128 e)) (λ (st : Stand (n ∷ []) s p).
        let l : n < 128 = ltb-true n 128 e in
        digits_end s p st.0 k f (omega (arith, st.1)) ∙ ap (λ (b : ℕ). last f b (p + 1)) st.1 ∙ last_ok f n (p + 1) g)
    go false e ih = rw (more_digits k n (ltb-false n 128 e)) (λ (st : Stand ((n % 128 + 128) ∷ shortest_digits k (n / 128)) s p).
        let l : 128 ≤ n = ltb-false n 128 e in
        let d : get_or s p 0 - 128 + 128 * (n / 128) ≡ n = omega (arith, st.1) in
        let q : p + 1 + length (shortest_digits k (n / 128)) ≡ p + length ((n % 128 + 128) ∷ shortest_digits k (n / 128)) = omega arith in
        digits_more s p st.0 k f (omega (arith, st.1))
        ∙ ap (below (get_or s p 0 - 128) 128) (ih (omega arith) st.2) ∙ ap₂ (λ (m r : ℕ). ok (m, r)) d q)

-- decoding the shortest encoding of n gives n and the place after it, wherever it stands
pub round : (a z : List ℕ) (n : ℤ) → SFits w32 n
    → number_at (a ++ (encode n ++ z)) (length a) ≡ ok (n, length a + length (encode n))
unfolding number_at encode
round a z n h =
    ap (λ (x : Answer (ℕ × ℕ)). about (length a) (signed x)) (reads 4 true (zig n) (a ++ (encode n ++ z)) (length a) (zig_fits n h) tt (stand a (encode n) z))
    ∙ ap (λ (v : ℤ). ok (v, length a + length (encode n))) (unzig_zig n)

-- ---- what is read is the shortest digits of its number

pub never : {A : Type 0} (r : Refusal) (a : A) → refused r ≡ ok a → ⊥
never r a e = let z : ◌≡◌ {A = ℕ} 0 1 = cc in omega arith

-- two answers of a pair
pub parts : {A B : Type 0} (a c : A) (b d : B) → ◌≡◌ {A = Answer (A × B)} (ok (a, b)) (ok (c, d)) → (a ≡ c) × (b ≡ d)
parts {A} {B} a c b d e =
    let t : ◌≡◌ {A = A × B} (a, b) (c, d) = cc in
    (ap (λ (x : A × B). x.0) t, ap (λ (x : A × B). x.1) t)

pub last_inv : (f : Bool) (b q' n q : ℕ) → last f b q' ≡ ok (n, q) → (b ≡ n) × (q' ≡ q) × First f n
last_inv true b q' n q e = let u = parts b n q' q e in (u.0, u.1, tt)
last_inv false b q' n q e = go (eqb b 0) refl e
  where
    go : (t : Bool) → eqb b 0 ≡ t → need {A = ℕ × ℕ} 39 (not t) (ok (b, q')) ≡ ok (n, q) → (b ≡ n) × (q' ≡ q) × (0 < n)
    go true x h = absurd (never _ (n, q) h)
    go false x h = let g = eqb-false b 0 x in let u = parts b n q' q h in (u.0, u.1, omega (arith, u.0))

pub below_inv : (d : ℕ) (x : Answer (ℕ × ℕ)) (n q : ℕ) → below d 128 x ≡ ok (n, q) → (m : ℕ) × (x ≡ ok (m, q)) × (d + 128 * m ≡ n)
below_inv d (ok (m, q')) n q e =
    let u = parts (d + 128 * m) n q' q e in
    (m, ap (λ (r : ℕ). ok (m, r)) u.1, u.0)
below_inv d (refused r) n q e = absurd (never r (n, q) e)

pub record Shape (k : ℕ) (f : Bool) (s : List ℕ) (p n q : ℕ) : Type 0 where
  pub stands : Stand (shortest_digits k n) s p
  pub after : q ≡ p + length (shortest_digits k n)
  pub small : n < lim k
  pub nonzero : First f n

positive : (f : Bool) (n : ℕ) → 128 ≤ n → First f n
positive true n h = tt
positive false n h = omega arith

module _ (s : List ℕ) (bytes : (i : ℕ) → get_or s i 0 < 256) where
  pub only : (k : ℕ) (f : Bool) (p n q : ℕ) → digits k f s p ≡ ok (n, q) → Shape k f s p n q
  unfolding digits
  only zero f p n q h = go (ltb p (length s)) (leb (get_or s p 0) 15) refl refl h
    where
      go : (t u : Bool) → ltb p (length s) ≡ t → leb (get_or s p 0) 15 ≡ u
          → need 38 t (need 40 u (last f (get_or s p 0) (p + 1))) ≡ ok (n, q) → Shape zero f s p n q
      go true true x y e =
          let l = last_inv f (get_or s p 0) (p + 1) n q e in
          let b = leb-true (get_or s p 0) 15 y in
          record {
            stands = rw (fifth_digit n) (ltb-true p (length s) x, l.0, tt);
            after = rw (fifth_digit n) (sym l.1);
            small = omega (arith, l.0);
            nonzero = l.2;
          }
      go true false x y e = absurd (never _ (n, q) e)
      go false u x y e = absurd (never _ (n, q) e)
  only (suc k) f p n q h = go (ltb p (length s)) (ltb (get_or s p 0) 128) refl refl h (λ m. only k false (p + 1) m q)
    where
      go : (t u : Bool) → ltb p (length s) ≡ t → ltb (get_or s p 0) 128 ≡ u
          → need 38 t (cond u (last f (get_or s p 0) (p + 1)) (below (get_or s p 0 - 128) 128 (digits k false s (p + 1)))) ≡ ok (n, q)
          → ((m : ℕ) → digits k false s (p + 1) ≡ ok (m, q) → Shape k false s (p + 1) m q) → Shape (suc k) f s p n q
      go true true x y e ih =
          let l = last_inv f (get_or s p 0) (p + 1) n q e in
          let b = ltb-true (get_or s p 0) 128 y in
          let i : n < 128 = omega (arith, l.0) in
          record {
            stands = rw (one_digit k n i) (ltb-true p (length s) x, l.0, tt);
            after = rw (one_digit k n i) (sym l.1);
            small = omega (arith, lim_pos k);
            nonzero = l.2;
          }
      go true false x y e ih =
          let l = below_inv (get_or s p 0 - 128) (digits k false s (p + 1)) n q e in
          let r = ih l.0 l.1 in
          let b = ltb-false (get_or s p 0) 128 y in
          let c = bytes p in
          let o : 0 < l.0 = r.nonzero in
          let g : get_or s p 0 - 128 + 128 * l.0 ≡ n = l.2 in
          let i : 128 ≤ n = omega arith in
          let d : get_or s p 0 ≡ n % 128 + 128 = omega arith in
          let v : l.0 ≡ n / 128 = omega arith in
          record {
            stands = rw (more_digits k n i) (ltb-true p (length s) x, d, subst (λ (m : ℕ). Stand (shortest_digits k m) s (p + 1)) v r.stands);
            after = rw (more_digits k n i) (r.after ∙ ap (λ (m : ℕ). p + 1 + length (shortest_digits k m)) v ∙ next p (length (shortest_digits k (n / 128))));
            small = omega (arith, r.small);
            nonzero = positive f n i;
          }
        where
          next : (a b : ℕ) → a + 1 + b ≡ a + suc b
          next a b = omega arith
      go false u x y e ih = absurd (never _ (n, q) e)

  -- what decodes is the shortest encoding of its value, and the place is the one after it
  pub shortest : (p : ℕ) (v : ℤ) (q : ℕ) → number_at s p ≡ ok (v, q) → Stand (encode v) s p × (q ≡ p + length (encode v))
  unfolding number_at encode
  shortest p v q h = go (digits 4 true s p) refl h
    where
      go : (x : Answer (ℕ × ℕ)) → digits 4 true s p ≡ x → about p (signed x) ≡ ok (v, q) → Stand (encode v) s p × (q ≡ p + length (encode v))
      go (ok (n, r)) e g =
          let u = parts (unzig n) v r q g in
          let i : unzig n ≡ v = u.0 in
          let j : r ≡ q = u.1 in
          let z : n ≡ zig v = sym (zig_unzig n) ∙ ap zig i in
          let w = only 4 true p n r e in
          (subst (λ (m : ℕ). Stand (shortest_digits 4 m) s p) z w.stands, sym j ∙ w.after ∙ ap (λ (m : ℕ). p + length (shortest_digits 4 m)) z)
      go (refused r) e g = absurd (never _ (v, q) g)
