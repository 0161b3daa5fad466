-- A chunk that is broken is broken in the same way in bytes of which its own are the last: at the same number, its place counted from the first byte of all.
-- Assumes nothing.
use Prim.Native.Nat.{ℕ, zero, suc, ◌+◌, ◌-◌, ◌≤◌}
use native.Mathlib.Omega.{arith}
use mathlib.Core.Path.{◌≡◌, refl, sym, ap, ◌∙◌}
use mathlib.Core.Bool.{Bool, true, false}
use mathlib.Core.List.{List, ◌++◌}
use lib.ListN.{length, length-append}
use lib.IntN.{ℤ, pos}
use Rattle.answer.specs.declared.Refusal.{Refusal}
use Rattle.answer.specs.Refusals.{no_place, refusal, placed_at, counted_from}
use Rattle.answer.specs.Answers.{Answer, ok, refused, ◌then◌, need, about, behind}
use Rattle.answer.proofs.RefusalsLaws.{counted_at}
use Rattle.plane.specs.declared.I32Point.{I32Point}
use Rattle.plane.specs.Domain.{in_domain}
use Rattle.plane.specs.Places.{point}
use Rattle.varints.specs.Varint.{number_at}
use Rattle.varints.proofs.Places.{number_place}
use Rattle.varints.proofs.Shifted.{farther, number_shifted, end_same}
use Rattle.chunks.specs.Delta.{add_delta}
use Rattle.chunks.specs.Points.{numbers_at, moved_by, must_lie, first_from, next_at}
use Rattle.chunks.specs.Broken.{reached, Numbers, Broken, x_unread, y_unread, x_over, y_over, first_outside, outside, left_over}
use Rattle.chunks.proofs.Breaking.{y_within, reached_within}

-- two numbers, y's place, and the place after them
abbrev both : ℕ → Answer (I32Point × ℕ × ℕ) → Answer (I32Point × ℕ × ℕ)
both a (ok t) = ok (t.0, a + t.1, a + t.2)
both a (refused r) = refused (counted_from a r)

-- ---- sums and the domain
module _ (a : ℕ) where
  about_shifted : {A : Type 0} (i : ℕ) → a + i ≤ no_place → (x : Answer A) → about (a + i) x ≡ behind a (about i x)
  about_shifted i h (ok v) = refl
  about_shifted i h (refused r) = ap refused (counted_at a i r h)

  moved_shifted : (q d : I32Point) (i j : ℕ) → a + i ≤ no_place → a + j ≤ no_place → moved_by q d (a + i) (a + j) ≡ behind a (moved_by q d i j)
  unfolding moved_by
  moved_shifted q d i j h g =
      ap (λ (x : Answer ℤ). x then λ u. about (a + j) (add_delta q.y d.y) then λ v. ok (point u v)) (about_shifted i h (add_delta q.x d.x))
      ∙ in_x (about i (add_delta q.x d.x))
    where
      in_y : (u : ℤ) (y : Answer ℤ) → (behind a y then λ v. ok (point u v)) ≡ behind a (y then λ v. ok (point u v))
      in_y u (ok v) = refl
      in_y u (refused r) = refl

      in_x : (x : Answer ℤ) → (behind a x then λ u. about (a + j) (add_delta q.y d.y) then λ v. ok (point u v)) ≡ behind a (x then λ u. about j (add_delta q.y d.y) then λ v. ok (point u v))
      in_x (ok u) = ap (λ (y : Answer ℤ). y then λ v. ok (point u v)) (about_shifted j g (add_delta q.y d.y)) ∙ in_y u (about j (add_delta q.y d.y))
      in_x (refused r) = refl

  lie_shifted : (q : I32Point) (j m : ℕ) → a + j ≤ no_place → must_lie q (a + j) (a + m) ≡ farther a (must_lie q j m)
  unfolding must_lie
  lie_shifted q j m h = by_case (in_domain q)
    where
      there : ℕ → I32Point × ℕ
      there n = (q, n)

      by_case : (b : Bool) → about (a + j) (need 42 b (ok (there (a + m)))) ≡ farther a (about j (need 42 b (ok (there m))))
      by_case true = refl
      by_case false = ap refused (counted_at a j (refusal 42) h)

start : (k : ℕ) → k ≡ k + 0
start k = omega arith

-- ---- points
module _ (front s : List ℕ) (few : length (front ++ s) ≤ no_place) where
  abbrev a : ℕ
  a = length front

  fits : (k : ℕ) → k ≤ length s → a + k ≤ no_place
  fits k h = omega (arith, few, length-append front s, h)

  numbers_shifted : (p : ℕ) → p ≤ length s → numbers_at (front ++ s) (a + p) ≡ both a (numbers_at s p)
  unfolding numbers_at
  numbers_shifted p h = ap (λ (x : Answer (ℤ × ℕ)). x then after (front ++ s)) (number_shifted front s p (fits p h)) ∙ first (number_at s p) refl
    where
      pair : ℤ × ℕ → ℤ × ℕ → I32Point × ℕ × ℕ
      pair x y = (point x.0 y.0, x.1, y.1)

      after : List ℕ → ℤ × ℕ → Answer (I32Point × ℕ × ℕ)
      after l x = number_at l x.1 then λ y. ok (pair x y)

      second : (x : ℤ × ℕ) (y : Answer (ℤ × ℕ)) → (farther a y then λ z. ok (pair (x.0, a + x.1) z)) ≡ both a (y then λ z. ok (pair x z))
      second x (ok z) = refl
      second x (refused r) = refl

      first : (x : Answer (ℤ × ℕ)) → x ≡ number_at s p → (farther a x then after (front ++ s)) ≡ both a (x then after s)
      first (ok x) e =
          ap (λ (y : Answer (ℤ × ℕ)). y then λ z. ok (pair (x.0, a + x.1) z)) (number_shifted front s x.1 (fits x.1 (number_place s p x.0 x.1 e).within))
          ∙ second x (number_at s x.1)
      first (refused r) e = refl

  first_shifted : (p : ℕ) → p ≤ length s → first_from (front ++ s) (a + p) ≡ farther a (first_from s p)
  unfolding first_from
  first_shifted p h = ap (λ (x : Answer (I32Point × ℕ × ℕ)). x then λ t. must_lie t.0 t.1 t.2) (numbers_shifted p h) ∙ land (numbers_at s p) refl
    where
      land : (x : Answer (I32Point × ℕ × ℕ)) → x ≡ numbers_at s p → (both a x then λ t. must_lie t.0 t.1 t.2) ≡ farther a (x then λ t. must_lie t.0 t.1 t.2)
      land (ok t) e = lie_shifted a t.0 t.1 t.2 (fits t.1 (y_within s p t e))
      land (refused r) e = refl

  next_shifted : (q : I32Point) (k : ℕ) → k ≤ length s → next_at (front ++ s) q (a + k) ≡ farther a (next_at s q k)
  unfolding next_at
  next_shifted q k h =
      ap (λ (x : Answer (I32Point × ℕ × ℕ)). x then λ d. moved_by q d.0 (a + k) d.1 then λ t. must_lie t d.1 d.2) (numbers_shifted k h)
      ∙ move (numbers_at s k) refl
    where
      land : (d : I32Point × ℕ × ℕ) → a + d.1 ≤ no_place → (x : Answer I32Point) → (behind a x then λ t. must_lie t (a + d.1) (a + d.2)) ≡ farther a (x then λ t. must_lie t d.1 d.2)
      land d g (ok t) = lie_shifted a t d.1 d.2 g
      land d g (refused r) = refl

      move : (x : Answer (I32Point × ℕ × ℕ)) → x ≡ numbers_at s k
          → (both a x then λ d. moved_by q d.0 (a + k) d.1 then λ t. must_lie t d.1 d.2) ≡ farther a (x then λ d. moved_by q d.0 k d.1 then λ t. must_lie t d.1 d.2)
      move (ok d) e =
          let g = fits d.1 (y_within s k d e) in
          ap (λ (x : Answer I32Point). x then λ t. must_lie t (a + d.1) (a + d.2)) (moved_shifted a q d.0 k d.1 (fits k h) g) ∙ land d g (moved_by q d.0 k d.1)
      move (refused r) e = refl

  reached_shifted : (n : ℕ) → reached (front ++ s) a n ≡ farther a (reached s 0 n)
  unfolding reached
  reached_shifted zero = ap (λ (k : ℕ). ok (point (pos 0) (pos 0), k)) (start a)
  reached_shifted (suc zero) = ap (first_from (front ++ s)) (start a) ∙ first_shifted 0 (omega arith)
  reached_shifted (suc (suc n)) = ap (λ (x : Answer (I32Point × ℕ)). x then λ t. next_at (front ++ s) t.0 t.1) (reached_shifted (suc n)) ∙ on_to (reached s 0 (suc n)) refl
    where
      on_to : (x : Answer (I32Point × ℕ)) → x ≡ reached s 0 (suc n) → (farther a x then λ t. next_at (front ++ s) t.0 t.1) ≡ farther a (x then λ t. next_at s t.0 t.1)
      on_to (ok t) e = next_shifted t.0 t.1 (reached_within s 0 (omega arith) (suc n) t e)
      on_to (refused r) e = refl

  -- ---- each row
  there : (n : ℕ) (q : I32Point) (k : ℕ) → ok (q, k) ≡ reached s 0 n → ok (q, a + k) ≡ reached (front ++ s) a n
  there n q k e = ap (farther a) e ∙ sym (reached_shifted n)

  at_most : (n : ℕ) (q : I32Point) (k : ℕ) → ok (q, k) ≡ reached s 0 n → k ≤ length s
  at_most n q k e = reached_within s 0 (omega arith) n (q, k) e

  read : (k : ℕ) → k ≤ length s → (z : ℤ) (j : ℕ) → ok (z, j) ≡ number_at s k → ok (z, a + j) ≡ number_at (front ++ s) (a + k)
  read k h z j e = ap (farther a) e ∙ sym (number_shifted front s k (fits k h))

  unread : (k : ℕ) → k ≤ length s → (r : Refusal) → refused r ≡ number_at s k → refused (counted_from a r) ≡ number_at (front ++ s) (a + k)
  unread k h r e = ap (farther a) e ∙ sym (number_shifted front s k (fits k h))

  after : (k : ℕ) (z : ℤ) (j : ℕ) → ok (z, j) ≡ number_at s k → j ≤ length s
  after k z j e = (number_place s k z j e).within

  named : (n k : ℕ) → k ≤ length s → (r : Refusal) → r ≡ placed_at k (refusal n) → counted_from a r ≡ placed_at (a + k) (refusal n)
  named n k h r e = ap (counted_from a) e ∙ sym (counted_at a k (refusal n) (fits k h))

  numbers : (n : ℕ) (q : I32Point) (k : ℕ) (x : ℤ) (j : ℕ) (y : ℤ) (m : ℕ) → Numbers s 0 n q k x j y m → Numbers (front ++ s) a n q (a + k) x (a + j) y (a + m)
  numbers n q k x j y m b =
      record {
        behind = there n q k b.behind;
        first = read k (at_most n q k b.behind) x j b.first;
        second = read j (after k x j b.first) y m b.second;
      }

  pub broken_shifted : (count : ℕ) (r : Refusal) → Broken s 0 count r → Broken (front ++ s) a count (counted_from a r)
  broken_shifted c r (x_unread n q k l e f) = x_unread n q (a + k) l (there n q k e) (unread k (at_most n q k e) r f)
  broken_shifted c r (y_unread n q k l e x j f g) = y_unread n q (a + k) l (there n q k e) x (a + j) (read k (at_most n q k e) x j f) (unread j (after k x j f) r g)
  broken_shifted c r (x_over n q k x j y m l b o i) = x_over n q (a + k) x (a + j) y (a + m) l (numbers (suc n) q k x j y m b) o (named 41 k (at_most (suc n) q k b.behind) r i)
  broken_shifted c r (y_over n q k x j y m l b f o i) = y_over n q (a + k) x (a + j) y (a + m) l (numbers (suc n) q k x j y m b) f o (named 41 j (after k x j b.first) r i)
  broken_shifted c r (first_outside q k x j y m l b o i) = first_outside q (a + k) x (a + j) y (a + m) l (numbers 0 q k x j y m b) o (named 42 j (after k x j b.first) r i)
  broken_shifted c r (outside n q k x j y m l b f g o i) = outside n q (a + k) x (a + j) y (a + m) l (numbers (suc n) q k x j y m b) f g o (named 42 j (after k x j b.first) r i)
  broken_shifted c r (left_over n q k l e o i) = left_over n q (a + k) l (there (suc n) q k e) (end_same front s k ∙ o) (named 43 k (at_most (suc n) q k e) r i)
