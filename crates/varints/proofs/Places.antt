-- A number that is read has one to five bytes, and none of them lies past the end.
-- Assumes nothing.
use mathlib.Core.Path.{◌≡◌, refl, sym}
use Prim.Native.Nat.{ℕ, zero, suc, ◌+◌, ◌-◌, ◌≤◌, ◌<◌}
use native.Mathlib.Omega.{arith}
use mathlib.Core.List.{List}
use mathlib.Core.Bool.{Bool, true, false, cond}
use lib.ListN.{length, get_or}
use lib.Dec.{ltb, leb}
use lib.IntN.{ℤ}
use borrow.Author.Tests.{ltb-true}
use Rattle.answer.specs.Answers.{Answer, ok, refused, need, about}
use Rattle.varints.specs.Varint.{unzig, last, below, digits, signed, number_at}
use Rattle.varints.proofs.Shortest.{never, parts, last_inv, below_inv}

-- q is the place after one to k + 1 bytes from p on
pub record After (k : ℕ) (s : List ℕ) (p q : ℕ) : Type 0 where
  pub some : p < q
  pub few : q ≤ p + 1 + k
  pub within : q ≤ length s

digits_place : (k : ℕ) (f : Bool) (s : List ℕ) (p n q : ℕ) → digits k f s p ≡ ok (n, q) → After k s p q
unfolding digits
digits_place zero f s p n q h = go (ltb p (length s)) (leb (get_or s p 0) 15) refl h
  where
    go : (t u : Bool) → ltb p (length s) ≡ t → need 38 t (need 40 u (last f (get_or s p 0) (p + 1))) ≡ ok (n, q) → After zero s p q
    go true true x e =
        let l = last_inv f (get_or s p 0) (p + 1) n q e in
        record {
          some = omega (arith, l.1);
          few = omega (arith, l.1);
          within = omega (arith, l.1, ltb-true p (length s) x);
        }
    go true false x e = absurd (never _ (n, q) e)
    go false u x e = absurd (never _ (n, q) e)
digits_place (suc k) f s p n q h = go (ltb p (length s)) (ltb (get_or s p 0) 128) refl h (λ m. digits_place k false s (p + 1) m q)
  where
    go : (t u : Bool) → ltb p (length s) ≡ t
        → need 38 t (cond u (last f (get_or s p 0) (p + 1)) (below (get_or s p 0 - 128) 128 (digits k false s (p + 1)))) ≡ ok (n, q)
        → ((m : ℕ) → digits k false s (p + 1) ≡ ok (m, q) → After k s (p + 1) q) → After (suc k) s p q
    go true true x e ih =
        let l = last_inv f (get_or s p 0) (p + 1) n q e in
        record {
          some = omega (arith, l.1);
          few = omega (arith, l.1);
          within = omega (arith, l.1, ltb-true p (length s) x);
        }
    go true false x e ih =
        let l = below_inv (get_or s p 0 - 128) (digits k false s (p + 1)) n q e in
        let r = ih l.0 l.1 in
        record { some = omega (arith, r.some); few = omega (arith, r.few); within = r.within }
    go false u x e ih = absurd (never _ (n, q) e)

pub number_place : (s : List ℕ) (p : ℕ) (v : ℤ) (q : ℕ) → ok (v, q) ≡ number_at s p → After 4 s p q
unfolding number_at
number_place s p v q h = go (digits 4 true s p) refl (sym h)
  where
    go : (x : Answer (ℕ × ℕ)) → digits 4 true s p ≡ x → about p (signed x) ≡ ok (v, q) → After 4 s p q
    go (ok (n, r)) e g =
        let u = parts (unzig n) v r q g in
        let w = digits_place 4 true s p n r e in
        record { some = omega (arith, u.1, w.some); few = omega (arith, u.1, w.few); within = omega (arith, u.1, w.within) }
    go (refused k) e g = absurd (never _ (v, q) g)
