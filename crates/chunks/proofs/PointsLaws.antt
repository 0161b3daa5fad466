-- Laws of specs/Points, as proofs cite them. Nothing here need be believed.
-- Assumes nothing.
use Prim.Native.Nat.{ℕ}
use mathlib.Core.Path.{◌≡◌, refl, ap, ◌∙◌}
use mathlib.Core.Bool.{true, false, Bool}
use mathlib.Core.List.{List}
use lib.IntN.{ℤ}
use Rattle.answer.specs.declared.Refusal.{Refusal}
use Rattle.answer.specs.Refusals.{refusal, placed_at}
use Rattle.answer.specs.Answers.{ok, refused, Answer, ◌then◌, need, about}
use Rattle.plane.specs.declared.I32Point.{I32Point}
use Rattle.plane.specs.Domain.{in_domain}
use Rattle.varints.specs.Varint.{number_at}
use Rattle.plane.specs.Places.{point}
use Rattle.chunks.specs.Points.{numbers_at, first_of, first_from, must_lie, moved_by, next_at}
use Rattle.chunks.specs.Delta.{add_delta}
use Rattle.chunks.specs.Steps.{arrive, placed}

-- ---- the cases of the code
module _ (s : List ℕ) (p : ℕ) where
  pub numbers_first : (r : Refusal) → refused r ≡ number_at s p → refused r ≡ numbers_at s p
  unfolding numbers_at
  numbers_first r e = rw (← e)

  pub numbers_second : (x : ℤ) (n : ℕ) (r : Refusal) → ok (x, n) ≡ number_at s p → refused r ≡ number_at s n → refused r ≡ numbers_at s p
  unfolding numbers_at
  numbers_second x n r e f = rw (← e, ← f)

  pub numbers_both : (x y : ℤ) (n m : ℕ) → ok (x, n) ≡ number_at s p → ok (y, m) ≡ number_at s n → ok (point x y, n, m) ≡ numbers_at s p
  unfolding numbers_at
  numbers_both x y n m e f = rw (← e, ← f)

module _ (s : List ℕ) where
  pub first_no : (r : Refusal) → refused r ≡ numbers_at s 0 → refused r ≡ first_of s
  unfolding first_from
  first_no r e = rw (← e)

  pub first_at_law : (q : I32Point) (j p : ℕ) → ok (q, j, p) ≡ numbers_at s 0 → must_lie q j p ≡ first_of s
  unfolding first_from
  first_at_law q j p e = rw (← e)

module _ (q : I32Point) (j p : ℕ) where
  pub lie_out : in_domain q ≡ false → refused (placed_at j (refusal 42)) ≡ must_lie q j p
  unfolding must_lie
  lie_out h = rw h

  pub lie_in : in_domain q ≡ true → ok (q, p) ≡ must_lie q j p
  unfolding must_lie
  lie_in h = rw h

module _ (q : I32Point) (x y : ℤ) (i j : ℕ) where
  pub arrive_x : (r : Refusal) → refused r ≡ add_delta q.x x → refused (placed_at i r) ≡ arrive q (point x y) i j
  unfolding arrive moved_by
  arrive_x r e = rw (← e)

  module _ (u : ℤ) (e : ok u ≡ add_delta q.x x) where
    pub arrive_y : (r : Refusal) → refused r ≡ add_delta q.y y → refused (placed_at j r) ≡ arrive q (point x y) i j
    unfolding arrive moved_by
    arrive_y r f = rw (← e, ← f)

    module _ (v : ℤ) (f : ok v ≡ add_delta q.y y) where
      pub arrive_out : in_domain (point u v) ≡ false → refused (placed_at j (refusal 42)) ≡ arrive q (point x y) i j
      unfolding arrive moved_by
      arrive_out h = rw (← e, ← f, h)

      pub arrive_in : in_domain (point u v) ≡ true → ok (point u v) ≡ arrive q (point x y) i j
      unfolding arrive moved_by
      arrive_in h = rw (← e, ← f, h)

-- the point after q, the numbers of whose delta are d, y's at j
next_arrives : (s : List ℕ) (q d : I32Point) (p j m : ℕ) → ok (d, j, m) ≡ numbers_at s p → (arrive q d p j then placed m) ≡ next_at s q p
unfolding next_at arrive must_lie
next_arrives s q d p j m e = rw (← e) (arrived (moved_by q d p j))
  where
    in_domain_law : (b : Bool) (t : I32Point) → (about j (need 42 b (ok t)) then placed m) ≡ about j (need 42 b (placed m t))
    in_domain_law true t = refl
    in_domain_law false t = refl

    arrived : (a : Answer I32Point) → ((a then λ t. about j (need 42 (in_domain t) (ok t))) then placed m) ≡ (a then λ t. about j (need 42 (in_domain t) (placed m t)))
    arrived (ok t) = in_domain_law (in_domain t) t
    arrived (refused r) = refl

module _ (s : List ℕ) (q : I32Point) (p : ℕ) where
  pub next_no : (r : Refusal) → refused r ≡ numbers_at s p → refused r ≡ next_at s q p
  unfolding next_at
  next_no r e = rw (← e)

  module _ (d : I32Point) (j m : ℕ) (e : ok (d, j, m) ≡ numbers_at s p) where
    pub next_over : (r : Refusal) → refused r ≡ arrive q d p j → refused r ≡ next_at s q p
    next_over r f = ap (λ (a : Answer I32Point). a then placed m) f ∙ next_arrives s q d p j m e

    pub next_to : (t : I32Point) → ok t ≡ arrive q d p j → ok (t, m) ≡ next_at s q p
    next_to t f = ap (λ (a : Answer I32Point). a then placed m) f ∙ next_arrives s q d p j m e
