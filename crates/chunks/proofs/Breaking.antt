-- What the walk along a chunk's points is refused by: 32 for a count of 0, or a row of specs/Broken, whoever walks. And what a row tells: the refusal's number, and that its place is one of the bytes or their end. A first point alone is never refused by 41 or 43. And back: where a row stands, the walk comes to its refusal, so at most one refusal has a row.
-- Assumes nothing.
use Prim.Native.Nat.{ℕ, zero, suc, ◌+◌, ◌-◌, ◌≤◌, ◌<◌}
use native.Mathlib.Omega.{arith}
use mathlib.Core.Path.{◌≡◌, refl, sym, ap, ap₂, ◌∙◌}
use mathlib.Core.Bool.{Bool, true, false}
use mathlib.Core.List.{List}
use mathlib.Core.Logic.{◌⊎◌, inl, inr}
use lib.ListN.{length}
use lib.Dec.{ltb}
use borrow.Author.Tests.{ltb-true, lt-ltb}
use lib.IntN.{ℤ, pos, ◌+ℤ◌}
use Rattle.answer.specs.declared.Refusal.{Refusal}
use Rattle.answer.specs.Refusals.{refusal, placed_at}
use Rattle.answer.specs.Answers.{Answer, ok, refused, ◌then◌, need, about}
use Rattle.answer.proofs.AnswersLaws.{then_inv, need_inv, then_ok, then_no, ok_inv}
use Rattle.answer.proofs.RefusalsLaws.{refused_inv, never_both, then_split, need_split, about_inv}
use Rattle.plane.specs.declared.I32Point.{I32Point}
use Rattle.plane.specs.Domain.{in_domain}
use Rattle.plane.specs.Places.{point}
use Rattle.varints.specs.Varint.{number_at, at_end}
use Rattle.varints.proofs.Places.{number_place}
use Rattle.varints.proofs.Unreadable.{OneAt, three}
use Rattle.chunks.specs.Delta.{fits32, add_delta}
use Rattle.chunks.specs.Points.{numbers_at, moved_by, must_lie, first_from, next_at}
use Rattle.chunks.specs.Along.{Walker, follow, reach, along, walk_from}
use Rattle.chunks.specs.Decode.{decoder}
use Rattle.chunks.proofs.DeltaLaws.{sum_fits, sum_over}
use Rattle.chunks.proofs.PointsLaws as N
use Rattle.chunks.specs.Broken.{reached, Numbers, Broken, OfFirst, x_unread, y_unread, x_over, y_over, first_outside, outside, left_over}

-- the walk is refused so
abbrev pub Stopped : List ℕ → ℕ → ℕ → Refusal → Type 0
Stopped s p count r = (r ≡ refusal 32) ⊎ Broken s p count r

-- ---- sums and the domain
module _ (before delta : ℤ) (i : ℕ) where
  sum_no : (r : Refusal) → refused r ≡ about i (add_delta before delta) → (fits32 (before +ℤ delta) ≡ false) × (r ≡ placed_at i (refusal 41))
  unfolding add_delta
  sum_no r h = go (fits32 (before +ℤ delta)) h
    where
      go : (b : Bool) → refused r ≡ about i (need 41 b (ok (before +ℤ delta))) → (b ≡ false) × (r ≡ placed_at i (refusal 41))
      go true e = absurd (never_both r (before +ℤ delta) e)
      go false e = (refl, refused_inv {A = ℤ} _ _ e)

  sum_is : (z : ℤ) → ok z ≡ about i (add_delta before delta) → (fits32 (before +ℤ delta) ≡ true) × (z ≡ before +ℤ delta)
  unfolding add_delta
  sum_is z h = go (fits32 (before +ℤ delta)) h
    where
      go : (b : Bool) → ok z ≡ about i (need 41 b (ok (before +ℤ delta))) → (b ≡ true) × (z ≡ before +ℤ delta)
      go true e = (refl, ok_inv _ _ e)
      go false e = absurd (never_both _ z (sym e))

lie_no : (q : I32Point) (j m : ℕ) (r : Refusal) → refused r ≡ must_lie q j m → (in_domain q ≡ false) × (r ≡ placed_at j (refusal 42))
unfolding must_lie
lie_no q j m r h = go (in_domain q) h
  where
    there : I32Point × ℕ
    there = (q, m)

    go : (b : Bool) → refused r ≡ about j (need 42 b (ok there)) → (b ≡ false) × (r ≡ placed_at j (refusal 42))
    go true e = absurd (never_both r there e)
    go false e = (refl, refused_inv {A = I32Point × ℕ} _ _ e)

-- ---- after n points, of which q is the last, at k
module _ (s : List ℕ) (p count n : ℕ) (q : I32Point) (k : ℕ) (e : ok (q, k) ≡ reached s p n) where
  numbers_no : n < count → (r : Refusal) → refused r ≡ numbers_at s k → Broken s p count r
  unfolding numbers_at
  numbers_no l r h = first (then_split (number_at s k) _ r h)
    where
      both : ℤ × ℕ → ℤ × ℕ → I32Point × ℕ × ℕ
      both x y = (point x.0 y.0, x.1, y.1)

      second : (x : ℤ × ℕ) → ok x ≡ number_at s k
          → (refused r ≡ number_at s x.1) ⊎ ((y : ℤ × ℕ) × (ok y ≡ number_at s x.1) × (refused r ≡ ok (both x y)))
          → Broken s p count r
      second x f (inl g) = y_unread n q k l e x.0 x.1 f g
      second x f (inr g) = absurd (never_both r _ g.2)

      first : (refused r ≡ number_at s k) ⊎ ((x : ℤ × ℕ) × (ok x ≡ number_at s k) × (refused r ≡ (number_at s x.1 then λ y. ok (both x y))))
          → Broken s p count r
      first (inl f) = x_unread n q k l e f
      first (inr g) = second g.0 g.1 (then_split (number_at s g.0.1) _ r g.2)

  -- the two numbers that stand there
  numbers_both : (t : I32Point × ℕ × ℕ) → ok t ≡ numbers_at s k → Numbers s p n q k t.0.x t.1 t.0.y t.2
  unfolding numbers_at
  numbers_both t h =
      let f = then_inv (number_at s k) _ t h in
      let g = then_inv (number_at s f.0.1) _ t f.2 in
      same f.0 g.0 f.1 g.1 (ok_inv _ _ g.2)
    where
      same : (x y : ℤ × ℕ) → ok x ≡ number_at s k → ok y ≡ number_at s x.1 → t ≡ (point x.0 y.0, x.1, y.1) → Numbers s p n q k t.0.x t.1 t.0.y t.2
      same x y f g i = rw i (record { behind = e; first = f; second = g })

-- ---- after n + 1 points, of which q is the last, at k
module _ (s : List ℕ) (p count n : ℕ) (q : I32Point) (k : ℕ) (e : ok (q, k) ≡ reached s p (suc n)) where
  -- where the sums lead
  moved_no : suc n < count → (t : I32Point × ℕ × ℕ) → ok t ≡ numbers_at s k → (r : Refusal) → refused r ≡ moved_by q t.0 k t.1 → Broken s p count r
  unfolding moved_by
  moved_no l t f r h = x_sum (then_split (about k (add_delta q.x t.0.x)) _ r h)
    where
      y_sum : (u : ℤ) → ok u ≡ about k (add_delta q.x t.0.x)
          → (refused r ≡ about t.1 (add_delta q.y t.0.y)) ⊎ ((v : ℤ) × (ok v ≡ about t.1 (add_delta q.y t.0.y)) × (refused r ≡ ok (point u v)))
          → Broken s p count r
      y_sum u i (inl g) = let o = sum_no q.y t.0.y t.1 r g in y_over n q k _ _ _ _ l (numbers_both s p count (suc n) q k e t f) (sum_is q.x t.0.x k u i).0 o.0 o.1
      y_sum u i (inr g) = absurd (never_both r _ g.2)

      x_sum : (refused r ≡ about k (add_delta q.x t.0.x)) ⊎ ((u : ℤ) × (ok u ≡ about k (add_delta q.x t.0.x)) × (refused r ≡ (about t.1 (add_delta q.y t.0.y) then λ v. ok (point u v))))
          → Broken s p count r
      x_sum (inl g) = let o = sum_no q.x t.0.x k r g in x_over n q k _ _ _ _ l (numbers_both s p count (suc n) q k e t f) o.0 o.1
      x_sum (inr g) = y_sum g.0 g.1 (then_split (about t.1 (add_delta q.y t.0.y)) _ r g.2)

  -- the sums, and the point that they lead to
  record Sums (d u : I32Point) : Type 0 where
    x_fits : fits32 (q.x +ℤ d.x) ≡ true
    y_fits : fits32 (q.y +ℤ d.y) ≡ true
    leads : u ≡ point (q.x +ℤ d.x) (q.y +ℤ d.y)

  moved_is : (d : I32Point) (i j : ℕ) (u : I32Point) → ok u ≡ moved_by q d i j → Sums d u
  unfolding moved_by
  moved_is d i j u h =
      let f = then_inv (about i (add_delta q.x d.x)) _ u h in
      let g = then_inv (about j (add_delta q.y d.y)) _ u f.2 in
      let x = sum_is q.x d.x i f.0 f.1 in
      let y = sum_is q.y d.y j g.0 g.1 in
      record { x_fits = x.0; y_fits = y.0; leads = ok_inv _ _ g.2 ∙ ap₂ point x.1 y.1 }

  -- the point after q
  next_no : suc n < count → (r : Refusal) → refused r ≡ next_at s q k → Broken s p count r
  unfolding next_at
  next_no l r h = read (then_split (numbers_at s k) _ r h)
    where
      arrives : (t : I32Point × ℕ × ℕ) → ok t ≡ numbers_at s k
          → (refused r ≡ moved_by q t.0 k t.1) ⊎ ((u : I32Point) × (ok u ≡ moved_by q t.0 k t.1) × (refused r ≡ must_lie u t.1 t.2))
          → Broken s p count r
      arrives t f (inl g) = moved_no l t f r g
      arrives t f (inr g) =
          let o = lie_no g.0 t.1 t.2 r g.2 in
          let m = moved_is t.0 k t.1 g.0 g.1 in
          outside n q k _ _ _ _ l (numbers_both s p count (suc n) q k e t f) m.x_fits m.y_fits (ap in_domain (sym m.leads) ∙ o.0) o.1

      read : (refused r ≡ numbers_at s k) ⊎ ((t : I32Point × ℕ × ℕ) × (ok t ≡ numbers_at s k) × (refused r ≡ (moved_by q t.0 k t.1 then λ u. must_lie u t.1 t.2)))
          → Broken s p count r
      read (inl f) = numbers_no s p count (suc n) q k e l r f
      read (inr g) = arrives g.0 g.1 (then_split (moved_by q g.0.0 k g.0.1) _ r g.2)

  -- bytes left over
  end_no : suc n ≡ count → (r : Refusal) → refused r ≡ about k (need 43 (at_end s k) (ok q)) → Broken s p count r
  end_no l r h = go (at_end s k) refl h
    where
      go : (b : Bool) → at_end s k ≡ b → refused r ≡ about k (need 43 b (ok q)) → Broken s p count r
      go true i g = absurd (never_both r q g)
      go false i g = left_over n q k l e i (refused_inv {A = I32Point} _ _ g)

-- the first point
pub first_no : (s : List ℕ) (p count : ℕ) → 0 < count → (r : Refusal) → refused r ≡ first_from s p → Broken s p count r
unfolding first_from reached
first_no s p count l r h = read (then_split (numbers_at s p) _ r h)
  where
    read : (refused r ≡ numbers_at s p) ⊎ ((t : I32Point × ℕ × ℕ) × (ok t ≡ numbers_at s p) × (refused r ≡ must_lie t.0 t.1 t.2)) → Broken s p count r
    read (inl f) = numbers_no s p count 0 (point (pos 0) (pos 0)) p refl l r f
    read (inr g) =
        let o = lie_no g.0.0 g.0.1 g.0.2 r g.2 in
        first_outside (point (pos 0) (pos 0)) p _ _ _ _ l (numbers_both s p count 0 (point (pos 0) (pos 0)) p refl g.0 g.1) o.0 o.1

-- ---- the walk, whoever walks
module _
    (s : List ℕ)
    (p count : ℕ)
    {R : Type 0}
    (P : R → Type 0)
    (w : Walker R)
    (stops : (r : Refusal) → Stopped s p count r → P (w.stop r))
    (lasts : (q : I32Point) → P (w.last q))
    (points : (q : I32Point) (x : R) → P x → P (w.point q x))
    (segments : (q t : I32Point) (x : R) → P x → P (w.segment q t x))
  where
    followed : {A : Type 0} (x : Answer A) (f : A → R) → ((r : Refusal) → refused r ≡ x → Stopped s p count r) → ((a : A) → ok a ≡ x → P (f a)) → P (follow w x f)
    followed (ok a) f h g = g a refl
    followed (refused r) f h g = stops r (h r refl)

    along_so : (n m : ℕ) (q : I32Point) (k : ℕ) → suc m + n ≡ count → ok (q, k) ≡ reached s p (suc m) → P (along w s n q k)
    unfolding along reached
    along_so zero m q k l e = followed _ _ (λ r h. inr (end_no s p count m q k e (omega (arith, l)) r h)) (λ t h. lasts t)
    along_so (suc n) m q k l e =
        followed _ _ (λ r h. inr (next_no s p count m q k e (omega (arith, l)) r h))
        (λ t h. segments q t.0 _ (points t.0 _ (along_so n (suc m) t.0 t.1 (omega (arith, l)) (on_to t h))))
      where
        on_to : (t : I32Point × ℕ) → ok t ≡ next_at s q k → ok t ≡ reached s p (suc (suc m))
        on_to t h = h ∙ then_ok (reached s p (suc m)) (λ u. next_at s u.0 u.1) (q, k) e

    pub walk_so : P (walk_from w s p count)
    unfolding walk_from reached
    walk_so = followed _ _ (λ r h. start r (need_split 32 (ltb 0 count) (first_from s p) r h)) (λ t h. let g = need_inv 32 (ltb 0 count) (first_from s p) t h in points t.0 _ (along_so (count - 1) 0 t.0 t.1 (omega (arith, ltb-true 0 count g.0)) g.1))
      where
        start : (r : Refusal) → (r ≡ refusal 32) ⊎ ((ltb 0 count ≡ true) × (refused r ≡ first_from s p)) → Stopped s p count r
        start r (inl e) = inl e
        start r (inr e) = inr (first_no s p count (ltb-true 0 count e.0) r e.1)

-- ---- places: the one after a point is one of the bytes or their end
module _ (s : List ℕ) where
  numbers_within : (k : ℕ) (t : I32Point × ℕ × ℕ) → ok t ≡ numbers_at s k → t.2 ≤ length s
  unfolding numbers_at
  numbers_within k t h =
      let f = then_inv (number_at s k) _ t h in
      let g = then_inv (number_at s f.0.1) _ t f.2 in
      let i : t.2 ≡ g.0.1 = ap (λ (u : I32Point × ℕ × ℕ). u.2) (ok_inv _ _ g.2) in
      omega (arith, i, (number_place s f.0.1 g.0.0 g.0.1 g.1).within)

  pub y_within : (k : ℕ) (t : I32Point × ℕ × ℕ) → ok t ≡ numbers_at s k → t.1 ≤ length s
  unfolding numbers_at
  y_within k t h =
      let f = then_inv (number_at s k) _ t h in
      let g = then_inv (number_at s f.0.1) _ t f.2 in
      let i : t.1 ≡ f.0.1 = ap (λ (u : I32Point × ℕ × ℕ). u.1) (ok_inv _ _ g.2) in
      omega (arith, i, (number_place s k f.0.0 f.0.1 f.1).within)

  lie_within : (q : I32Point) (j m : ℕ) (t : I32Point × ℕ) → ok t ≡ must_lie q j m → t.1 ≡ m
  unfolding must_lie
  lie_within q j m t h = ap (λ (u : I32Point × ℕ). u.1) (ok_inv t (q, m) (need_inv 42 (in_domain q) (ok (q, m)) t (about_inv j _ t h)).1)

  first_within : (p : ℕ) (t : I32Point × ℕ) → ok t ≡ first_from s p → t.1 ≤ length s
  unfolding first_from
  first_within p t h =
      let f = then_inv (numbers_at s p) (λ u. must_lie u.0 u.1 u.2) t h in
      omega (arith, lie_within _ _ _ t f.2, numbers_within p f.0 f.1)

  next_within : (q : I32Point) (k : ℕ) (t : I32Point × ℕ) → ok t ≡ next_at s q k → t.1 ≤ length s
  unfolding next_at
  next_within q k t h =
      let f = then_inv (numbers_at s k) (λ d. moved_by q d.0 k d.1 then λ u. must_lie u d.1 d.2) t h in
      let g = then_inv (moved_by q f.0.0 k f.0.1) (λ u. must_lie u f.0.1 f.0.2) t f.2 in
      omega (arith, lie_within _ _ _ t g.2, numbers_within k f.0 f.1)

  pub reached_within : (p : ℕ) → p ≤ length s → (n : ℕ) (t : I32Point × ℕ) → ok t ≡ reached s p n → t.1 ≤ length s
  unfolding reached
  reached_within p h zero t e = let i : t.1 ≡ p = ap (λ (u : I32Point × ℕ). u.1) (ok_inv t (point (pos 0) (pos 0), p) e) in omega (arith, i, h)
  reached_within p h (suc zero) t e = first_within p t e
  reached_within p h (suc (suc n)) t e = let g = then_inv (reached s p (suc n)) (λ u. next_at s u.0 u.1) t e in next_within g.0.0 g.0.1 t g.2

-- ---- what a row tells
pub record Told (s : List ℕ) (r : Refusal) : Type 0 where
  pub least : 38 ≤ r.number
  pub greatest : r.number ≤ 43
  -- the place of a byte, or the end
  pub within : r.place ≤ length s

-- a refusal of that number, at that place
told_at : (s : List ℕ) (n k : ℕ) (r : Refusal) → r ≡ placed_at k (refusal n) → 38 ≤ n → n ≤ 43 → k ≤ length s → Told s r
told_at s n k r e l g w =
    let i : r.number ≡ n = ap number e in
    let j : r.place ≡ k = ap place e in
    record { least = omega (arith, i, l); greatest = omega (arith, i, g); within = omega (arith, j, w) }
  where
    number : Refusal → ℕ
    number z = z.number

    place : Refusal → ℕ
    place z = z.place

number_told : (s : List ℕ) (k : ℕ) → k ≤ length s → (r : Refusal) → OneAt k r → Told s r
number_told s k w r (inl e) = told_at s 38 k r e (omega arith) (omega arith) w
number_told s k w r (inr (inl e)) = told_at s 39 k r e (omega arith) (omega arith) w
number_told s k w r (inr (inr e)) = told_at s 40 k r e (omega arith) (omega arith) w

module _ (s : List ℕ) (p count : ℕ) (h : p ≤ length s) where
  after : (k : ℕ) (x : ℤ) (j : ℕ) → ok (x, j) ≡ number_at s k → j ≤ length s
  after k x j e = (number_place s k x j e).within

  pub told : (r : Refusal) → Broken s p count r → Told s r
  told r (x_unread n q k l e f) = number_told s k (reached_within s p h n (q, k) e) r (three s k r (sym f))
  told r (y_unread n q k l e x j f g) = number_told s j (after k x j f) r (three s j r (sym g))
  told r (x_over n q k x j y m l b o i) = told_at s 41 k r i (omega arith) (omega arith) (reached_within s p h (suc n) (q, k) b.behind)
  told r (y_over n q k x j y m l b f o i) = told_at s 41 j r i (omega arith) (omega arith) (after k x j b.first)
  told r (first_outside q k x j y m l b o i) = told_at s 42 j r i (omega arith) (omega arith) (after k x j b.first)
  told r (outside n q k x j y m l b f g o i) = told_at s 42 j r i (omega arith) (omega arith) (after k x j b.first)
  told r (left_over n q k l e o i) = told_at s 43 k r i (omega arith) (omega arith) (reached_within s p h (suc n) (q, k) e)

-- ---- what the refusal of a first point alone tells
pub first_told : (s : List ℕ) (p : ℕ) (r : Refusal) → refused r ≡ first_from s p → OfFirst r.number
unfolding reached
first_told s p r h = by_row (first_no s p 1 (omega arith) r h)
  where
    number : (n k : ℕ) → r ≡ placed_at k (refusal n) → r.number ≡ n
    number n k e = ap (λ (z : Refusal). z.number) e

    unread : (k : ℕ) → OneAt k r → OfFirst r.number
    unread k (inl e) = inl (omega (arith, number 38 k e))
    unread k (inr (inl e)) = inl (omega (arith, number 39 k e))
    unread k (inr (inr e)) = inl (omega (arith, number 40 k e))

    -- no end is tested: after one point nothing is refused
    given : (n : ℕ) (q : I32Point) (k : ℕ) → suc n ≡ 1 → ok (q, k) ≡ reached s p (suc n) → ⊥
    given zero q k l e = never_both r (q, k) (h ∙ sym e)
    given (suc n) q k l e = omega (arith, l)

    by_row : Broken s p 1 r → OfFirst r.number
    by_row (x_unread n q k l e f) = unread k (three s k r (sym f))
    by_row (y_unread n q k l e x j f g) = unread j (three s j r (sym g))
    by_row (x_over n q k x j y m l b o i) = absurd (omega (arith, l))
    by_row (y_over n q k x j y m l b f o i) = absurd (omega (arith, l))
    by_row (first_outside q k x j y m l b o i) = inr (number 42 j i)
    by_row (outside n q k x j y m l b f g o i) = absurd (omega (arith, l))
    by_row (left_over n q k l e o i) = absurd (given n q k l e)

-- ---- what a row's numbers are
module _ (s : List ℕ) (p : ℕ) where
  -- before the first point
  start : (q : I32Point) (k : ℕ) → ok (q, k) ≡ reached s p 0 → k ≡ p
  unfolding reached
  start q k e = ap (λ (u : I32Point × ℕ). u.1) (ok_inv (q, k) (point (pos 0) (pos 0), p) e)

  both : {n : ℕ} {q : I32Point} {k : ℕ} {x : ℤ} {j : ℕ} {y : ℤ} {m : ℕ} → Numbers s p n q k x j y m → ok (point x y, j, m) ≡ numbers_at s k
  both {n} {q} {k} {x} {j} {y} {m} b = N.numbers_both s k x y j m b.first b.second

  -- of the first point
  first_lies : (d : I32Point) (j m : ℕ) → ok (d, j, m) ≡ numbers_at s p → must_lie d j m ≡ first_from s p
  unfolding first_from
  first_lies d j m e = then_ok (numbers_at s p) (λ t. must_lie t.0 t.1 t.2) (d, j, m) e

-- ---- and back: where a row stands, the walk comes to its refusal, whoever walks, if no point and no segment changes that
module _
    (s : List ℕ)
    (p count : ℕ)
    {R : Type 0}
    (w : Walker R)
    (r : Refusal)
    (points : (q : I32Point) → w.point q (w.stop r) ≡ w.stop r)
    (segments : (q t : I32Point) → w.segment q t (w.stop r) ≡ w.stop r)
  where
    -- from the last of m + 1 points back to the first
    one_back : (q t : I32Point) (k j n : ℕ) → ok (t, j) ≡ next_at s q k → w.stop r ≡ along w s n t j → w.stop r ≡ along w s (suc n) q k
    unfolding along
    one_back q t k j n e h = sym (ap (w.segment q t) (points t) ∙ segments q t) ∙ ap (reach w q t) h ∙ ap (λ a. follow w a (λ u. reach w q u.0 (along w s n u.0 u.1))) e

    to_first : (q : I32Point) (k n : ℕ) → suc n ≡ count → ok (q, k) ≡ first_from s p → w.stop r ≡ along w s n q k → w.stop r ≡ walk_from w s p count
    unfolding walk_from
    to_first q k n l e h =
        let i : n ≡ count - 1 = omega (arith, l) in
        sym (points q) ∙ ap (w.point q) (h ∙ ap (λ (j : ℕ). along w s j q k) i) ∙ rw (lt-ltb 0 count (omega (arith, l)), ← e)

    back : (m : ℕ) (q : I32Point) (k n : ℕ) → suc m + n ≡ count → ok (q, k) ≡ reached s p (suc m) → w.stop r ≡ along w s n q k → w.stop r ≡ walk_from w s p count
    unfolding reached
    back zero q k n l e h = to_first q k n (omega (arith, l)) e h
    back (suc m) q k n l e h =
        let t = then_inv (reached s p (suc m)) (λ u. next_at s u.0 u.1) (q, k) e in
        back m t.0.0 t.0.1 (suc n) (omega (arith, l)) t.1 (one_back t.0.0 q t.0.1 k n t.2 h)

    -- the first point is refused
    at_first : 0 < count → refused r ≡ first_from s p → w.stop r ≡ walk_from w s p count
    unfolding walk_from
    at_first l e = rw (lt-ltb 0 count l, ← e)

    -- the point after m + 1
    at_next : (m : ℕ) (q : I32Point) (k : ℕ) → suc m < count → ok (q, k) ≡ reached s p (suc m) → refused r ≡ next_at s q k → w.stop r ≡ walk_from w s p count
    unfolding along
    at_next m q k l e h = back m q k (suc (count - suc (suc m))) (omega (arith, l)) e (ap (λ a. follow w a (λ u. reach w q u.0 (along w s (count - suc (suc m)) u.0 u.1))) h)

    -- the end
    at_end_law : (m : ℕ) (q : I32Point) (k : ℕ) → suc m ≡ count → ok (q, k) ≡ reached s p (suc m) → at_end s k ≡ false → r ≡ placed_at k (refusal 43) → w.stop r ≡ walk_from w s p count
    unfolding along
    at_end_law m q k l e h i = back m q k 0 (omega (arith, l)) e (ap w.stop i ∙ ap (λ (b : Bool). follow w (about k (need 43 b (ok q))) w.last) (sym h))

    -- the numbers of the point after n
    at_numbers : (n : ℕ) (q : I32Point) (k : ℕ) → n < count → ok (q, k) ≡ reached s p n → refused r ≡ numbers_at s k → w.stop r ≡ walk_from w s p count
    unfolding reached first_from
    at_numbers zero q k l e h = at_first l (then_no (numbers_at s p) (λ t. must_lie t.0 t.1 t.2) r (h ∙ ap (numbers_at s) (start s p q k e)))
    at_numbers (suc n) q k l e h = at_next n q k l e (N.next_no s q k r h)

    pub row_stops : Broken s p count r → w.stop r ≡ walk_from w s p count
    row_stops (x_unread n q k l e f) = at_numbers n q k l e (N.numbers_first s k r f)
    row_stops (y_unread n q k l e x j f g) = at_numbers n q k l e (N.numbers_second s k x j r f g)
    row_stops (x_over n q k x j y m l b o i) = at_next n q k l b.behind (N.next_over s q k (point x y) j m (both s p b) r (ap refused i ∙ N.arrive_x q x y k j (refusal 41) (sum_over q.x x o)))
    row_stops (y_over n q k x j y m l b f o i) = at_next n q k l b.behind (N.next_over s q k (point x y) j m (both s p b) r (ap refused i ∙ N.arrive_y q x y k j (q.x +ℤ x) (sum_fits q.x x (q.x +ℤ x) refl f) (refusal 41) (sum_over q.y y o)))
    row_stops (first_outside q k x j y m l b o i) = at_first l (ap refused i ∙ N.lie_out (point x y) j m o ∙ first_lies s p (point x y) j m (both s p b ∙ ap (numbers_at s) (start s p q k b.behind)))
    row_stops (outside n q k x j y m l b f g o i) = at_next n q k l b.behind (N.next_over s q k (point x y) j m (both s p b) r (ap refused i ∙ N.arrive_out q x y k j (q.x +ℤ x) (sum_fits q.x x (q.x +ℤ x) refl f) (q.y +ℤ y) (sum_fits q.y y (q.y +ℤ y) refl g) o))
    row_stops (left_over n q k l e o i) = at_end_law n q k l e o i

-- ---- so at most one refusal has a row
pub one_row : (s : List ℕ) (p count : ℕ) (r r' : Refusal) → Broken s p count r → Broken s p count r' → r ≡ r'
one_row s p count r r' h h' = refused_inv {A = List I32Point} r r' (stops r h ∙ sym (stops r' h'))
  where
    stops : (k : Refusal) → Broken s p count k → refused k ≡ walk_from decoder s p count
    stops k = row_stops s p count decoder k (λ q. refl) (λ q t. refl)
