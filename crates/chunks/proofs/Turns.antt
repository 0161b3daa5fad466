-- A loop that reads a point a turn: what follows from what comes next.
-- Assumes nothing.
use Prim.Native.Nat.{ℕ, zero, suc, ◌+◌, ◌-◌, ◌*◌, ◌≤◌, ◌<◌}
use native.Mathlib.Omega.{arith}
use mathlib.Core.Path.{◌≡◌, refl, ap, ◌∙◌}
use mathlib.Core.Bool.{Bool, true, false}
use mathlib.Core.List.{List, [], ◌∷◌}
use Rattle.answer.specs.declared.Refusal.{Refusal}
use Rattle.answer.specs.Checks.{claim}
use Rattle.answer.specs.Answers.{Answer, ok, refused, need, about, outcome}
use Rattle.answer.specs.Walks.{on, add}
use Rattle.plane.specs.declared.Point.{Point}
use Rattle.plane.specs.declared.I32Point.{I32Point}
use Rattle.plane.specs.Sight.{On, Off}
use Rattle.plane.specs.Domain.{in_domain}
use Rattle.rays.specs.Ray.{ray_of}
use Rattle.varints.specs.Varint.{at_end}
use Rattle.chunks.specs.Points.{moved_by, next_at}
use Rattle.chunks.specs.Along.{follow, along}
use Rattle.chunks.specs.Scan.{scanner}
use Rattle.chunks.specs.Decode.{decoder}
use Rattle.chunks.proofs.Decoded.{led_same}
use Rattle.answer.proofs.AnswersLaws.{then_inv, need_inv, ok_inv}
use Rattle.answer.proofs.RefusalsLaws.{about_inv}
use Rattle.chunks.proofs.ScanLaws.{segment_on, segment_off}
use Rattle.chunks.proofs.AlongLaws.{by_no, by_to}
use Rattle.chunks.specs.Steps.{arrive, along_by, read_from}

-- the point lies in the domain
pub turn_in : (q d : I32Point) (i j : ℕ) (t : I32Point) → ok t ≡ arrive q d i j → in_domain t ≡ true
unfolding arrive
turn_in q d i j t h =
    let g = then_inv (moved_by q d i j) (λ u. about j (need 42 (in_domain u) (ok u))) t h in
    let w = need_inv 42 (in_domain g.0) (ok g.0) t (about_inv j _ t g.2) in
    ap in_domain (ok_inv t g.0 w.1) ∙ w.0

-- none is left
pub no_more : (n : ℕ) → n ≤ 0 → n ≡ 0
no_more n h = omega (arith, h)

-- ---- the places of n points more, from i on, of `count` points after the first, two numbers a point
-- points are left where the place is not behind the last
module _ (i n count end : ℕ) (b : end ≡ 2 + 2 * count) (e : i + 2 * n ≡ 2 + 2 * count) where
  pub some_left : i < end → 0 < n
  some_left h = omega (arith, h, b, e)

  pub none_left : end ≤ i → n ≡ 0
  none_left h = omega (arith, h, b, e)

module _ (i n count : ℕ) (h : 0 < n) (e : i + 2 * n ≡ 2 + 2 * count) where
  pub place_on : i + 2 + 2 * (n - 1) ≡ 2 + 2 * count
  place_on = omega (arith, h, e)

  pub place_in : (k m : ℕ) → m ≡ k → 2 + 2 * count ≤ k → i + 1 < m
  place_in k m s r = omega (arith, h, e, s, r)

pub room_first : (count k : ℕ) → 2 + 2 * count ≤ k → 0 + 1 < k
room_first count k r = omega (arith, r)

pub room_kept : (n k m : ℕ) → m ≡ k → n ≤ k → n ≤ m
room_kept n k m s r = omega (arith, s, r)

-- ---- the scan, where the answer to what comes next is a
module _ (s : List ℕ) (p : Point) (q : I32Point) (n k : ℕ) (a : Answer (I32Point × ℕ)) (h : 0 < n) where
  pub by_on : (t : I32Point) (m : ℕ) → ok (t, m) ≡ a → On ≡ ray_of q t p → on ≡ along_by (scanner p) s n q k a
  by_on t m e f = segment_on p q t (along (scanner p) s (n - 1) t m) f ∙ by_to (scanner p) s q n k a h t m e

  pub by_off : (t : I32Point) (m : ℕ) → ok (t, m) ≡ a → (c : Bool) → Off c ≡ ray_of q t p → add c (along (scanner p) s (n - 1) t m) ≡ along_by (scanner p) s n q k a
  by_off t m e c f = segment_off p q t (along (scanner p) s (n - 1) t m) c f ∙ by_to (scanner p) s q n k a h t m e

-- ---- the points that are left, where the answer to what comes next is a
module _ (s : List ℕ) (q : I32Point) (n k : ℕ) (a : Answer (I32Point × ℕ)) where
  module _ (h : 0 < n) where
    pub check_no : (r : Refusal) → refused r ≡ a → refused r ≡ outcome (along_by decoder s n q k a)
    check_no r e = ap outcome (by_no decoder s q n k a h r e)

    pub check_on : (t : I32Point) (m : ℕ) → ok (t, m) ≡ a → outcome (along decoder s (n - 1) t m) ≡ outcome (along_by decoder s n q k a)
    check_on t m e = led_same t (along decoder s (n - 1) t m) ∙ ap outcome (by_to decoder s q n k a h t m e)

  pub check_end : n ≡ 0 → (b : Bool) → b ≡ at_end s k → about k (claim 43 b) ≡ outcome (along_by decoder s n q k a)
  unfolding along_by claim
  check_end z b e = rw (z, e) (told_end (at_end s k))
    where
      told_end : (b : Bool) → about k (claim 43 b) ≡ outcome (follow decoder (about k (need 43 b (ok q))) (λ t. ok []))
      told_end true = refl
      told_end false = refl

-- ---- the points that can be read, where the answer to what comes next is a
unfoldable pub read_by : List ℕ → ℕ → Answer (I32Point × ℕ) → List I32Point
read_by s zero a = []
read_by s (suc n) (ok t) = t.0 ∷ read_from s n t.0 t.1
read_by s (suc n) (refused r) = []

pub read_by_law : (s : List ℕ) (q : I32Point) (k n : ℕ) → read_by s n (next_at s q k) ≡ read_from s n q k
unfolding read_by read_from
read_by_law s q k zero = refl
read_by_law s q k (suc n) = by_case (next_at s q k) refl
  where
    by_case : (a : Answer (I32Point × ℕ)) → next_at s q k ≡ a → read_by s (suc n) a ≡ read_from s (suc n) q k
    by_case (ok t) e = rw e
    by_case (refused r) e = rw e

module _ (s : List ℕ) (n : ℕ) (a : Answer (I32Point × ℕ)) (h : 0 < n) where
  one_more : n ≡ suc (n - 1)
  one_more = omega arith

  pub read_no : (r : Refusal) → refused r ≡ a → [] ≡ read_by s n a
  unfolding read_by
  read_no r e = rw (one_more, ← e)

  pub read_on : (t : I32Point) (m : ℕ) → ok (t, m) ≡ a → t ∷ read_from s (n - 1) t m ≡ read_by s n a
  unfolding read_by
  read_on t m e = by_more (n - 1) one_more
    where
      by_more : (j : ℕ) → n ≡ suc j → t ∷ read_from s j t m ≡ read_by s n a
      by_more j z = rw (z, ← e)

pub read_end : (s : List ℕ) (n : ℕ) (a : Answer (I32Point × ℕ)) → n ≡ 0 → [] ≡ read_by s n a
unfolding read_by
read_end s n a z = rw z
