-- Laws of specs/Decode, as proofs cite them. Nothing here need be believed.
-- Assumes nothing.
use Prim.Native.Nat.{ℕ, zero, suc, ◌-◌, ◌*◌, ◌≤◌, ◌<◌}
use mathlib.Core.Path.{◌≡◌, refl}
use mathlib.Core.Bool.{Bool, true, false}
use mathlib.Core.List.{List, []}
use lib.ListN.{length}
use lib.Dec.{ltb}
use lib.IntN.{ℤ}
use borrow.Author.Tests.{lt-ltb, le-leb, lt-leb}
use Rattle.answer.specs.declared.Refusal.{Refusal}
use Rattle.answer.specs.Answers.{Answer, ok, refused, no, ◌then◌, need, about}
use Rattle.plane.specs.declared.I32Point.{I32Point}
use Rattle.varints.specs.Varint.{at_end}
use Rattle.chunks.specs.Points.{first_of, next_at}
use Rattle.chunks.specs.Along.{follow, along, walk_from}
use Rattle.chunks.specs.Decode.{led, decoder, points_of, into_room}
use Rattle.chunks.proofs.AlongLaws.{walk_no, walk_from_law}
use Rattle.chunks.specs.Steps.{points_from}

-- ---- what the walk comes to here
followed : {A : Type 0} (x : Answer A) (f : A → Answer (List I32Point)) → follow decoder x f ≡ (x then f)
followed (ok a) f = refl
followed (refused r) f = refl

module _ (s : List ℕ) (q : I32Point) (k : ℕ) where
  pub points_last : points_from s zero q k ≡ about k (need 43 (at_end s k) (ok []))
  unfolding points_from along
  points_last = tested (at_end s k)
    where
      tested : (b : Bool) → follow decoder (about k (need 43 b (ok q))) (λ t. ok []) ≡ about k (need 43 b (ok []))
      tested true = refl
      tested false = refl

  pub points_next : (n : ℕ) → points_from s (suc n) q k ≡ (next_at s q k then λ t. led t.0 (points_from s n t.0 t.1))
  unfolding points_from along
  points_next n = followed (next_at s q k) (λ t. led t.0 (along decoder s n t.0 t.1))

pub points_are : (s : List ℕ) (n : ℕ) → points_of s n ≡ need 32 (ltb 0 n) (first_of s then λ t. led t.0 (points_from s (n - 1) t.0 t.1))
unfolding points_of walk_from points_from
points_are s n = tested (ltb 0 n)
  where
    tested : (b : Bool) → follow decoder (need 32 b (first_of s)) (λ t. led t.0 (along decoder s (n - 1) t.0 t.1)) ≡ need 32 b (first_of s then λ t. led t.0 (along decoder s (n - 1) t.0 t.1))
    tested true = followed (first_of s) (λ t. led t.0 (along decoder s (n - 1) t.0 t.1))
    tested false = refl

-- ---- the cases of the code
module _ (s : List ℕ) (n : ℕ) (out : List ℤ) where
  pub into_none : n ≡ 0 → no 32 ≡ into_room s n out
  unfolding into_room
  into_none z = rw z

  module _ (h : 0 < n) where
    pub into_short : length out < 2 * n → no 46 ≡ into_room s n out
    unfolding into_room
    into_short l = rw (lt-ltb 0 n h, lt-leb (2 * n) (length out) l)

    module _ (room : 2 * n ≤ length out) where
      pub into_no : (r : Refusal) → refused r ≡ first_of s → refused r ≡ into_room s n out
      unfolding into_room points_of
      into_no r e = rw (lt-ltb 0 n h, le-leb (2 * n) (length out) room) (walk_no decoder s n h r e)

      pub into_at : (q : I32Point) (k : ℕ) → ok (q, k) ≡ first_of s → led q (points_from s (n - 1) q k) ≡ into_room s n out
      unfolding into_room points_of points_from
      into_at q k e = rw (lt-ltb 0 n h, le-leb (2 * n) (length out) room) (walk_from_law decoder s n h q k e)
