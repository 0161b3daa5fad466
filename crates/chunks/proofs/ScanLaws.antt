-- Laws of specs/Scan, as proofs cite them. Nothing here need be believed.
-- Assumes nothing.
use Prim.Native.Nat.{ℕ, ◌-◌, ◌<◌}
use mathlib.Core.Path.{◌≡◌, refl}
use mathlib.Core.Bool.{Bool}
use mathlib.Core.List.{List}
use Rattle.answer.specs.declared.Refusal.{Refusal}
use Rattle.answer.specs.Refusals.{refusal}
use Rattle.answer.specs.Answers.{ok, refused}
use Rattle.answer.specs.Walks.{Walk, broken, on, add, walk_behind}
use Rattle.plane.specs.declared.Point.{Point}
use Rattle.plane.specs.declared.I32Point.{I32Point}
use Rattle.plane.specs.Sight.{Sight, On, Off}
use Rattle.rays.specs.Ray.{ray_of}
use Rattle.chunks.specs.Points.{first_of}
use Rattle.chunks.specs.Along.{reach}
use Rattle.chunks.specs.Scan.{past, scanner, scan_of}
use Rattle.chunks.proofs.AlongLaws.{walk_none, walk_no, walk_from_law}
use Rattle.chunks.specs.Steps.{onward}

-- ---- the cases of the code
module _ (s : List ℕ) (n : ℕ) (p : Point) where
  pub scan_none : n ≡ 0 → broken (refusal 32) ≡ scan_of s n p
  unfolding scan_of
  scan_none z = walk_none (scanner p) s n z

  pub scan_no : 0 < n → (r : Refusal) → refused r ≡ first_of s → broken r ≡ scan_of s n p
  unfolding scan_of
  scan_no h r e = walk_no (scanner p) s n h r e

  pub scan_from : 0 < n → (q : I32Point) (k : ℕ) → ok (q, k) ≡ first_of s → onward s p (n - 1) q k ≡ scan_of s n p
  unfolding scan_of onward
  scan_from h q k e = walk_from_law (scanner p) s n h q k e

-- past a segment, by what is seen of it
module _ (p : Point) (q t : I32Point) (x : Walk I32Point) where
  pub segment_on : On ≡ ray_of q t p → on ≡ reach (scanner p) q t x
  segment_on e = rw (← e)

  pub segment_off : (b : Bool) → Off b ≡ ray_of q t p → add b x ≡ reach (scanner p) q t x
  segment_off b e = rw (← e)

-- what is seen of a segment has no place
pub past_placeless : {A : Type 0} (a : ℕ) (z : Sight) (x : A) → past z x ≡ walk_behind a (past z x)
past_placeless a On x = refl
past_placeless a (Off b) x = refl
