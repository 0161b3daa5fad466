-- Laws of specs/Zones, as proofs cite them. Nothing here need be believed.
-- Assumes nothing.
use Prim.Native.Nat.{ℕ, suc, ◌+◌, ◌-◌, ◌≤◌, ◌<◌}
use native.Mathlib.Omega.{arith}
use mathlib.Core.Path.{◌≡◌}
use mathlib.Core.Bool.{Bool, true, false, cond}
use mathlib.Core.List.{List}
use borrow.Author.Tests.{lt-ltb, le-ltb}
use Rattle.plane.specs.declared.Point.{Point}
use Rattle.plane.specs.declared.I32Point.{I32Point}
use Rattle.plane.specs.Domain.{in_domain}
use Rattle.answer.specs.declared.Refusal.{Refusal}
use Rattle.answer.specs.Answers.{Answer, ok, refused, no, ◌then◌}
use Rattle.boxes.specs.Box.{contains}
use Rattle.opened.specs.declared.Opened.{Opened}
use Rattle.reader_records.specs.declared.ListRecord.{ListRecord}
use Rattle.reader_records.specs.Records.{poly_at}
use Rattle.reader_ways.specs.Ways.{Way}
use Rattle.plane.specs.Places.{point_of}
use Rattle.reader_zones.specs.Zones.{poly_inside, poly_of, zone_by, contains_by, first_so}

-- ---- a loop: what is left from i on answers as the whole did, m
pub seek_start : (f : ℕ → Answer Bool) (found other : Bool) (n from : ℕ) → first_so f found other (from + n - from) from ≡ first_so f found other n from
seek_start f found other n from =
    let e : from + n - from ≡ n = omega arith in
    rw e

module _ (f : ℕ → Answer Bool) (found other : Bool) (n i : ℕ) (m : Answer Bool) (v : first_so f found other (n - i) i ≡ m) where
  pub seek_end : n ≤ i → ok other ≡ m
  unfolding first_so
  seek_end h =
      let e : n - i ≡ 0 = omega arith in
      rw e at v

  module _ (h : i < n) where
    seek_one : (x : Answer Bool) → x ≡ f i → (x then λ b. cond b (ok found) (first_so f found other (n - (i + 1)) (i + 1))) ≡ m
    unfolding first_so
    seek_one x e =
        let k : n - i ≡ suc (n - (i + 1)) = omega arith in
        rw (k, ← e) at v

    pub seek_no : (r : Refusal) → refused r ≡ f i → refused r ≡ m
    seek_no r e = seek_one (refused r) e

    pub seek_yes : ok true ≡ f i → ok found ≡ m
    seek_yes e = seek_one (ok true) e

    pub seek_on : ok false ≡ f i → first_so f found other (n - (i + 1)) (i + 1) ≡ m
    seek_on e = seek_one (ok false) e

-- a polygon by its box
module _ (w : Way) (o : Opened) (s : List ℕ) (p : Point) (i : ℕ) (q : ListRecord) (h : ok q ≡ poly_at o s i) where
  pub poly_out : contains q.bbox p ≡ false → ok false ≡ poly_of w o s p i
  unfolding poly_of
  poly_out e = rw (← h, e)

  pub poly_in : contains q.bbox p ≡ true → (x : Answer Bool) → x ≡ poly_inside w o s p q → x ≡ poly_of w o s p i
  unfolding poly_of
  poly_in e x k = rw (← h, e, k)

module _ (w : Way) (o : Opened) (s : List ℕ) (zone : ℕ) (q : I32Point) where
  pub whole_over : o.zones.count ≤ zone → no 45 ≡ contains_by w o s zone q
  unfolding contains_by
  whole_over h = rw (le-ltb zone o.zones.count h)

  module _ (h : zone < o.zones.count) where
    pub whole_off : in_domain q ≡ false → ok false ≡ contains_by w o s zone q
    unfolding contains_by
    whole_off e = rw (lt-ltb zone o.zones.count h, e)

    pub whole_is : in_domain q ≡ true → zone_by w o s (point_of q) zone ≡ contains_by w o s zone q
    unfolding contains_by
    whole_is e = rw (lt-ltb zone o.zones.count h, e)
