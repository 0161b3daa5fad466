-- What every record of a sound file gives: it is the one that its directory holds, and it keeps its rule.
-- Assumes nothing.
use Prim.Native.Nat.{ℕ, ◌<◌}
use mathlib.Core.Path.{◌≡◌, refl}
use mathlib.Core.Bool.{true, ◌&&◌}
use mathlib.Core.List.{List}
use borrow.Author.Tests.{ltb-true}
use Rattle.basics.specs.Truth.{and_l, and_r}
use Rattle.plane.specs.Domain.{in_domain}
use Rattle.answer.specs.Answers.{Answer, ok, refused, value_or, Given}
use Rattle.fields.specs.Le.{le}
use Rattle.boxes.specs.Box.{box_in_domain}
use Rattle.shapes.specs.Layout.{Span, Names}
use Rattle.opened.specs.declared.Opened.{Opened}
use Rattle.reader_records.specs.Records.{record_at, list_in, list_rule, list_at, poly_at, ring_in, ring_rule, ring_at, op_rule, op_at, group_in, group_rule, group_at, fits_below, tz_at}
use Rattle.opened.specs.Widths.{list_wide, ring_wide, op_wide, group_wide}
use Rattle.directories.specs.Directories.{no_list, no_ring, no_group, list_span, ring_span, group_span, zone_record, poly_record, ring_record, op_word, op_group, group_record}
use Rattle.reader_exact.specs.Sound.{Sound}
use Rattle.answer.proofs.AnswersLaws.{zero_one}
use Rattle.reader_records.proofs.RecordsLaws.{ruled_kept, within_some, within_fits, group_ends}

-- where an answer is given, nothing stands in
given_value : {A : Type 0} (fixed : A) (x : Answer A) → Given x → ok (value_or fixed x) ≡ x
given_value fixed (ok a) g = refl
given_value fixed (refused r) g =
    let e : ok g.value ≡ refused r = g.is in
    let z : ◌≡◌ {A = ℕ} 0 1 = cc in
    absurd (zero_one z)

-- what the record rule says of a span
pub record Ruled (t : Span) (below : ℕ) : Type 0 where
  pub box_in_law : box_in_domain t.box ≡ true
  pub names : Names t below

is_ruled : (t : Span) (below : ℕ) → box_in_domain t.box && fits_below t.first t.count below ≡ true → Ruled t below
is_ruled t below h =
    let w = and_r (box_in_domain t.box) (fits_below t.first t.count below) h in
    record {
      box_in_law = and_l (box_in_domain t.box) (fits_below t.first t.count below) h;
      names = record { some = within_some t.first t.count below w; fits = within_fits t.first t.count below w };
    }

module _ (o : Opened) (s : List ℕ) (k : Sound o s) (i : ℕ) where
  -- ---- zones
  module _ (h : i < o.zones.count) where
    pub zone_is : ok (zone_record o s i) ≡ tz_at o s i
    unfolding zone_record
    zone_is = given_value no_list (tz_at o s i) (k.zone_given i h)

    pub zone_ruled : Ruled (list_span (zone_record o s i)) o.polys.count
    unfolding list_at list_rule
    zone_ruled = is_ruled (list_span (zone_record o s i)) o.polys.count (ruled_kept (record_at s o.zones list_wide i) (list_in s) (list_rule o.polys.count) 34 (zone_record o s i) zone_is)

  -- ---- polygons
  module _ (h : i < o.polys.count) where
    pub poly_is : ok (poly_record o s i) ≡ poly_at o s i
    unfolding poly_record
    poly_is = given_value no_list (poly_at o s i) (k.poly_given i h)

    pub poly_ruled : Ruled (list_span (poly_record o s i)) o.rings.count
    unfolding list_at list_rule
    poly_ruled = is_ruled (list_span (poly_record o s i)) o.rings.count (ruled_kept (record_at s o.polys list_wide i) (list_in s) (list_rule o.rings.count) 34 (poly_record o s i) poly_is)

  -- ---- rings
  module _ (h : i < o.rings.count) where
    pub ring_is : ok (ring_record o s i) ≡ ring_at o s i
    unfolding ring_record
    ring_is = given_value no_ring (ring_at o s i) (k.ring_given i h)

    pub ring_ruled : Ruled (ring_span (ring_record o s i)) o.ops.count
    unfolding ring_at ring_rule
    ring_ruled = is_ruled (ring_span (ring_record o s i)) o.ops.count (ruled_kept (record_at s o.rings ring_wide i) (ring_in s) (ring_rule o.ops.count) 34 (ring_record o s i) ring_is)

  -- ---- ring ops
  module _ (h : i < o.ops.count) where
    pub op_is : ok (op_word o s i) ≡ op_at o s i
    unfolding op_word
    op_is = given_value 0 (op_at o s i) (k.op_given i h)

    pub op_named : op_group o s i < o.groups.count
    unfolding op_at op_rule
    op_named = ltb-true (op_group o s i) o.groups.count (ruled_kept (record_at s o.ops op_wide i) (le 4 s) (op_rule o.groups.count) 35 (op_word o s i) op_is)

  -- ---- groups
  module _ (h : i < o.groups.count) where
    pub group_is : ok (group_record o s i) ≡ group_at o s i
    unfolding group_record
    group_is = given_value no_group (group_at o s i) (k.group_given i h)

    kept : group_rule o.chunks.count (group_record o s i) ≡ true
    unfolding group_at
    kept = ruled_kept (record_at s o.groups group_wide i) (group_in s) (group_rule o.chunks.count) 34 (group_record o s i) group_is

    pub group_ruled : Ruled (group_span (group_record o s i)) o.chunks.count
    unfolding group_rule
    group_ruled =
        let g = group_record o s i in
        is_ruled (group_span g) o.chunks.count (and_l (box_in_domain g.bbox && fits_below g.first g.count o.chunks.count) (in_domain g.entry && in_domain g.exit) kept)

    pub entry_in_law : in_domain (group_record o s i).entry ≡ true
    entry_in_law = and_l (in_domain (group_record o s i).entry) (in_domain (group_record o s i).exit) (group_ends o.chunks.count (group_record o s i) kept)

    pub exit_in : in_domain (group_record o s i).exit ≡ true
    exit_in = and_r (in_domain (group_record o s i).entry) (in_domain (group_record o s i).exit) (group_ends o.chunks.count (group_record o s i) kept)
