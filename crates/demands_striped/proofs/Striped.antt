-- Demand 3 by stripes (specs/Striped), of every file.
-- F5 puts each chunk's box within its group's, and opening has every record of both read: so building goes through. By stripes every answer is the plain one: so it is exact.
-- Assumes nothing.
use Prim.Native.Nat.{ℕ, ◌+◌, ◌<◌}
use native.Mathlib.Omega.{arith}
use mathlib.Core.Path.{◌≡◌, sym, ◌∙◌}
use mathlib.Core.Bool.{true, ◌&&◌}
use mathlib.Core.List.{List}
use lib.Signed.{le_z}
use Rattle.basics.specs.Truth.{and_r}
use Rattle.plane.specs.Segment.{seg}
use Rattle.answer.specs.declared.Refusal.{Refusal}
use Rattle.answer.specs.Refusals.{refusal}
use Rattle.answer.specs.Answers.{ok, refused, Given}
use Rattle.boxes.specs.declared.BBox.{BBox}
use Rattle.shapes.specs.Shapes.{covers, zone_in}
use Rattle.shapes.specs.Layout.{zone_at}
use Rattle.opened.specs.declared.Opened.{Opened}
use Rattle.reader_records.specs.declared.GroupRecord.{GroupRecord}
use Rattle.reader_records.specs.Records.{group_at, chunk_at}
use Rattle.replies.specs.Replies.{accepted}
use Rattle.stripes.specs.Stripes.{within_height}
use Rattle.stripes.specs.Numbers.{numbers, need_of}
use Rattle.stripes.proofs.NeedLaws.{need_is}
use Rattle.reader_stripes.specs.Building.{boxed_groups, stripes_need}
use Rattle.reader_check.proofs.Facts.{group_covers_law}
use Rattle.directories.specs.Directories.{directories}
use Rattle.reader_same.specs.Same.{Built}
use Rattle.reader_same.proofs.Ruled.{group_fits_law}
use Rattle.reader_same.proofs.Builds.{Under, groups_given, need_given, stripes_given, need_only}
use Rattle.reader_same.proofs.Same.{same}
use Rattle.tzb.specs.Opening.{open_of}
use Rattle.tzb.specs.FullCheck.{full_check_of}
use Rattle.tzb.proofs.Given.{group_answered, chunk_answered}
use Rattle.demands.specs.Accepted.{Accepted}
use Rattle.demands.specs.Words.{Position}
use Rattle.demands.proofs.Accepted.{accepted_with}
use Rattle.demands.proofs.Words.{zone_in_words}
use Rattle.demands.proofs.Demand3.{contains_is}
use Rattle.demands_striped.specs.Striped.{Builds, ExactlyStriped, Demand3Striped}

-- a box that another covers lies within it in y
covered_within : (b c : BBox) → covers b c ≡ true → within_height b c ≡ true
unfolding covers within_height
covered_within b c h = and_r (le_z b.minx c.minx && le_z c.maxx b.maxx) (le_z b.miny c.miny && le_z c.maxy b.maxy) h

-- ---- building, of a file that opens: every record is there
module _ (file : List ℕ) (o : Opened) (opened : ok o ≡ open_of file) where
  chunk_given : (i : ℕ) → i < o.chunks.count → Given (chunk_at o file i)
  chunk_given i h = record { value = _; is = chunk_answered file o opened i h }

  group_given : (i : ℕ) → i < o.groups.count → Given (group_at o file i)
  group_given i h = record { value = _; is = group_answered file o opened i h }

  pub opened_needs : (k : Refusal) → refused k ≡ stripes_need o file → k ≡ refusal 49
  opened_needs = need_only o file group_given (λ i h g e c l. chunk_given (g.first + c) (omega (arith, group_fits_law o file i g e)))

-- ---- and of one that the full check accepts
module _ (file : List ℕ) (o : Opened) (a : Accepted file o) where
  under : (i : ℕ) → i < o.groups.count → (g : GroupRecord) → ok g ≡ group_at o file i → (c : ℕ) → c < g.count → Under o file g (g.first + c)
  under i h g e c l =
      let k = chunk_given file o a.f1 (g.first + c) (omega (arith, group_fits_law o file i g e)) in
      record { chunk = k; within = covered_within g.bbox k.value.bbox (group_covers_law o file a.f5 i h g e (g.first + c) (omega arith) (omega arith) k.value k.is) }

  boxed : Given (boxed_groups o file)
  boxed = groups_given o file (group_given file o a.f1) under

  pub accepted_builds : Builds o file
  accepted_builds =
      record {
        needed = need_of boxed.value;
        numbers = numbers boxed.value;
        many = need_is boxed.value;
        told = sym (need_given o file boxed);
        builds = λ room. sym (stripes_given o file room boxed);
      }

-- ---- asking
contains_striped : (file : List ℕ) → full_check_of file ≡ accepted → (o : Opened) → ok o ≡ open_of file → (lent : List ℕ) → Built o file lent
    → (zone : ℕ) → zone < o.zones.count → (p : Position) → ExactlyStriped o file lent zone p.at
contains_striped file accepts o opened lent b zone h p =
    record {
      says = zone_in (seg p.at) (zone_at (directories o file) zone);
      answers = (same o file lent b).contains zone p.at ∙ contains_is file accepts o opened zone h p.at;
      exactly = zone_in_words p.at (zone_at (directories o file) zone);
    }

pub demand_3_striped : (file : List ℕ) → Demand3Striped file
demand_3_striped file = record { needs = opened_needs file; builds = λ accepts o opened. accepted_builds file o (accepted_with file accepts o opened); contains = contains_striped file }
