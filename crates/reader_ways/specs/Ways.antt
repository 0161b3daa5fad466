-- Document 02, 2026-02: a group's chunks as the first half of `scan_group` walks them, by stripes. For any opened record, any bytes and any numbers.
-- "asked with other numbers, 44 for a place past them, 34 for a chunk outside the group or a height of 0"
-- Assumes nothing.
use Rattle.std.specs.Prelude.{ℕ, zero, suc, ◌+◌, ◌*◌, cond, List, leb, ltb, eqb, length, get_or, ℤ, pos, neg_ℤ, Float}
use Rattle.std.specs.Int.{w32}
use Rattle.std.proofs.Common.{to_z}
use Rattle.plane.specs.declared.Point.{Point}
use Rattle.answer.specs.Answers.{Answer, ok, need}
use Rattle.answer.specs.Walks.{Walk, ◌go◌, ◌yields◌, done, must}
use Rattle.boxes.specs.Box.{spans}
use Rattle.floors.specs.Floor.{floor_of}
use Rattle.opened.specs.declared.Opened.{Opened}
use Rattle.reader_records.specs.declared.GroupRecord.{GroupRecord}
use Rattle.reader_groups.specs.Groups.{One, group_scan, alone_at}
use Rattle.stripes.specs.Stripes.{stripe_of}
use Rattle.stripes.specs.Numbers.{group_numbers, stripe_numbers}
use Rattle.reader_ways.specs.declared.Way as C
use Rattle.reader_ways.specs.declared.Way.TheVariants as W
use Rattle.reader_ways.specs.declared.Entry.{Entry}
use Rattle.reader_ways.specs.declared.Stripe.{Stripe}

-- which way a group's chunks are walked: plainly, or by the stripes that these numbers say
pub data Way : Type 0 where
  plain : Way
  striped : List ℕ → Way

-- the same of the code's
abbrev pub way_of : C.Way → Way
way_of W.Plain = plain
way_of (W.Striped numbers) = striped numbers.now

-- ---- what the numbers say
-- the number at a place, and the place that two numbers say, low half first
abbrev pub number_in : List ℕ → ℕ → ℕ
number_in numbers at = get_or numbers at 0

abbrev pub place_in : List ℕ → ℕ → ℕ
place_in numbers at = number_in numbers at + 0x1_0000_0000 * number_in numbers (at + 1)

-- all of them lie in the numbers, else 44
abbrev pub there : {A : Type 0} → List ℕ → ℕ → Answer A → Answer A
there numbers end x = need 44 (leb end (length numbers)) x

-- group i's entry
unfoldable pub entry_in : List ℕ → ℕ → Entry
entry_in numbers at =
    record {
      striping = record { least = to_z w32 (number_in numbers at); height = number_in numbers (at + 1); k = number_in numbers (at + 2) };
      first = place_in numbers (at + 3);
    }

unfoldable pub entry_at : List ℕ → ℕ → Answer Entry
entry_at numbers i = there numbers (group_numbers * i + group_numbers) (ok (entry_in numbers (group_numbers * i)))

-- the entry of a stripe, of those that start at that place
unfoldable pub stripe_in : List ℕ → ℕ → Stripe
stripe_in numbers at = record { first = place_in numbers at; count = number_in numbers (at + 2) }

unfoldable pub stripe_at : List ℕ → ℕ → ℕ → Answer Stripe
stripe_at numbers first stripe =
    there numbers (first + stripe_numbers * stripe + stripe_numbers) (ok (stripe_in numbers (first + stripe_numbers * stripe)))

-- a chunk number
unfoldable pub chunk_number_at : List ℕ → ℕ → Answer ℕ
chunk_number_at numbers at = there numbers (at + 1) (ok (number_in numbers at))

-- ---- the walk
-- a point's height: the greatest whole number at or below its y. A point outside the domain's heights meets no box; its height is told as 0.
unfoldable pub height_of : Float → ℤ
height_of y = cond (spans (neg_ℤ (pos 9_000_000)) (pos 9_000_000) y) (floor_of y) (pos 0)

-- a chunk by its number within the group: not below the group's count is 34
unfoldable pub numbered : Opened → List ℕ → Point → GroupRecord → ℕ → Walk One
numbered o s p g c = must 34 (ltb c g.count) (alone_at o s p g.exit (ltb (c + 1) g.count) (g.first + c))

-- n chunk numbers from a place on, as they stand
unfoldable pub numbered_from : Opened → List ℕ → Point → GroupRecord → List ℕ → ℕ → ℕ → Walk One
numbered_from o s p g numbers zero at = done tt
numbered_from o s p g numbers (suc n) at = chunk_number_at numbers at yields λ c. numbered o s p g c go λ u. numbered_from o s p g numbers n (at + 1)

-- by an entry whose k is not 0: a height of 0 is 34
unfoldable pub stripe_walk : Opened → List ℕ → Point → GroupRecord → List ℕ → Entry → Walk One
stripe_walk o s p g numbers e =
    must 34 (ltb 0 e.striping.height)
    (stripe_at numbers e.first (stripe_of e.striping (height_of p.y)) yields λ t.
    numbered_from o s p g numbers t.count t.first)

-- group i by its entry; k = 0 is the plain walk
unfoldable pub striped_scan : List ℕ → Opened → List ℕ → Point → ℕ → GroupRecord → Walk One
striped_scan numbers o s p i g =
    entry_at numbers i yields λ e.
    cond (eqb e.striping.k 0) (group_scan o s p g) (stripe_walk o s p g numbers e)

unfoldable pub group_scan_by : Way → Opened → List ℕ → Point → ℕ → GroupRecord → Walk One
group_scan_by plain o s p i g = group_scan o s p g
group_scan_by (striped numbers) o s p i g = striped_scan numbers o s p i g
