-- What is known of a directory's record that was answered (reader_records/specs/Records). Nothing here need be believed.
-- Assumes nothing.
use Prim.Native.Nat.{ℕ, ◌+◌, ◌≤◌, ◌<◌}
use mathlib.Core.Path.{◌≡◌}
use mathlib.Core.Bool.{true}
use mathlib.Core.List.{List}
use Rattle.answer.specs.Answers.{ok}
use Rattle.boxes.specs.Box.{box_in_domain}
use Rattle.opened.specs.declared.Opened.{Opened}
use Rattle.opened.specs.Widths.{group_wide, chunk_wide}
use Rattle.reader_records.specs.declared.GroupRecord.{GroupRecord}
use Rattle.reader_records.specs.declared.ChunkRecord.{ChunkRecord}
use Rattle.reader_records.specs.Records.{record_at, group_in, group_rule, group_at, chunk_in, chunk_rule, chunk_at}
use Rattle.reader_records.proofs.RecordsLaws.{ruled_kept, ruled_inside, within_some, within_fits, group_within, group_box}

module _ (o : Opened) (s : List ℕ) (i : ℕ) where
  module _ (g : GroupRecord) (e : ok g ≡ group_at o s i) where
    group_kept : group_rule o.chunks.count g ≡ true
    unfolding group_at
    group_kept = ruled_kept (record_at s o.groups group_wide i) (group_in s) (group_rule o.chunks.count) 34 g e

    pub group_below : i < o.groups.count
    unfolding group_at
    group_below = ruled_inside s o.groups group_wide i (group_in s) (group_rule o.chunks.count) 34 g e

    pub group_domain : box_in_domain g.bbox ≡ true
    group_domain = group_box o.chunks.count g group_kept

    pub group_fits_law : g.first + g.count ≤ o.chunks.count
    group_fits_law = within_fits g.first g.count o.chunks.count (group_within o.chunks.count g group_kept)

    pub group_some : 0 < g.count
    group_some = within_some g.first g.count o.chunks.count (group_within o.chunks.count g group_kept)

  pub chunk_domain : (v : ChunkRecord) → ok v ≡ chunk_at o s i → box_in_domain v.bbox ≡ true
  unfolding chunk_at chunk_rule
  chunk_domain v e = ruled_kept (record_at s o.chunks chunk_wide i) (chunk_in s) chunk_rule 34 v e
