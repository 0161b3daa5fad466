-- Opening accepts the worked file, so all that is said of accepted files is said of this one; and what its names and candidates are.
-- Assumes nothing.
use mathlib.Core.List.{[], ◌∷◌}
use mathlib.Core.Path.{◌≡◌, refl}
use lib.Ieee.{binary64, of_bits}
use lib.Ieee as I
use Rattle.answer.specs.Answers.{ok}
use Rattle.fields.specs.Le as E
use Rattle.fields.specs.Loads as L
use Rattle.checksum.specs.Crc32 as R
use Rattle.answer.specs.Checks as K
use Rattle.reader_head.specs.Head as H
use Rattle.reader_table.specs.Table as T
use Rattle.reader_opened.specs.Opened as O
use Rattle.reader_names.specs.Names as N
use Rattle.reader_named.specs.Asked as Q
use Rattle.reader_grid.specs.Word as W
use Rattle.reader_grid.specs.Grid as G
use Rattle.floors.specs.Floor as F
use Rattle.reader_cells.specs.Asked as C
use Rattle.reader_records.specs.Records as S
use Rattle.reader_dirs.specs.Dirs as D
use Rattle.tzb.specs.Opening as P
use Rattle.boxes.specs.Box as B
use Rattle.chunks.specs.Delta as Deltas
use Rattle.plane.specs.Domain as A
use Rattle.tzb.proofs.Given.{Answered, answered}
use Rattle.worked.specs.File.{file, opened}
use Rattle.basics.specs.Total.{total}
use Rattle.replies.specs.Replies as Told

pub opens : ok opened ≡ P.open_of file
unfolding file opened E.le R.step R.steps R.bytes R.crc32 K.claim K.deny K.and_then K.first K.each K.seek K.at_most K.below K.same K.both K.either H.start_check H.is_count H.fields_check H.is_zero H.not_zero H.version_end H.version_check H.bounds_check H.head_check T.is_type T.has T.repeats T.banned T.apart T.apart_at T.placed_check T.typed_check T.entry_check T.entries_check T.entry_at T.section_of O.present_at O.present_check O.bit O.flag_check O.zones_check O.lengths_check O.counts_check O.sections_of O.grid_of O.directory_of O.opened_of N.shape_check N.offset_rule N.prior N.offset_check N.text_check N.text_at N.names_check W.range_check G.dimensions G.candidate_check G.cell_check G.grid_check S.record_at S.ruled S.box_in S.point_in S.fits_below S.list_in S.list_rule S.list_at S.ring_in S.ring_rule S.ring_at S.count_rule S.op_rule S.op_at S.group_in S.group_rule S.group_at S.chunk_in S.chunk_rule S.chunk_at D.chunk_check D.least_off D.chunk_check_at D.chunks_check total D.count_at D.group_check D.group_check_at D.groups_check P.table_check P.sizes_check P.names_in P.grid_in P.contents_check P.open_of B.contains B.relevant B.right B.ordered B.box_in_domain Deltas.fits32 Deltas.add_delta A.in_domain
opens = refl

pub vouched : Answered file opened
vouched = answered file opened opens

-- zone 0 is "Etc/0"
pub name : Q.name_at opened file 0 ≡ ok (69 ∷ 116 ∷ 99 ∷ 47 ∷ 48 ∷ [])
unfolding file opened E.le K.below K.at_most Q.bounds_at Q.name_at
name = refl

-- 0.5 and 0.5: the two candidates of the first cell; 1.5 and 0.5: the one of the second; 2.5 and 0.5: outside the grid
pub first_cell : C.candidates_of opened file (of_bits binary64 0x3fe0_0000_0000_0000) (of_bits binary64 0x3fe0_0000_0000_0000) ≡ ok (Told.listed 2 0)
unfolding file opened I.of_bits I.of_int I.le I.lt I.eq E.le L.inside L.load_at K.same F.floor_of C.on_earth C.in_grid C.cell_of C.cell_candidates C.candidates_of
first_cell = refl

pub second_cell : C.candidates_of opened file (of_bits binary64 0x3ff8_0000_0000_0000) (of_bits binary64 0x3fe0_0000_0000_0000) ≡ ok (Told.listed 1 2)
unfolding file opened I.of_bits I.of_int I.le I.lt I.eq E.le L.inside L.load_at K.same F.floor_of C.on_earth C.in_grid C.cell_of C.cell_candidates C.candidates_of
second_cell = refl

pub no_cell : C.candidates_of opened file (of_bits binary64 0x4004_0000_0000_0000) (of_bits binary64 0x3fe0_0000_0000_0000) ≡ ok Told.none
unfolding file opened I.of_bits I.of_int I.le I.lt I.eq E.le L.inside L.load_at K.same F.floor_of C.on_earth C.in_grid C.cell_of C.cell_candidates C.candidates_of
no_cell = refl

-- the last candidate is zone 0
pub last_candidate : C.candidate_at opened file 2 ≡ ok 0
unfolding file opened E.le L.inside L.load_at K.below C.candidate_place C.zone_below C.candidate_at
last_candidate = refl
