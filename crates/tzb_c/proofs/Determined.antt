-- Any two answers that a promise allows are equal, and so is the lent memory: stated over the contracts themselves.
-- Assumes nothing.
use mathlib.Core.Path.{sym, ◌∙◌}
use Rattle.basics.specs.Determined.{Determined, DeterminedMemory}
use Rattle.tzb_c.proofs.tzb_number.Reads as number-reads
use Rattle.tzb_c.proofs.tzb_number_length.Reads as number-length-reads
use Rattle.tzb_c.proofs.tzb_box_contains.Reads as box-contains-reads
use Rattle.tzb_c.proofs.tzb_box_relevant.Reads as box-relevant-reads
use Rattle.tzb_c.proofs.tzb_crc32.Reads as crc32-reads
use Rattle.tzb_c.proofs.tzb_utf8.Reads as utf8-reads
use Rattle.tzb_c.proofs.tzb_ray.Reads as ray-reads
use Rattle.tzb_c.proofs.tzb_parity.Reads as parity-reads
use Rattle.tzb_c.proofs.tzb_next_up.Reads as next-up-reads
use Rattle.tzb_c.proofs.tzb_open.Reads as open-reads
use Rattle.tzb_c.proofs.tzb_zone_count.Reads as zone-count-reads
use Rattle.tzb_c.proofs.tzb_name_start.Reads as name-start-reads
use Rattle.tzb_c.proofs.tzb_name_end.Reads as name-end-reads
use Rattle.tzb_c.proofs.tzb_name.Reads as name-reads
use Rattle.tzb_c.proofs.tzb_choice.Reads as choice-reads
use Rattle.tzb_c.proofs.tzb_listed.Reads as listed-reads
use Rattle.tzb_c.proofs.tzb_candidate.Reads as candidate-reads
use Rattle.tzb_c.proofs.tzb_contains.Reads as contains-reads
use Rattle.tzb_c.proofs.tzb_contains_place.Reads as contains-place-reads
use Rattle.tzb_c.proofs.tzb_decode.Reads as decode-reads
use Rattle.tzb_c.proofs.tzb_decode_place.Reads as decode-place-reads
use Rattle.tzb_c.proofs.tzb_lookup.Reads as lookup-reads
use Rattle.tzb_c.proofs.tzb_lookup_place.Reads as lookup-place-reads
use Rattle.tzb_c.proofs.tzb_ask.Reads as ask-reads
use Rattle.tzb_c.proofs.tzb_ask_place.Reads as ask-place-reads
use Rattle.tzb_c.proofs.tzb_ask_all.Reads as ask-all-reads
use Rattle.tzb_c.proofs.tzb_ask_all_place.Reads as ask-all-place-reads
use Rattle.tzb_c.proofs.tzb_stripes_need.Reads as stripes-need-reads
use Rattle.tzb_c.proofs.tzb_stripes.Reads as stripes-reads
use Rattle.tzb_c.proofs.tzb_contains_striped.Reads as contains-striped-reads
use Rattle.tzb_c.proofs.tzb_contains_striped_place.Reads as contains-striped-place-reads
use Rattle.tzb_c.proofs.tzb_ask_striped.Reads as ask-striped-reads
use Rattle.tzb_c.proofs.tzb_ask_striped_place.Reads as ask-striped-place-reads
use Rattle.tzb_c.proofs.tzb_ask_all_striped.Reads as ask-all-striped-reads
use Rattle.tzb_c.proofs.tzb_ask_all_striped_place.Reads as ask-all-striped-place-reads
use Rattle.tzb_c.proofs.tzb_full_check.Reads as full-check-reads
use Rattle.tzb_c.proofs.tzb_full_check_rule.Reads as full-check-rule-reads
use Rattle.tzb_c.proofs.tzb_map.Reads as map-reads
use Rattle.tzb_c.proofs.tzb_map_length.Reads as map-length-reads
use Rattle.tzb_c.proofs.tzb_journal_ask.Reads as journal-ask-reads
use Rattle.tzb_c.proofs.tzb_journal_write.Reads as journal-write-reads
use Rattle.tzb_c.proofs.tzb_journal_read.Reads as journal-read-reads

pub opens : Determined open-reads.Learnt
opens κ a r r' e e' p q = p.0 ∙ sym q.0

-- the lent record at exit
pub opens_memory : DeterminedMemory open-reads.Learnt (λ κ e. e.1.0.now)
opens_memory κ a r r' e e' p q = p.1 ∙ sym q.1

pub zone_count : Determined zone-count-reads.Learnt
zone_count κ a r r' e e' p q = p ∙ sym q

pub name_start : Determined name-start-reads.Learnt
name_start κ a r r' e e' p q = p ∙ sym q

pub name_end : Determined name-end-reads.Learnt
name_end κ a r r' e e' p q = p ∙ sym q

pub name : Determined name-reads.Learnt
name κ a r r' e e' p q = p.0 ∙ sym q.0

-- the lent numbers at exit
pub name_memory : DeterminedMemory name-reads.Learnt (λ κ e. e.1.1.1.0.now)
name_memory κ a r r' e e' p q = p.1 ∙ sym q.1

pub choice : Determined choice-reads.Learnt
choice κ a r r' e e' p q = p ∙ sym q

pub listed : Determined listed-reads.Learnt
listed κ a r r' e e' p q = p ∙ sym q

pub candidate : Determined candidate-reads.Learnt
candidate κ a r r' e e' p q = p ∙ sym q

pub contains : Determined contains-reads.Learnt
contains κ a r r' e e' p q = p ∙ sym q

pub contains_place : Determined contains-place-reads.Learnt
contains_place κ a r r' e e' p q = p ∙ sym q

pub decode : Determined decode-reads.Learnt
decode κ a r r' e e' p q = p.0 ∙ sym q.0

-- the lent numbers at exit
pub decode_memory : DeterminedMemory decode-reads.Learnt (λ κ e. e.1.1.1.0.now)
decode_memory κ a r r' e e' p q = p.1 ∙ sym q.1

pub decode_place : Determined decode-place-reads.Learnt
decode_place κ a r r' e e' p q = p ∙ sym q

pub lookup : Determined lookup-reads.Learnt
lookup κ a r r' e e' p q = p ∙ sym q

pub lookup_place : Determined lookup-place-reads.Learnt
lookup_place κ a r r' e e' p q = p ∙ sym q

pub ask : Determined ask-reads.Learnt
ask κ a r r' e e' p q = p ∙ sym q

pub ask_place : Determined ask-place-reads.Learnt
ask_place κ a r r' e e' p q = p ∙ sym q

pub ask_all : Determined ask-all-reads.Learnt
ask_all κ a r r' e e' p q = p.0 ∙ sym q.0

-- the lent places at exit
pub ask_all_memory : DeterminedMemory ask-all-reads.Learnt (λ κ e. e.1.1.1.1.0.now)
ask_all_memory κ a r r' e e' p q = p.1 ∙ sym q.1

pub ask_all_place : Determined ask-all-place-reads.Learnt
ask_all_place κ a r r' e e' p q = p ∙ sym q

-- stripes
pub stripes_need_law : Determined stripes-need-reads.Learnt
stripes_need_law κ a r r' e e' p q = p ∙ sym q

pub stripes : Determined stripes-reads.Learnt
stripes κ a r r' e e' p q = p.0 ∙ sym q.0

-- the lent numbers at exit
pub stripes_memory : DeterminedMemory stripes-reads.Learnt (λ κ e. e.1.1.0.now)
stripes_memory κ a r r' e e' p q = p.1 ∙ sym q.1

pub contains_striped : Determined contains-striped-reads.Learnt
contains_striped κ a r r' e e' p q = p ∙ sym q

pub contains_striped_place : Determined contains-striped-place-reads.Learnt
contains_striped_place κ a r r' e e' p q = p ∙ sym q

pub ask_striped : Determined ask-striped-reads.Learnt
ask_striped κ a r r' e e' p q = p ∙ sym q

pub ask_striped_place : Determined ask-striped-place-reads.Learnt
ask_striped_place κ a r r' e e' p q = p ∙ sym q

pub ask_all_striped : Determined ask-all-striped-reads.Learnt
ask_all_striped κ a r r' e e' p q = p.0 ∙ sym q.0

-- the lent places at exit
pub ask_all_striped_memory : DeterminedMemory ask-all-striped-reads.Learnt (λ κ e. e.1.1.1.1.1.0.now)
ask_all_striped_memory κ a r r' e e' p q = p.1 ∙ sym q.1

pub ask_all_striped_place : Determined ask-all-striped-place-reads.Learnt
ask_all_striped_place κ a r r' e e' p q = p ∙ sym q

pub full_check : Determined full-check-reads.Learnt
full_check κ a r r' e e' p q = p ∙ sym q

pub full_check_rule : Determined full-check-rule-reads.Learnt
full_check_rule κ a r r' e e' p q = p ∙ sym q

pub map : Determined map-reads.Learnt
map κ a r r' e e' p q = p.0 ∙ sym q.0

-- the lent bytes at exit
pub map_memory : DeterminedMemory map-reads.Learnt (λ κ e. e.1.1.0.now)
map_memory κ a r r' e e' p q = p.1 ∙ sym q.1

pub map_length : Determined map-length-reads.Learnt
map_length κ a r r' e e' p q = p ∙ sym q

-- the journal
pub journal_ask : Determined journal-ask-reads.Learnt
journal_ask κ a r r' e e' p q = p.0 ∙ sym q.0

-- the lent bytes at exit
pub journal_ask_memory : DeterminedMemory journal-ask-reads.Learnt (λ κ e. e.1.1.1.1.1.0.now)
journal_ask_memory κ a r r' e e' p q = p.1 ∙ sym q.1

pub journal_write : Determined journal-write-reads.Learnt
journal_write κ a r r' e e' p q = p.0 ∙ sym q.0

-- the lent bytes at exit
pub journal_write_memory : DeterminedMemory journal-write-reads.Learnt (λ κ e. e.1.1.1.1.1.0.now)
journal_write_memory κ a r r' e e' p q = p.1 ∙ sym q.1

pub journal_read_law : Determined journal-read-reads.Learnt
journal_read_law κ a r r' e e' p q = p.0 ∙ sym q.0

-- the numbers lent for the position at exit, and the lent places
pub journal_read_position : DeterminedMemory journal-read-reads.Learnt (λ κ e. e.1.1.0.now)
journal_read_position κ a r r' e e' p q = p.1.0 ∙ sym q.1.0

pub journal_read_places : DeterminedMemory journal-read-reads.Learnt (λ κ e. e.1.1.1.0.now)
journal_read_places κ a r r' e e' p q = p.1.1 ∙ sym q.1.1

pub number : Determined number-reads.Learnt
number κ a r r' e e' p q = p ∙ sym q

pub number_length : Determined number-length-reads.Learnt
number_length κ a r r' e e' p q = p ∙ sym q

pub box_contains : Determined box-contains-reads.Learnt
box_contains κ a r r' e e' p q = p ∙ sym q

pub box_relevant : Determined box-relevant-reads.Learnt
box_relevant κ a r r' e e' p q = p ∙ sym q

pub crc32 : Determined crc32-reads.Learnt
crc32 κ a r r' e e' p q = p ∙ sym q

pub utf8 : Determined utf8-reads.Learnt
utf8 κ a r r' e e' p q = p ∙ sym q

pub ray : Determined ray-reads.Learnt
ray κ a r r' e e' p q = p ∙ sym q

pub parity : Determined parity-reads.Learnt
parity κ a r r' e e' p q = p ∙ sym q

pub next_up_law : Determined next-up-reads.Learnt
next_up_law κ a r r' e e' p q = p ∙ sym q
