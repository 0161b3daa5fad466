-- `settle` meets its contract: those from the zone's place on move up, and it is written there.
-- Assumes nothing.
use Rattle.reader_order.proofs.Halving.{before, settled}
use native.Mathlib.Omega.{arith}
use Rattle.reader_order.proofs.settle.Goals as goal

pub overflow_add-place : goal.overflow_add-place
overflow_add-place c = omega (arith, before _ _ _ c.requires.k_in_bounds _ c.name-own.ensures.result_value _ c.place_for-place.ensures, c.requires.k_in_bounds, c.well_formed)

pub copy_within-requires : goal.copy_within-requires
copy_within-requires c =
    let h = before _ _ _ c.requires.k_in_bounds _ c.name-own.ensures.result_value _ c.place_for-place.ensures in
    let room = c.requires.k_in_bounds in
    record { start_le_end = h; in_bounds = omega (arith, room); dest_in_bounds = omega (arith, h, room); not_exhausted = tt }

pub offset_bounds-zones-place : goal.offset_bounds-zones-place
offset_bounds-zones-place c = omega (arith, before _ _ _ c.requires.k_in_bounds _ c.name-own.ensures.result_value _ c.place_for-place.ensures, c.requires.k_in_bounds, c.well_formed)

pub bounds-zones-place : goal.bounds-zones-place
bounds-zones-place c = omega (arith, before _ _ _ c.requires.k_in_bounds _ c.name-own.ensures.result_value _ c.place_for-place.ensures, c.requires.k_in_bounds, c.copy_within.ensures.len)

pub returns : goal.returns
returns c = settled _ _ _ c.requires.k_in_bounds _ c.name-own.ensures.result_value _ c.place_for-place.ensures _ c.copy_within.ensures.after
