-- `merge_held` meets its contract. The loop's invariant: the first j of the held zones put into those before the place `end`, and what lies behind these, make what is promised.
-- Assumes nothing.
use mathlib.Core.Path.{sym}
use lib.Seq.{length-take-le}
use Rattle.reader_order.proofs.Merged.{merge_start, merge_end, merge_on, still_in_order, still_room, fits, room_above, inside}
use native.Mathlib.Omega.{arith}
use Rattle.reader_order.proofs.merge_held.Goals as goal

pub loop-j-init : goal.loop-j-init
loop-j-init c = merge_start _ _ _ _ (omega (arith, c.requires.room)) c.requires.zones_value c.requires.held_value

pub slice_bounds-place_for-end : goal.slice_bounds-place_for-end
slice_bounds-place_for-end c = still_room _ _ _ _ _ _ _ c.loop-j.invariant

pub slice_bounds-place_for-end-in-loop-j : goal.slice_bounds-place_for-end-in-loop-j
slice_bounds-place_for-end-in-loop-j c = sym (length-take-le _ _ (still_room _ _ _ _ _ _ _ c.loop-j.invariant))

pub place_for-place-requires : goal.place_for-place-requires
place_for-place-requires c = still_in_order _ _ _ _ _ _ _ c.loop-j.invariant

pub overflow_add-place : goal.overflow_add-place
overflow_add-place c = omega (arith, inside _ _ _ _ _ _ _ c.loop-j.invariant c.loop-j-test.true _ c.name-own.ensures.result_value _ c.place_for-place.ensures, c.loop-j.auto.zones, c.well_formed)

pub overflow_add-place-in-loop-j : goal.overflow_add-place-in-loop-j
overflow_add-place-in-loop-j c = omega (arith, inside _ _ _ _ _ _ _ c.loop-j.invariant c.loop-j-test.true _ c.name-own.ensures.result_value _ c.place_for-place.ensures, c.loop-j.auto.zones, c.well_formed)

pub copy_within-requires : goal.copy_within-requires
copy_within-requires c =
    let low = fits _ _ _ _ _ _ _ c.loop-j.invariant c.loop-j-test.true _ c.name-own.ensures.result_value _ c.place_for-place.ensures in
    let room = room_above _ _ _ _ _ _ _ c.loop-j.invariant c.loop-j-test.true _ c.name-own.ensures.result_value _ c.place_for-place.ensures in
    record { start_le_end = low; in_bounds = still_room _ _ _ _ _ _ _ c.loop-j.invariant; dest_in_bounds = omega (arith, low, room, c.loop-j-test.true); not_exhausted = tt }

pub overflow_add-zones : goal.overflow_add-zones
overflow_add-zones c = omega (arith, inside _ _ _ _ _ _ _ c.loop-j.invariant c.loop-j-test.true _ c.name-own.ensures.result_value _ c.place_for-place.ensures, c.loop-j.auto.zones, c.well_formed)

pub offset_bounds-zones-place : goal.offset_bounds-zones-place
offset_bounds-zones-place c = omega (arith, inside _ _ _ _ _ _ _ c.loop-j.invariant c.loop-j-test.true _ c.name-own.ensures.result_value _ c.place_for-place.ensures, c.loop-j.auto.zones, c.well_formed)

pub bounds-zones-place : goal.bounds-zones-place
bounds-zones-place c = omega (arith, inside _ _ _ _ _ _ _ c.loop-j.invariant c.loop-j-test.true _ c.name-own.ensures.result_value _ c.place_for-place.ensures, c.copy_within.ensures.len)

pub loop-j-preserved : goal.loop-j-preserved
loop-j-preserved c = merge_on _ _ _ _ _ _ _ c.loop-j.invariant c.loop-j-test.true _ c.name-own.ensures.result_value _ c.place_for-place.ensures _ c.copy_within.ensures.after c.copy_within.ensures.len

pub returns : goal.returns
returns c = merge_end _ _ _ _ _ _ _ c.loop-j.invariant (omega (arith, c.loop-j-test.false))
