-- `fields::store_row` meets its contract: the numbers that were taken stand, each behind the one before it.
-- Assumes nothing.
use native.Mathlib.Omega.{arith}
use lib.ListN.{length-append}
use Rattle.fields.proofs.Rows.{none_stored, next_room, one_on, all_stored}
use Rattle.std.proofs.Common.{rules}
use Rattle.std.proofs.lemmas.Slice.Zip.{zip_turn, zip_end}
use Rattle.fields.proofs.store_row.Goals as goal

pub loop-width-init : goal.loop-width-init
loop-width-init c =
    (omega arith, none_stored c.args.out.now c.args.widths.now c.args.numbers.now c.args.at (omega (arith, c.requires.0)))

pub store-requires : goal.store-requires
store-requires c =
    let l = c.loop-width in
    let z = zip_turn c.args.widths.now c.args.numbers.now l.yielded _ _ c.next.new.self _ (search rules) (search rules) l.yielded_by _ c.in-Some.is c.next.ensures.steps in
    let room = next_room c.args.widths.now _ z.0 c.args.at l.place l.invariant.0 c.requires.0 in
    omega (arith, z.2 0, room, l.invariant.1.long)

pub overflow_add-place : goal.overflow_add-place
overflow_add-place c =
    let l = c.loop-width in
    let z = zip_turn c.args.widths.now c.args.numbers.now l.yielded _ _ c.next.new.self _ (search rules) (search rules) l.yielded_by _ c.in-Some.is c.next.ensures.steps in
    let room = next_room c.args.widths.now _ z.0 c.args.at l.place l.invariant.0 c.requires.0 in
    rw (z.2 0) (search rules)

pub loop-width-preserved : goal.loop-width-preserved
loop-width-preserved c =
    let l = c.loop-width in
    let z = zip_turn c.args.widths.now c.args.numbers.now l.yielded _ _ c.next.new.self _ (search rules) (search rules) l.yielded_by _ c.in-Some.is c.next.ensures.steps in
    one_on c.args.widths.now c.args.numbers.now _ c.args.at l.place z.0 c.requires.1 l.invariant.0 _ _ _ (length-append l.yielded _) (z.2 0) (z.3 0) l.invariant.1 c.store.ensures

pub returns : goal.returns
returns c =
    let l = c.loop-width in
    let z = zip_end c.args.widths.now c.args.numbers.now l.yielded _ _ c.next.new.self _ (search rules) (search rules) l.yielded_by c.in-None.is c.next.ensures.steps in
    all_stored c.args.widths.now c.args.numbers.now _ (omega (arith, z, c.requires.1)) c.requires.1 l.invariant.1
