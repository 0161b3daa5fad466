-- `lay_places` meets its contract: the first i places stand, each behind the one before it.
-- Assumes nothing.
use Rattle.entries.proofs.PlacesLaws.{stored_none, stored_next, stored_all}
use Rattle.entry_bytes.proofs.lay_places.Goals as goal

pub loop-i-init : goal.loop-i-init
loop-i-init c = stored_none c.args.places c.args.zones.now c.requires.1 c.args.out.now c.requires.2

pub loop-i-preserved : goal.loop-i-preserved
loop-i-preserved c =
    stored_next _ _ c.requires.1 c.loop-i.i c.loop-i-test.true _ c.place_of.ensures c.loop-i.invariant c.store.ensures

pub returns : goal.returns
returns c = stored_all _ _ c.requires.1 c.loop-i.i c.loop-i.auto.i-end c.loop-i-test.false c.loop-i.invariant
