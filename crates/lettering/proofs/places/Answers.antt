-- `lettering::places` meets its contract: the first k of the places stand.
-- Assumes nothing.
use native.Mathlib.Omega.{arith}
use mathlib.Core.Path.{refl, sym, ap, ◌∙◌}
use Rattle.answer.specs.Over.{over}
use Rattle.answer.proofs.OverLaws.{over_none}
use Rattle.geojson.specs.Decimals.{places}
use Rattle.lettering.proofs.PlacesLaws.{tens_is, place_on, place_end}
use Rattle.lettering.proofs.places.Goals as goal

pub loop-k-init : goal.loop-k-init
unfolding places
loop-k-init g c = sym (over_none _ _)

pub loop-k-preserved : goal.loop-k-preserved
loop-k-preserved g c =
    let v = c.loop-k in
    place_on c.args.out.now c.args.at g.row.K v.k c.args.n _ v.out c.put.new.out c.loop-k-test.true (tens_is _ (omega arith)) v.invariant c.put.ensures.1

pub returns : goal.returns
returns g c =
    (refl, c.loop-k.invariant ∙ ap (over c.args.out.now c.args.at) (place_end g.row.K c.loop-k.k c.args.n (omega arith)))
