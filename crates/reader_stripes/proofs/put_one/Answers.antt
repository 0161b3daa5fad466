-- `put_one` meets its contract: a stripe's chunk numbers, then its entry.
-- Assumes nothing.
use native.Mathlib.Omega.{arith}
use mathlib.Core.Path.{refl}
use Rattle.reader_stripes.proofs.Laying.{room_one, striped_one}
use Rattle.reader_stripes.proofs.put_one.Goals as goal

pub put_chunks-to-requires : goal.put_chunks-to-requires
put_chunks-to-requires c =
    (c.requires.0, (room_one _ _ _ c.requires.1).1)

pub put_stripe-requires : goal.put_stripe-requires
put_stripe-requires c =
    let r = room_one _ _ _ c.requires.1 in
    (omega (arith, r, c.put_chunks-to.auto.numbers), omega (arith, c.put_chunks-to.ensures.0), c.put_chunks-to.ensures.1)

pub returns : goal.returns
returns c =
    striped_one _ _ _ _ _ _ _ c.requires.1 c.put_chunks-to.ensures.0 c.put_chunks-to.ensures.2 c.put_stripe.ensures refl refl
