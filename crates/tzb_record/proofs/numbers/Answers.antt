-- `tzb_record::numbers` meets its contract: each field, widened; a signed one by its bits.
-- Assumes nothing.
use mathlib.Core.Path.{ap, ◌∙◌}
use mir.Syntax.{w16}
use mir.Val.{of_z}
use Rattle.basics.specs.Signed.{back}
use Rattle.tzb_record.specs.Layout.{numbers_of}
use Rattle.tzb_record.proofs.numbers.Goals as goal

pub returns : goal.returns
unfolding numbers_of
returns c =
    let g = c.args.o.grid in
    let x = c.cast_unsigned.ensures ∙ ap (of_z w16) (back w16 g.lng c.struct_told-1.given.1.1.1.1.1.1.1.1.1.0.1.1.1.0.1) in
    let y = c.cast_unsigned-2.ensures ∙ ap (of_z w16) (back w16 g.lat c.struct_told-2-1.given.1.1.1.1.1.1.1.1.1.0.1.1.1.1.0.1) in
    rw (x, y)
