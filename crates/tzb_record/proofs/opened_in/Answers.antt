-- `tzb_record::opened_in` meets its contract: each field at its place.
-- Assumes nothing.
use mathlib.Core.Path.{◌∙◌}
use mir.Syntax.{w16}
use Rattle.basics.specs.Signed.{back}
use Rattle.fields.specs.Row.{row_in}
use Rattle.tzb_record.specs.Layout.{opened_in, opened_from}
use Rattle.tzb_record.proofs.opened_in.Goals as goal

pub returns : goal.returns
unfolding opened_in opened_from row_in
returns c =
    let x = back w16 _ c.at-19.type_inv ∙ c.at-19.ensures in
    let y = back w16 _ c.at-20.type_inv ∙ c.at-20.ensures in
    rw (c.at.ensures, c.at-2.ensures, c.at-3.ensures, c.at-4.ensures, c.at-5.ensures, c.at-6.ensures, c.at-7.ensures, c.at-8.ensures, c.at-9.ensures, c.at-10.ensures, c.at-11.ensures, c.at-12.ensures, c.at-13.ensures, c.at-14.ensures, c.at-15.ensures, c.at-16.ensures, c.at-17.ensures, c.at-18.ensures, x, y, c.at-21.ensures, c.at-22.ensures, c.at-23.ensures)
