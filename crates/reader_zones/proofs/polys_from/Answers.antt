-- `polys_from` meets its contract: what is left answers as the whole.
-- Assumes nothing.
use native.Mathlib.Omega.{arith}
use mathlib.Core.Path.{◌≡◌, sym, ap, ◌∙◌}
use mathlib.Core.Bool.{false}
use Rattle.std.proofs.Common.{rules}
use Rattle.answer.specs.Answers.{ok}
use Rattle.reader_ways.specs.Ways.{way_of}
use Rattle.reader_zones.specs.Zones.{poly_of}
use Rattle.reader_zones.proofs.ZonesLaws.{seek_no, seek_yes, seek_on, poly_in, poly_out}
use Rattle.reader_zones.proofs.polys_from.Goals as goal
use Rattle.reader_zones.proofs.polys_from.Goals.{else-contains-via-then-contains+in_ok-poly_inside+else-branch, else-contains-via-else-contains}

pub returns-in_err-poly_inside : goal.returns-in_err-poly_inside
returns-in_err-poly_inside c =
    let p = seek_no _ _ _ _ _ _ c.loop-i.invariant (omega (arith, c.loop-i-test.true)) _ (poly_in _ _ _ _ _ _ c.in_ok-q.ensures (sym c.contains.ensures ∙ c.if-contains.true) _ c.in_err-poly_inside.ensures) in
    search rules

pub returns-then-branch : goal.returns-then-branch
returns-then-branch c =
    seek_yes _ _ _ _ _ _ c.loop-i.invariant (omega (arith, c.loop-i-test.true))
    (ap ok (sym c.if-branch.true) ∙ poly_in _ _ _ _ _ _ c.in_ok-q.ensures (sym c.contains.ensures ∙ c.if-contains.true) _ c.in_ok-poly_inside.ensures)

-- the polygon does not contain the point: by its box, or by its rings
pub loop-i-preserved : goal.loop-i-preserved
loop-i-preserved c =
    let b = c.contains.ensures in
    let f : ok false ≡ poly_of (way_of c.args.way) c.args.o c.args.s.now c.args.p c.loop-i.i =
    elim c.else-contains.branch [ else-contains-via-then-contains+in_ok-poly_inside+else-branch w ↦ ap ok (sym w.if-branch.false) ∙ poly_in _ _ _ _ _ _ c.in_ok-q.ensures (sym b ∙ w.if-contains.true) _ w.in_ok-poly_inside.ensures | else-contains-via-else-contains w ↦ poly_out _ _ _ _ _ _ c.in_ok-q.ensures (sym b ∙ w.if-contains.false) ]
    in
    seek_on _ _ _ _ _ _ c.loop-i.invariant (omega (arith, c.loop-i-test.true)) f
