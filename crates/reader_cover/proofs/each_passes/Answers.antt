-- `reader_cover::each_passes` meets its contract: what is left from part j on passes as the whole does.
-- Assumes nothing.
use mathlib.Core.Path.{refl}
use Rattle.answer.proofs.CheckLaws.{told_yes, told_no}
use Rattle.reader_cover.proofs.AllLaws.{all_start, all_yes, all_no, all_end}
use Rattle.std.proofs.lemmas.Bool.{not_from_true, not_from_false}
use Rattle.reader_cover.proofs.each_passes.Goals as goal

pub loop-j-init : goal.loop-j-init
loop-j-init g c = all_start g.test _ _ _ _ refl refl

pub returns-then-not-fits : goal.returns-then-not-fits
returns-then-not-fits g c =
    all_no g.test _ _ _ c.loop-j.invariant c.loop-j-test.true (told_no _ _ (c.requires.1.1 _ _ c.fits.ensures) (not_from_false _ c.if-not-fits.true))

pub loop-j-preserved : goal.loop-j-preserved
loop-j-preserved g c =
    all_yes g.test _ _ _ c.loop-j.invariant c.loop-j-test.true (told_yes _ _ (c.requires.1.1 _ _ c.fits.ensures) (not_from_true _ c.if-not-fits.false))

pub returns : goal.returns
returns g c = all_end g.test _ _ _ c.loop-j.invariant c.loop-j-test.false
