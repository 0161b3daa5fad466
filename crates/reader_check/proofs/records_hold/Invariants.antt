use Rattle.reader_check.specs.FullCheck as D
use Rattle.reader_check.specs.FullCheck.{asked}
use Rattle.reader_check.proofs.records_hold.Given as goal

abbrev pub ghost-each_passes : goal.ghost-each_passes
ghost-each_passes a = (asked a.fits.0 a.fits.1.now D.Zone).test

abbrev pub ghost-each_passes-2 : goal.ghost-each_passes-2
ghost-each_passes-2 a = (asked a.fits.0 a.fits.1.now D.Polygon).test

abbrev pub ghost-each_passes-3 : goal.ghost-each_passes-3
ghost-each_passes-3 a = (asked a.fits.0 a.fits.1.now D.Op).test

abbrev pub ghost-each_passes-4 : goal.ghost-each_passes-4
ghost-each_passes-4 a = (asked a.fits.0 a.fits.1.now D.Ring).test
