use Rattle.reader_check.specs.FullCheck as D
use Rattle.reader_check.specs.FullCheck.{asked}
use Rattle.reader_check.proofs.boxes_cover.Given as goal

abbrev pub ghost-each_passes : goal.ghost-each_passes
ghost-each_passes a = (asked a.fits.0 a.fits.1.now D.RingBox).test

abbrev pub ghost-each_passes-2 : goal.ghost-each_passes-2
ghost-each_passes-2 a = (asked a.fits.0 a.fits.1.now D.PolygonBox).test

abbrev pub ghost-each_passes-3 : goal.ghost-each_passes-3
ghost-each_passes-3 a = (asked a.fits.0 a.fits.1.now D.ZoneBox).test
