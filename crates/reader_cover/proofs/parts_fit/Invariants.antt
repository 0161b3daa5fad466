use Rattle.reader_cover.specs.Cover.{chunk_under, group_under, ring_under, poly_under, joint_covers}
use Rattle.reader_cover.proofs.parts_fit.Given as goal

abbrev pub ghost-each_passes : goal.ghost-each_passes
ghost-each_passes a = chunk_under a.fits.0 a.fits.1.now a.fits.2

abbrev pub ghost-each_passes-2 : goal.ghost-each_passes-2
ghost-each_passes-2 a = group_under a.fits.0 a.fits.1.now a.fits.2

abbrev pub ghost-each_passes-3 : goal.ghost-each_passes-3
ghost-each_passes-3 a = ring_under a.fits.0 a.fits.1.now a.fits.2

abbrev pub ghost-each_passes-4 : goal.ghost-each_passes-4
ghost-each_passes-4 a = poly_under a.fits.0 a.fits.1.now a.fits.2

abbrev pub ghost-each_passes-5 : goal.ghost-each_passes-5
ghost-each_passes-5 a = joint_covers a.fits.0 a.fits.1.now
