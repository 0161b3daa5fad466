use Rattle.reader_check.specs.FullCheck as D
use Rattle.reader_check.specs.FullCheck.{asked}
use Rattle.reader_check.proofs.chunks_cover.Given as goal

abbrev pub ghost-each_passes : goal.ghost-each_passes
ghost-each_passes a = (asked a.fits.0 a.fits.1.now D.Chunk).test
