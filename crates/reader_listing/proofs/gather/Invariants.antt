use Rattle.reader_ways.specs.Ways.{way_of}
use Rattle.reader_lookup.specs.Asking.{hit_at}
use Rattle.reader_listing.proofs.Gathered.{Gathering}
use Rattle.reader_listing.proofs.gather.Given as goal

abbrev pub invariant-loop-place : goal.invariant-loop-place
invariant-loop-place l = Gathering l.o l.s (hit_at (way_of l.way) l.o l.s l.p l.c.grid) l.c.count l.c.from l.initial.held l.held l.names l.k l.place
