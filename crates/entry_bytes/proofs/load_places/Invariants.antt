use Rattle.entries.proofs.PlacesLaws.{LoadedTo}
use Rattle.entry_bytes.proofs.load_places.Given as goal

abbrev pub invariant-loop-i : goal.invariant-loop-i
invariant-loop-i l = LoadedTo l.i l.s l.initial.out l.out
