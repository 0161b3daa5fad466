use Rattle.entries.proofs.PlacesLaws.{StoredTo}
use Rattle.entry_bytes.proofs.lay_places.Given as goal

abbrev pub invariant-loop-i : goal.invariant-loop-i
invariant-loop-i l = StoredTo l.places l.zones l.i l.initial.out l.out
