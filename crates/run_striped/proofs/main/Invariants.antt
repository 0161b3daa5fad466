-- The measure is how many records may still come.
use Rattle.run_striped.proofs.main.Given as goal

abbrev pub decreases-loop-a : goal.decreases-loop-a
decreases-loop-a l = l.a.tally.left
