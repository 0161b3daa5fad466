-- `lookup_by` meets its contract: a cell's candidates are places of 32 bits.
-- Assumes nothing.
use native.Mathlib.Omega.{arith}
use mathlib.Core.Path.{sym, ap, ◌∙◌}
use Rattle.answer.specs.Answers.{ok}
use Rattle.reader_lookup.proofs.Listed.{listed_small}
use Rattle.reader_lookup.proofs.lookup_by.Goals as goal
use Rattle.reader_lookup.proofs.lookup_by.Goals.{in-All, in-Listed+else-is_unlooked}

pub invariant_of-c : goal.invariant_of-c
invariant_of-c c =
    elim c.match-branch-2.branch [
      | in-All w ↦ rw w.c-is (record { fits = omega arith })
      | in-Listed+else-is_unlooked w ↦
          (let small = listed_small _ _ _ (λ i. (c.type_inv.s i).fits) _ _ _ (ap ok (sym w.in-Listed.is) ∙ c.in_ok-candidates.ensures) in
          rw w.c-is (record { fits = omega (arith, small.0, small.1) }))
    ]
