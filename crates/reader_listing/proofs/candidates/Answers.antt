-- `candidates` meets its contract: the places of all candidates are numbers of 32 bits.
-- Assumes nothing.
use mathlib.Core.Path.{◌≡◌, sym, ap, ◌∙◌}
use Rattle.answer.specs.Answers.{ok}
use Rattle.reader_cells.specs.Asked.{candidates_of}
use Rattle.reader_lookup.proofs.Listed.{listed_small}
use Rattle.replies.specs.Replies.{listed}
use native.Mathlib.Omega.{arith}
use Rattle.reader_listing.proofs.candidates.Goals as goal
use Rattle.reader_listing.proofs.candidates.Goals.{in-None, in-All, in-Listed}

pub invariant_of-result : goal.invariant_of-result
invariant_of-result c =
    record {
      fits = elim c.match-branch-2.branch [
        | in-None w ↦ rw w.grid-is (omega arith)
        | in-All w ↦ rw w.grid-is (omega arith)
        | in-Listed w ↦ (
            let h : ok (listed w.in-Listed.n w.in-Listed.place) ≡ candidates_of c.args.o c.args.s.now c.args.lng c.args.lat = ap ok (sym w.in-Listed.is) ∙ c.in_ok-candidates.ensures in
            let small = listed_small _ _ c.args.s.now (λ i. (c.type_inv.s i).fits) c.args.o c.args.lng c.args.lat h in
            rw w.grid-is (omega (arith, small)))
      ];
    }
