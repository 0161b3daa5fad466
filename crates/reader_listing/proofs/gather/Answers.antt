-- `gather` meets its contract. The loop's invariant: what is left, behind what was found, gives the count and the zones of all.
-- Assumes nothing.
use Rattle.std.proofs.lemmas.Result.{err_from_is_err_and}
use Rattle.reader_listing.proofs.Gathered.{gather_start, gather_no, gather_miss, gather_hit, gather_end, gather_bad}
use Rattle.reader_listing.proofs.gather.Goals as goal
use Rattle.reader_listing.proofs.gather.Goals.{in-Some, in_default}

pub loop-place-init : goal.loop-place-init
loop-place-init c = gather_start _ _ _ _ _ _

pub loop-place-preserved : goal.loop-place-preserved
loop-place-preserved c =
    elim c.match-branch-2.branch [
      | in-Some w ↦ rw (w.held-is, w.names-is, w.k-is) (gather_hit _ _ _ _ _ _ _ _ _ _ c.loop-place.invariant c.loop-place-test.true _ c.in_ok-zone.ensures _ _ _ w.in-Some.is w.name_after-names.ensures w.keep.ensures)
      | in_default w ↦ rw (w.held-is, w.names-is, w.k-is) (gather_miss _ _ _ _ _ _ _ _ _ _ c.loop-place.invariant c.loop-place-test.true _ c.in_ok-zone.ensures w.in_default.is)
    ]

pub returns-in_err-zone : goal.returns-in_err-zone
returns-in_err-zone c =
    let p = err_from_is_err_and c.from_residual.result c.from_residual.ensures.1 in
    let e = gather_no _ _ _ _ _ _ _ _ _ _ c.loop-place.invariant c.loop-place-test.true _ c.in_err-zone.ensures in
    record { result_value = rw (p.1, p.2) e.0; memory = e.1 }

pub returns-in_err-names : goal.returns-in_err-names
returns-in_err-names c =
    let p = err_from_is_err_and c.from_residual-in_err-names.result c.from_residual-in_err-names.ensures.1 in
    let e = gather_bad _ _ _ _ _ _ _ _ _ _ c.loop-place.invariant c.loop-place-test.false _ c.in_err-names.was in
    record { result_value = rw (p.1, p.2) e.0; memory = e.1 }

pub returns : goal.returns
returns c =
    let e = gather_end _ _ _ _ _ _ _ _ _ _ c.loop-place.invariant c.loop-place-test.false c.in_ok-names.was in
    record { result_value = e.0; memory = e.1 }
