-- `check_with` meets its contract: the length, then what was loaded.
-- Assumes nothing.
use Rattle.entries.proofs.ReadLaws.{is_other, checked_by}
use native.Mathlib.Omega.{arith}
use Rattle.entry_bytes.proofs.check_with.Goals as goal

pub returns-then-bytes-end : goal.returns-then-bytes-end
returns-then-bytes-end c = is_other _ _ (λ h. c.if-bytes-end.true (omega (arith, h, c.from.ensures)))

pub returns : goal.returns
returns c =
    checked_by c.args.places _ c.args.bytes.now c.args.held.now _ _ _ _ _ c.from.ensures c.requires (omega (arith, c.if-bytes-end.false, c.from.ensures))
    c.load_places.ensures c.point_in.ensures c.from-count.ensures c.from-reason.ensures c.is_of_forms.ensures
