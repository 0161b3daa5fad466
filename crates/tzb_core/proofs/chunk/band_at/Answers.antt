-- `chunk::band_at` meets its contract: a height without its fraction, or the domain's own bounds.
-- Assumes nothing.
use Rattle.std.proofs.Common.{T, ℤ, sym, ◌∙◌, subst, w32, w64}
use lib.Ieee.{of_bits, neg}
use mir.ValLaws.{to_z-of_z}
use Rattle.basics.specs.Signed.{back}
use Rattle.tzb_core.proofs.Skips.{around_cut, around_all, within_fits}
use Rattle.tzb_core.specs.Steps.{Around}
use Rattle.tzb_core.proofs.chunk.band_at.Goals as goal

pub truncating_f64_to_i64-t-requires : goal.truncating_f64_to_i64-t-requires
unfolding of_bits neg
truncating_f64_to_i64-t-requires c = record { lower_bound = subst T (sym c.if-y.true) tt; upper_bound = subst T (sym c.if-y-2.true) tt }

pub overflow_cast-h : goal.overflow_cast-h
overflow_cast-h c = within_fits _ c.if-t.true

pub returns-then-t : goal.returns-then-t
unfolding of_bits neg
returns-then-t c =
    let t = c.truncating_f64_to_i64-t in
    let y = c.args.y in
    subst (λ (h : ℤ). Around (record { lo = h; hi = h }) y) (sym (to_z-of_z w32 _ (within_fits _ c.if-t.true) ∙ back w64 _ t.type_inv))
    (around_cut y t.result (subst T (sym c.if-y.true) tt) (subst T (sym c.if-y-2.true) tt) t.ensures)

pub returns-else-t : goal.returns-else-t
returns-else-t c = around_all _

pub returns-else-y-2 : goal.returns-else-y-2
returns-else-y-2 c = around_all _

pub returns-else-y : goal.returns-else-y
returns-else-y c = around_all _
