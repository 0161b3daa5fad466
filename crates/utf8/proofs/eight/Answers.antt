-- `utf8::eight` meets its contract: where the mask leaves nothing, no byte has its top bit.
-- Assumes nothing.
use mathlib.Core.Path.{sym, ap, ◌∙◌}
use Prim.Native.Nat.{ℕ}
use lib.Bits.{bit_and}
use borrow.Author.Tests.{eqb-true}
use Rattle.utf8.proofs.Ascii.{tops, untopped}
use Rattle.utf8.proofs.eight.Goals as goal

pub returns : goal.returns
returns c = λ t.
    let g = c.args in
    untopped g.s.now (λ i. (c.type_inv.s i).fits) 8 g.i (ap (λ (x : ℕ). bit_and x (tops 8)) (sym c.at.ensures) ∙ eqb-true _ _ t)
