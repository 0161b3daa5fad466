-- `utf8::blocks_from` meets its contract. The loop's invariant: all bytes from i up to the block are characters.
-- Assumes nothing.
use mathlib.Core.Path.{◌≡◌, sym, ◌∙◌}
use mathlib.Core.Bool.{true≢false}
use Prim.Native.Nat.{◌+◌, ◌*◌, ◌/◌, ◌-◌}
use native.Mathlib.Omega.{arith}
use lib.ListN.{length}
use Rattle.utf8.proofs.Ascii.{join}
use Rattle.utf8.proofs.blocks_from.Goals as goal
use Rattle.utf8.proofs.blocks_from.Goals.{then-sixteen, else-sixteen}

pub loop-k-init : goal.loop-k-init
loop-k-init c = λ k a b. absurd (omega arith)

pub returns-then-not-sixteen-clause-plain : goal.returns-then-not-sixteen-clause-plain
returns-then-not-sixteen-clause-plain c = c.loop-k.invariant

pub loop-k-preserved : goal.loop-k-preserved
loop-k-preserved c =
    let s = c.args.s.now in
    let i = c.args.i in
    let at = i + 32 * c.loop-k.k in
    elim c.if-sixteen.branch [
      | then-sixteen w ↦ join s i at _ c.loop-k.invariant
          (join s at (at + 16) _ (c.sixteen.ensures w.if-sixteen.true)
          (λ k a b. w.sixteen-then-sixteen.ensures (sym w.value-is ∙ c.if-not-sixteen.false) k (omega arith) (omega arith)))
      | else-sixteen w ↦ absurd (true≢false (sym c.if-not-sixteen.false ∙ w.value-is ∙ w.if-sixteen.false))
    ]

pub returns-clause-plain : goal.returns-clause-plain
returns-clause-plain c =
    let g = c.args in
    let v = c.loop-k in
    let e : (length g.s.now - g.i) / 32 ≡ v.k = omega arith in
    rw e v.invariant
