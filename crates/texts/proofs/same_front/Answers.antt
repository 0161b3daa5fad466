-- `same_front` meets its contract. The loop's invariant: what is left of the two names compares as the whole names do.
-- Assumes nothing.
use Prim.Native.Nat.{◌+◌, ◌*◌, ◌/◌}
use native.Mathlib.Omega.{arith}
use mathlib.Core.Path.{◌≡◌, sym, ◌∙◌}
use Rattle.texts.proofs.Words.{words_on}
use Rattle.texts.proofs.same_front.Goals as goal

pub loop-k-preserved : goal.loop-k-preserved
loop-k-preserved c =
    let g = c.args in
    let k = c.loop-k.k in
    let next : 8 * (k + 1) ≡ 8 * k + 8 = omega arith in
    let same = sym c.at.ensures ∙ c.if-at.false ∙ c.at-in-loop-k.ensures in
    rw next (words_on g.a.now g.b.now (λ j. (c.type_inv.a j).fits) (λ j. (c.type_inv.b j).fits) 8 (8 * k) (omega arith) (omega arith) same ∙ c.loop-k.invariant)

pub returns-clause-b_value : goal.returns-clause-b_value
returns-clause-b_value c =
    let a = c.args.a.now in
    let b = c.args.b.now in
    let all : c.min-words.result / 8 ≡ c.loop-k.k = omega arith in
    rw all c.loop-k.invariant
