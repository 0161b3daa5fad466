-- `utf8::utf8_ok` meets its contract. The loop's invariant: what is left from i on is UTF-8 exactly if the whole is. The measure is what is left.
-- Assumes nothing.
use mathlib.Core.Path.{sym, ap, ◌∙◌}
use mathlib.Core.List.{[]}
use Prim.Native.Nat.{◌+◌}
use native.Mathlib.Omega.{arith}
use Rattle.utf8.specs.Rfc3629.{utf8}
use Rattle.utf8.proofs.Steps.{past, past_char, no_char}
use Rattle.utf8.proofs.Ascii.{past_plain}
use Rattle.std.proofs.lemmas.List.{length-drop}
use Rattle.utf8.proofs.utf8_ok.Goals as goal

pub loop-i-init : goal.loop-i-init
loop-i-init c =
    (omega arith, sym (past_plain c.args.s.now 0 c.ascii_from-i.result (omega arith) (omega arith) c.ascii_from-i.ensures.plain))

pub returns-in_default : goal.returns-in_default
returns-in_default c =
    sym (no_char c.args.s.now c.loop-i.i _ c.in_default.ensures) ∙ c.loop-i.invariant.1

pub loop-i-preserved-then-n-eq1 : goal.loop-i-preserved-then-n-eq1
loop-i-preserved-then-n-eq1 c =
    let s = c.args.s.now in
    let i = c.loop-i.i in
    let e = c.in-Some.ensures in (
      omega arith,
      sym (past_plain s (i + c.in-Some.n) c.ascii_from-i-then-n-eq1.result (omega arith) (omega arith) c.ascii_from-i-then-n-eq1.ensures.plain)
          ∙ past_char s i c.in-Some.n _ e.2 c.loop-i.invariant.1,
    )

pub loop-i-preserved : goal.loop-i-preserved
loop-i-preserved c =
    let s = c.args.s.now in
    let i = c.loop-i.i in
    let e = c.in-Some.ensures in
    (omega (arith, e.1, length-drop i s), past_char s i c.in-Some.n _ e.2 c.loop-i.invariant.1)

pub returns : goal.returns
returns c = sym (sym c.loop-i.invariant.1 ∙ ap (utf8 []) (past c.args.s.now c.loop-i.i (omega arith)))
