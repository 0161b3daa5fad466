-- `varint::varint_digits` meets its contract: where two bytes are at hand and both have a digit to follow it is the loop's number; else one law tells one byte and two, or that the second is zero. Where no two are left it is the last byte's.
-- Assumes nothing.
use Rattle.std.proofs.Common.{refl, ◌∙◌, arith}
use Rattle.varints.proofs.Digits.{longer_from, direct_zero, direct}
use Rattle.tzb_core.proofs.varint.varint_digits.Goals as goal

pub returns-then-b0-b1 : goal.returns-then-b0-b1
returns-then-b0-b1 c =
    c.varint_slow.ensures ∙ longer_from _ _ _ _ (omega arith) refl refl c.if-b0-b1.true

pub returns-then-second-more : goal.returns-then-second-more
returns-then-second-more c =
    c.fail.ensures
    ∙ direct_zero _ _ _ _ (omega arith) refl refl (omega arith) c.if-b0-b1.false c.if-second-more.true

pub returns-then-from-saturating_sub : goal.returns-then-from-saturating_sub
returns-then-from-saturating_sub c =
    direct _ _ _ _ (omega arith) refl refl (omega arith) c.if-b0-b1.false (omega arith)
