-- `varint::varint_last` meets its contract: there is a first byte and it is the only one, or one has to follow, or there is none.
-- Assumes nothing.
use Rattle.std.proofs.Common.{true, sym, ◌∙◌}
use Rattle.varints.proofs.Digits.{digits_out, first_only, last_more}
use Rattle.tzb_core.proofs.varint.varint_last.Goals.{in_default-via-in-Some+else-b-lt128, in_default-via-in_default}
use Rattle.tzb_core.proofs.varint.varint_last.Goals as goal

pub returns-in-Some : goal.returns-in-Some
returns-in-Some c =
    let k = c.in-Some.ensures.lookup in
    first_only _ _ _ k.3.0 (k.3.1 0) c.if-b-lt128.true

pub returns-in_default : goal.returns-in_default
returns-in_default c = c.fail.ensures ∙ elim c.in_default.branch [
  | in_default-via-in-Some+else-b-lt128 w ↦
      let k = w.in-Some.ensures.lookup in
      last_more _ _ _ k.3.0 (k.3.1 0) c.requires w.if-b-lt128.false
  | in_default-via-in_default w ↦ sym (digits_out _ _ 4 true w.in_default.ensures.lookup.3)
]
