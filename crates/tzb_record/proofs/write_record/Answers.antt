-- `tzb_record::write_record` meets its contract: the room first, then the bytes.
-- Assumes nothing.
use mathlib.Core.Path.{◌∙◌}
use Rattle.tzb_record.proofs.LayoutLaws.{no_room, stored}
use Rattle.tzb_record.proofs.write_record.Goals as goal

pub returns-then-out-lt-RECORD_WIDE : goal.returns-then-out-lt-RECORD_WIDE
returns-then-out-lt-RECORD_WIDE c =
    let a = c.args in
    let e = no_room a.o a.out.now c.if-out-lt-RECORD_WIDE.true in
    record { result_value = c.fail.ensures ∙ e.0; memory = e.1 }

pub returns : goal.returns
returns c =
    record {
      result_value = (let a = c.args in
          stored a.o a.out.now c.numbers-ns.result _ c.numbers-ns.ensures c.store_row.ensures).0;
      memory = (let a = c.args in
          stored a.o a.out.now c.numbers-ns.result _ c.numbers-ns.ensures c.store_row.ensures).1;
    }
