-- `read_entry` meets its contract: the forms, the room, then the zones.
-- Assumes nothing.
use Prim.Native.Nat.{ℕ, ◌+◌, ◌*◌, ◌≤◌}
use mathlib.Core.Path.{◌≡◌, refl, sym, ap, ◌∙◌}
use mathlib.Core.Bool.{true}
use mathlib.Core.List.{List, ◌++◌}
use lib.ListN.{length, drop, get_or, replicate}
use lib.Seq.{length-take-le}
use Rattle.fields.specs.Row.{row_in}
use Rattle.answer.specs.Answers.{Answer, ok, ◌then◌, left}
use Rattle.entries.specs.Entry.{Entry}
use Rattle.entries.specs.Reading.{entry_is, head_of}
use Rattle.entries.proofs.ReadLaws.{read_other, read_short, read_head, read_left, is_long, is_room, count_at_law, reason_at}
use native.Mathlib.Omega.{arith}
use Rattle.entry_bytes.proofs.read_entry.Goals as goal

pub returns-then-not-is_entry : goal.returns-then-not-is_entry
returns-then-not-is_entry c =
    let e = read_other _ _ (length c.args.zones.now) (sym c.if-not-is_entry.ensures) in
    record { result_value = c.fail.ensures ∙ ap (λ (x : Answer Entry). x then λ e. ok (head_of e)) e; memory = ap (λ (x : Answer Entry). left c.args.zones.now (x then λ e. ok e.zones)) e }

pub bounds-bytes-end : goal.bounds-bytes-end
bounds-bytes-end c = omega (arith, is_long _ _ (sym c.if-not-is_entry.ensures), c.from.ensures)

pub returns-then-zones-n : goal.returns-then-zones-n
returns-then-zones-n c =
    let e = read_short c.args.places c.args.bytes.now (length c.args.zones.now) (sym c.if-not-is_entry.ensures) (omega (arith, c.if-zones-n.true, count_at_law c.args.bytes.now c.from-n.ensures c.from.ensures)) in
    record { result_value = c.fail-then-zones-n.ensures ∙ ap (λ (x : Answer Entry). x then λ e. ok (head_of e)) e; memory = ap (λ (x : Answer Entry). left c.args.zones.now (x then λ e. ok e.zones)) e }

pub load_places-requires : goal.load_places-requires
load_places-requires c =
    let h = sym c.if-not-is_entry.ensures in
    let long = is_long c.args.places c.args.bytes.now h in
    let few = is_room c.args.places c.args.bytes.now h in
    let count = count_at_law c.args.bytes.now c.from-n.ensures c.from.ensures in
    let lent = length-take-le c.from-n.result c.args.zones.now (omega (arith, c.if-zones-n.false)) in
    (omega (arith, lent, few, count, c.ranges.places), omega (arith, lent, long, few, count))

pub point_in-requires : goal.point_in-requires
point_in-requires c = omega (arith, is_long c.args.places c.args.bytes.now (sym c.if-not-is_entry.ensures))

pub bounds-bytes-end-2 : goal.bounds-bytes-end-2
bounds-bytes-end-2 c = omega (arith, is_long c.args.places c.args.bytes.now (sym c.if-not-is_entry.ensures), c.from.ensures)

pub returns : goal.returns
returns c =
    let s = c.args.bytes.now in
    let lent = c.args.zones.now in
    let h : entry_is c.args.places s ≡ true = sym c.if-not-is_entry.ensures in
    let count = count_at_law s c.from-n.ensures c.from.ensures in
    let part = length-take-le c.from-n.result lent (omega (arith, c.if-zones-n.false)) in
    let room : get_or s (8 + 2 * c.args.places) 0 ≤ length lent = omega (arith, c.if-zones-n.false, count) in
    record {
      result_value = read_head c.args.places s (length lent) h room _ c.point_in.ensures _ _ (count_at_law s refl c.from.ensures) (reason_at s refl c.from.ensures);
      memory =
          ap (λ (l : List ℕ). l ++ drop c.from-n.result lent) (c.load_places.ensures ∙ ap (λ (k : ℕ). row_in (replicate k 2) s 8) part)
          ∙ ap (λ (k : ℕ). row_in (replicate k 2) s 8 ++ drop k lent) count ∙ read_left c.args.places s (length lent) h room lent;
    }
