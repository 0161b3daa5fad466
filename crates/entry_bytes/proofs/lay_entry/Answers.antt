-- `lay_entry` meets its contract: the room, then the position, the places and the end, one behind the other.
-- Assumes nothing.
use Prim.Native.Nat.{ℕ}
use mathlib.Core.Path.{refl, ap, ◌∙◌}
use mathlib.Core.List.{[], ◌∷◌}
use lib.ListN.{length}
use Rattle.entries.specs.Entry.{entry}
use Rattle.entries.proofs.ReadLaws.{lay_none, lay_all}
use native.Mathlib.Omega.{arith}
use Rattle.entry_bytes.proofs.lay_entry.Goals as goal

pub returns-then-out-end : goal.returns-then-out-end
returns-then-out-end c =
    let e = lay_none c.args.places (entry c.args.q c.args.zones.now c.args.reason) c.args.out.now (omega (arith, c.if-out-end.true, c.from-n.ensures)) in
    record { result_value = c.fail.ensures ∙ e.0; memory = e.1 }

pub returns : goal.returns
returns c =
    let e = lay_all c.args.places (entry c.args.q c.args.zones.now c.args.reason) c.args.out.now c.requires (omega (arith, c.if-out-end.false, c.from-n.ensures))
    c.position_bits.ensures (ap (λ (k : ℕ). length c.args.zones.now ∷ k ∷ []) c.from.ensures) c.from-n.ensures refl
    c.store_row.ensures c.lay_places.ensures c.store_row-2.ensures in
    record { result_value = e.0; memory = e.1 }
