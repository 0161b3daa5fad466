use Prim.Native.Nat.{◌+◌}
use mathlib.Core.Path.{◌≡◌}
use lib.ListN.{length, take}
use Rattle.fields.specs.Stores.{Laid}
use Rattle.fields.specs.Row.{row_wide, row_bytes}
use Rattle.fields.proofs.store_row.Given as goal

abbrev pub invariant-loop-width : goal.invariant-loop-width
invariant-loop-width l =
    (l.place ≡ l.at + row_wide (take (length l.yielded) l.widths))
    × Laid l.initial.out l.at (row_bytes (take (length l.yielded) l.widths) (take (length l.yielded) l.numbers)) l.out
