use mathlib.Core.Path.{◌≡◌}
use Prim.Native.Nat.{◌-◌}
use Rattle.answer.specs.Walks.{add}
use Rattle.reader_groups.specs.Groups.{chunks_from}
use Rattle.reader_groups.specs.Steps.{own_first, Kept}
use Rattle.reader_groups.proofs.scan_chunks.Given as goal

abbrev pub invariant-loop : goal.invariant-loop
invariant-loop l = (add l.odd (chunks_from l.o l.s l.p l.x (l.count - l.counter) l.c.index l.c.record) ≡ chunks_from l.o l.s l.p l.x (l.count - 1) l.fn.head.index l.fn.head.record) × Kept l.c.first (own_first l.o l.s l.c.index l.c.record)
