use Prim.Native.Nat.{◌+◌, ◌-◌}
use Rattle.shapes.specs.Layout.{ring_at}
use Rattle.directories.specs.Directories.{directories}
use Rattle.reader_map.specs.Steps.{ring_fits, side_text}
use Rattle.reader_map.proofs.Onward.{Row}
use Rattle.reader_map.proofs.draw_rings.Given as goal

abbrev pub invariant-loop-i : goal.invariant-loop-i
invariant-loop-i l = Row ring_fits (ring_at (directories l.o l.s)) (side_text l.o l.s l.first) 280_002 l.count l.first l.from l.initial.out l.mark (l.first + l.count - l.i) l.i l.at l.out
