use Prim.Native.Nat.{◌+◌, ◌-◌}
use Rattle.shapes.specs.Layout.{polygon_at}
use Rattle.directories.specs.Directories.{directories}
use Rattle.reader_map.specs.Steps.{polygon_fits, part_text}
use Rattle.reader_map.proofs.Onward.{Row}
use Rattle.reader_map.proofs.draw_polygons.Given as goal

abbrev pub invariant-loop-i : goal.invariant-loop-i
invariant-loop-i l = Row polygon_fits (polygon_at (directories l.o l.s)) (part_text l.o l.s) 18_349_931_072 l.count l.first l.from l.initial.out l.mark (l.first + l.count - l.i) l.i l.at l.out
