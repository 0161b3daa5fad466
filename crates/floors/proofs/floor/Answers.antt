-- `floor` meets its contract: the cut, less 1 where it is above the float.
-- Assumes nothing.
use Rattle.std.proofs.Common.{arith}
use Rattle.floors.proofs.Flooring.{not_below_law, not_past, floor_taken, floor_left, cut_fits}
use Rattle.floors.proofs.floor.Goals as goal

pub truncating_f64_to_i64-cut-requires : goal.truncating_f64_to_i64-cut-requires
truncating_f64_to_i64-cut-requires c = record { lower_bound = not_below_law c.args.x c.requires; upper_bound = not_past c.args.x c.requires }

pub overflow_sub-result : goal.overflow_sub-result
overflow_sub-result c =
    let cut = c.truncating_f64_to_i64-cut in
    cut_fits c.args.x cut.result c.nearest_i64_to_f64.result c.requires cut.ensures c.nearest_i64_to_f64.ensures _ (omega arith)

pub returns-then-nearest_i64_to_f64-x : goal.returns-then-nearest_i64_to_f64-x
returns-then-nearest_i64_to_f64-x c =
    let cut = c.truncating_f64_to_i64-cut in
    floor_taken c.args.x cut.result c.nearest_i64_to_f64.result c.requires cut.ensures c.nearest_i64_to_f64.ensures c.if-nearest_i64_to_f64-x.true

pub returns-else-nearest_i64_to_f64-x : goal.returns-else-nearest_i64_to_f64-x
returns-else-nearest_i64_to_f64-x c =
    let cut = c.truncating_f64_to_i64-cut in
    floor_left c.args.x cut.result c.nearest_i64_to_f64.result c.requires cut.ensures c.nearest_i64_to_f64.ensures c.if-nearest_i64_to_f64-x.false
