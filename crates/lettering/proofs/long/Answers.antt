-- `lettering::long` meets its contract: one digit before the point, two, .., five.
-- Assumes nothing.
use native.Mathlib.Omega.{arith}
use Rattle.geojson.proofs.Lengths.{long_is}
use Rattle.lettering.proofs.long.Goals as goal

pub returns-in-0-to-999999 : goal.returns-in-0-to-999999
returns-in-0-to-999999 c = (long_is 0 _ (omega arith) (omega arith), omega arith)

pub returns-in-1000000-to-9999999 : goal.returns-in-1000000-to-9999999
returns-in-1000000-to-9999999 c = (long_is 1 _ (omega arith) (omega arith), omega arith)

pub returns-in-10000000-to-99999999 : goal.returns-in-10000000-to-99999999
returns-in-10000000-to-99999999 c = (long_is 2 _ (omega arith) (omega arith), omega arith)

pub returns-in-100000000-to-999999999 : goal.returns-in-100000000-to-999999999
returns-in-100000000-to-999999999 c = (long_is 3 _ (omega arith) (omega arith), omega arith)

pub returns-in_default : goal.returns-in_default
returns-in_default c = (long_is 4 _ (omega arith) (omega arith), omega arith)
