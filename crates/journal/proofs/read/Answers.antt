-- What one more read put behind what came before is what the reader gave then.
-- Assumes nothing.
use Rattle.std.proofs.Common.{◌-◌, length, sym, subst, rules}
use Rattle.std.specs.Io.KnownBytes.{Consumes}
use Rattle.std.proofs.KnownBytes.{Consumes-trans}
use Rattle.journal.proofs.RunLaws.{longer}
use Rattle.journal.proofs.read.Goals as goal

pub loop-n-preserved : goal.loop-n-preserved
loop-n-preserved g c =
    let n = c.loop-n.n in
    let came = c.read_some-came in
    let joined = longer n (length c.loop-n.buf - n) came.result.count c.loop-n.buf came.new.buf c.loop-n.invariant.0 came.ensures.within.0 in
    (search rules, subst (Consumes _ _) (sym joined) (Consumes-trans _ _ _ _ _ c.loop-n.invariant.1 came.ensures.bytes))
