-- Any two answers that a promise allows are equal: stated over the contracts themselves.
-- Assumes nothing.
use mathlib.Core.Path.{sym, ◌∙◌}
use native.Mathlib.Omega.{arith}
use lib.Seq.{ext_get_or}
use Rattle.basics.specs.Determined.{Determined}
use Rattle.crc.proofs.tables.Reads as tables-reads
use Rattle.crc.proofs.crc32_ieee.Reads as crc32-ieee-reads
use Rattle.crc.proofs.crc32_with.Reads as crc32-with-reads

pub crc32_ieee : Determined crc32-ieee-reads.Learnt
crc32_ieee κ a r r' e e' p q = p ∙ sym q

pub crc32_with : Determined crc32-with-reads.Learnt
crc32_with κ a r r' e e' p q = p ∙ sym q

-- the rule of the tables gives each of their entries
pub tables : Determined tables-reads.Learnt
tables κ a r r' e e' p q =
    ext_get_or 0 r r' (p.size ∙ sym q.size) (λ i h. p.at i (omega (arith, p.size)) ∙ sym (q.at i (omega (arith, p.size))))
