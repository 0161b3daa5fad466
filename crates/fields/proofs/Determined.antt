-- Any two answers that a promise allows are equal: stated over the contracts themselves.
-- Assumes nothing.
use mathlib.Core.Path.{sym, ◌∙◌}
use denote.RattleType.{RattleType}
use denote.Param.Laws.{Laws, IsCopy}
use mir.Syntax.{Dict}
use Rattle.basics.specs.Determined.{Determined, DeterminedMemory}
use Rattle.fields.specs.declared.Number as Number
use Rattle.std.specs.declared.clone.Clone as Clone
use Rattle.fields.proofs.U16Number.at.Reads as u16-at-reads
use Rattle.fields.proofs.U32Number.at.Reads as u32-at-reads
use Rattle.fields.proofs.U64Number.at.Reads as u64-at-reads
use Rattle.fields.proofs.I16Number.at.Reads as i16-at-reads
use Rattle.fields.proofs.I32Number.at.Reads as i32-at-reads
use Rattle.fields.proofs.load.Reads as load-reads
use Rattle.fields.proofs.store.Reads as store-reads
use Rattle.fields.proofs.store_row.Reads as store-row-reads

pub u16_at : Determined u16-at-reads.Learnt
u16_at κ a r r' e e' p q = p ∙ sym q

pub u32_at : Determined u32-at-reads.Learnt
u32_at κ a r r' e e' p q = p ∙ sym q

pub u64_at : Determined u64-at-reads.Learnt
u64_at κ a r r' e e' p q = p ∙ sym q

pub i16_at : Determined i16-at-reads.Learnt
i16_at κ a r r' e e' p q = p ∙ sym q

pub i32_at : Determined i32-at-reads.Learnt
i32_at κ a r r' e e' p q = p ∙ sym q

-- of any numbers, by what the trait says of them
pub load : (N : RattleType) (L : Laws N) (C : IsCopy N) (G : Number.Ghosts N.Denot) (d : Dict) (G' : Clone.Ghosts N.Denot) (d' : Dict) → Determined (load-reads.Learnt N L C G d G' d')
load N L C G d G' d' κ a r r' e e' p q = p ∙ sym q

-- the lent bytes at exit
pub store_memory : DeterminedMemory store-reads.Learnt (λ κ e. e.0.now)
store_memory κ a r r' e e' p q = p.is ∙ sym q.is

pub store_row_memory : DeterminedMemory store-row-reads.Learnt (λ κ e. e.0.now)
store_row_memory κ a r r' e e' p q = p.is ∙ sym q.is
