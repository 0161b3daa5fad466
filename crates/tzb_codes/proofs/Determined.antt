-- Any two answers that a promise allows are equal: stated over the contracts themselves.
-- Assumes nothing.
use mathlib.Core.Path.{sym, ◌∙◌}
use denote.RattleType.{RattleType}
use denote.Param.Laws.{Laws, IsCopy}
use mir.Syntax.{Dict}
use Rattle.std.specs.declared.clone.Clone.{Ghosts}
use Rattle.basics.specs.Determined.{Determined}
use Rattle.tzb_codes.proofs.bit.Reads as bit-reads
use Rattle.tzb_codes.proofs.refusal_code.Reads as refusal-code-reads
use Rattle.tzb_codes.proofs.refusal_code64.Reads as refusal-code64-reads
use Rattle.tzb_codes.proofs.done_code.Reads as done-code-reads
use Rattle.tzb_codes.proofs.number_code.Reads as number-code-reads
use Rattle.tzb_codes.proofs.kind_code.Reads as kind-code-reads
use Rattle.tzb_codes.proofs.listed_of.Reads as listed-of-reads
use Rattle.tzb_codes.proofs.inside_code.Reads as inside-code-reads
use Rattle.tzb_codes.proofs.zone_code.Reads as zone-code-reads
use Rattle.tzb_codes.proofs.check_code.Reads as check-code-reads
use Rattle.tzb_codes.proofs.rule_of.Reads as rule-of-reads
use Rattle.tzb_codes.proofs.needed_code.Reads as needed-code-reads
use Rattle.tzb_codes.proofs.drawing_code.Reads as drawing-code-reads
use Rattle.tzb_codes.proofs.seen_code.Reads as seen-code-reads
use Rattle.tzb_codes.proofs.place_code.Reads as place-code-reads
use Rattle.tzb_codes.proofs.place_of.Reads as place-of-reads

pub bit : Determined bit-reads.Learnt
bit κ a r r' e e' p q = p ∙ sym q

pub refusal_code_law : Determined refusal-code-reads.Learnt
refusal_code_law κ a r r' e e' p q = p ∙ sym q

pub refusal_code64 : Determined refusal-code64-reads.Learnt
refusal_code64 κ a r r' e e' p q = p ∙ sym q

pub done_code_law : Determined done-code-reads.Learnt
done_code_law κ a r r' e e' p q = p ∙ sym q

pub number_code_law : Determined number-code-reads.Learnt
number_code_law κ a r r' e e' p q = p ∙ sym q

pub kind_code_law : Determined kind-code-reads.Learnt
kind_code_law κ a r r' e e' p q = p ∙ sym q

pub listed_of_law : Determined listed-of-reads.Learnt
listed_of_law κ a r r' e e' p q = p ∙ sym q

pub inside_code_law : Determined inside-code-reads.Learnt
inside_code_law κ a r r' e e' p q = p ∙ sym q

pub zone_code_law : Determined zone-code-reads.Learnt
zone_code_law κ a r r' e e' p q = p ∙ sym q

pub check_code_law : Determined check-code-reads.Learnt
check_code_law κ a r r' e e' p q = p ∙ sym q

pub rule_of_law : Determined rule-of-reads.Learnt
rule_of_law κ a r r' e e' p q = p ∙ sym q

pub needed_code_law : Determined needed-code-reads.Learnt
needed_code_law κ a r r' e e' p q = p ∙ sym q

pub drawing_code : Determined drawing-code-reads.Learnt
drawing_code κ a r r' e e' p q = p ∙ sym q

pub seen_code_law : Determined seen-code-reads.Learnt
seen_code_law κ a r r' e e' p q = p ∙ sym q

pub place_code_law : Determined place-code-reads.Learnt
place_code_law κ a r r' e e' p q = p ∙ sym q

pub place_of_law : (T : RattleType) (L : Laws T) (C : IsCopy T) (g : Ghosts T.Denot) (d : Dict) → Determined (place-of-reads.Learnt T L C g d)
place_of_law T L C g d κ a r r' e e' p q = p ∙ sym q
