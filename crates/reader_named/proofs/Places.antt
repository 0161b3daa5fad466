-- The question for a name: one law for each answer, and what follows from an answer.
-- Assumes nothing.
use Prim.Native.Nat.{ℕ, ◌+◌, ◌*◌, ◌≤◌, ◌<◌}
use native.Mathlib.Omega.{arith}
use mathlib.Core.Path.{◌≡◌, refl, ap, ◌∙◌}
use mathlib.Core.Bool.{Bool, true, false}
use mathlib.Core.List.{List}
use lib.ListN.{length}
use Rattle.fields.specs.Part.{part}
use Rattle.answer.specs.declared.Refusal.{Refusal}
use Rattle.answer.specs.Answers.{Answer, ok, refused, need}
use Rattle.answer.specs.Checks.{at_most, below}
use Rattle.answer.proofs.CheckLaws.{at_le, le_at, lt_below}
use Rattle.opened.specs.declared.Opened.{Opened}
use Rattle.reader_names.specs.Names.{edge}
use Rattle.reader_named.specs.Asked.{bounds_at, part_at, name_at}
use Rattle.answer.proofs.AnswersLaws.{need_met, then_ok}

module _ (s : List ℕ) (at n zone : ℕ) (known : zone < n) where
  module _ (here : at + 4 + 4 * zone + 8 ≤ length s) (from to : ℕ) (ef : from ≡ edge s at n zone) (et : to ≡ edge s at n (zone + 1)) where
    rest : (x : Answer (ℕ × ℕ))
        → x ≡ need 23 (at_most (edge s at n zone) (edge s at n (zone + 1))) (need 44 (at_most (edge s at n (zone + 1)) (length s)) (ok (edge s at n zone, edge s at n (zone + 1))))
        → x ≡ bounds_at s at n zone
    unfolding bounds_at
    rest x h = h ∙ need_met _ _ _ (le_at _ _ here) ∙ need_met _ _ _ (lt_below zone n known)

    pair_is : ◌≡◌ {A = Answer (ℕ × ℕ)} (ok (from, to)) (ok (edge s at n zone, edge s at n (zone + 1)))
    pair_is = rw (ef, et)

    pub bounds_in : from ≤ to → to ≤ length s → ok (from, to) ≡ bounds_at s at n zone
    bounds_in h g = rest _ (pair_is ∙ need_met _ _ _ (le_at _ _ (omega arith)) ∙ need_met _ _ _ (le_at _ _ (omega arith)))

no_ok : {A B : Type 0} (a : A) (k : Refusal) → ok a ≡ refused k → B
no_ok a k e = let z : ◌≡◌ {A = ℕ} 0 1 = cc in absurd (omega arith)

all_met_law : (a b c d : Bool) (x y : ℕ × ℕ) → ok x ≡ need 45 a (need 44 b (need 23 c (need 44 d (ok y)))) → (c ≡ true) × (d ≡ true) × (x ≡ y)
all_met_law true true true true x y e = (refl, refl, cc)
all_met_law true true true false x y e = no_ok _ _ e
all_met_law true true false d x y e = no_ok _ _ e
all_met_law true false c d x y e = no_ok _ _ e
all_met_law false b c d x y e = no_ok _ _ e

-- a name that is given lies in the file
pub bounds_good : (s : List ℕ) (at n zone from to : ℕ) → ok (from, to) ≡ bounds_at s at n zone → (from ≤ to) × (to ≤ length s)
unfolding bounds_at
bounds_good s at n zone from to e =
    let all = all_met_law (below zone n) (at_most (at + 4 + 4 * zone + 8) (length s)) (at_most (edge s at n zone) (edge s at n (zone + 1))) (at_most (edge s at n (zone + 1)) (length s)) _ _ e in
    let start : from ≡ edge s at n zone = ap (λ (b : ℕ × ℕ). b.0) all.2 in
    let end : to ≡ edge s at n (zone + 1) = ap (λ (b : ℕ × ℕ). b.1) all.2 in
    (omega (arith, at_le _ _ all.0), omega (arith, at_le _ _ all.1))

pub name_is : (o : Opened) (s : List ℕ) (zone from to : ℕ) → ok (from, to) ≡ bounds_at s o.names.off o.zones.count zone → ok (part s from to) ≡ name_at o s zone
unfolding name_at
name_is o s zone from to e = then_ok _ (part_at s) _ e
