-- The question for a name: one law for each answer, and what follows from an answer.
-- Assumes nothing.
use Prim.Native.Nat.{ℕ, ◌+◌, ◌*◌, ◌≤◌, ◌<◌}
use native.Mathlib.Omega.{arith}
use mathlib.Core.Path.{◌≡◌, ap, ◌∙◌}
use mathlib.Core.List.{List, []}
use lib.ListN.{length}
use Rattle.fields.specs.Part.{part}
use Rattle.answer.specs.declared.Refusal.{Refusal}
use Rattle.answer.specs.Refusals.{refusal}
use Rattle.answer.specs.Answers.{Answer, ok, refused, need}
use Rattle.answer.specs.Checks.{at_most}
use Rattle.answer.proofs.CheckLaws.{le_at, gt_at, lt_below, ge_below}
use Rattle.answer.proofs.AnswersLaws.{need_met, need_not, then_no}
use Rattle.opened.specs.declared.Opened.{Opened}
use Rattle.reader_names.specs.Names.{edge}
use Rattle.reader_named.specs.Asked.{bounds_at, part_at, name_at, or_empty, or_start, name_from, behind, name_or, refusal_of}
use Rattle.reader_named.proofs.Places.{name_is}

-- one law for each answer
pub bounds_many : (s : List ℕ) (at n zone : ℕ) (k : Refusal) → n ≤ zone → k ≡ refusal 45 → refused k ≡ bounds_at s at n zone
unfolding bounds_at
bounds_many s at n zone k h e = ap refused e ∙ need_not _ _ _ (ge_below zone n h)

module _ (s : List ℕ) (at n zone : ℕ) (known : zone < n) where
  pub bounds_past : (k : Refusal) → length s < at + 4 + 4 * zone + 8 → k ≡ refusal 44 → refused k ≡ bounds_at s at n zone
  unfolding bounds_at
  bounds_past k h e = ap refused e ∙ need_not _ _ _ (gt_at _ _ h) ∙ need_met _ _ _ (lt_below zone n known)

  module _ (here : at + 4 + 4 * zone + 8 ≤ length s) (from to : ℕ) (ef : from ≡ edge s at n zone) (et : to ≡ edge s at n (zone + 1)) where
    rest : (x : Answer (ℕ × ℕ))
        → x ≡ need 23 (at_most (edge s at n zone) (edge s at n (zone + 1))) (need 44 (at_most (edge s at n (zone + 1)) (length s)) (ok (edge s at n zone, edge s at n (zone + 1))))
        → x ≡ bounds_at s at n zone
    unfolding bounds_at
    rest x h = h ∙ need_met _ _ _ (le_at _ _ here) ∙ need_met _ _ _ (lt_below zone n known)

    pub bounds_turned : (k : Refusal) → to < from → k ≡ refusal 23 → refused k ≡ bounds_at s at n zone
    bounds_turned k h e = rest _ (ap refused e ∙ need_not _ _ _ (gt_at _ _ (omega arith)))

    pub bounds_out : (k : Refusal) → from ≤ to → length s < to → k ≡ refusal 44 → refused k ≡ bounds_at s at n zone
    bounds_out k h g e = rest _ (ap refused e ∙ need_not _ _ _ (gt_at _ _ (omega arith)) ∙ need_met _ _ _ (le_at _ _ (omega arith)))

-- what follows from an answer
module _ (o : Opened) (s : List ℕ) (zone : ℕ) where
  module _ (from to : ℕ) (e : ok (from, to) ≡ bounds_at s o.names.off o.zones.count zone) where
    pub name_given : part s from to ≡ name_or o s zone
    unfolding name_or
    name_given = ap or_empty (name_is o s zone from to e)

    pub place_given : (b i : ℕ) → ◌≡◌ {A = ℕ × ℕ} (b, from + i) (behind (b, i) (name_from o s zone))
    unfolding name_from behind
    place_given b i = ap (λ (x : Answer (ℕ × ℕ)). (b, or_start x + i)) e

    pub number_none : 0 ≡ refusal_of (name_at o s zone)
    unfolding refusal_of
    number_none = ap refusal_of (name_is o s zone from to e)

  module _ (k : Refusal) (e : refused k ≡ bounds_at s o.names.off o.zones.count zone) where
    name_not : refused k ≡ name_at o s zone
    unfolding name_at
    name_not = then_no _ (part_at s) _ e

    pub name_none : [] ≡ name_or o s zone
    unfolding name_or
    name_none = ap or_empty name_not

    pub place_none : (b i : ℕ) → ◌≡◌ {A = ℕ × ℕ} (b, i) (behind (b, i) (name_from o s zone))
    unfolding name_from behind
    place_none b i =
        let none : i ≡ 0 + i = omega arith in
        ap (λ (j : ℕ). (b, j)) none ∙ ap (λ (x : Answer (ℕ × ℕ)). (b, or_start x + i)) e

    pub number_given : k.number ≡ refusal_of (name_at o s zone)
    unfolding refusal_of
    number_given = ap refusal_of name_not
