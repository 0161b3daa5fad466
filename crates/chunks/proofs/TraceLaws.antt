-- Laws of specs/Trace, as proofs cite them. Nothing here need be believed.
-- Assumes nothing.
use mathlib.Core.Path.{◌≡◌, refl, ap, ◌∙◌}
use mathlib.Core.Bool.{Bool, true, false, ◌&&◌}
use Rattle.answer.specs.declared.Refusal.{Refusal}
use Rattle.answer.specs.Answers.{Answer, ok, refused}
use Rattle.plane.specs.declared.I32Point.{I32Point}
use Rattle.chunks.specs.Trace.{also}

-- ---- laws of a loop that keeps whether all is inside so far: with x to come, the whole is e
module _ (i : Bool) (x e : Answer (Bool × I32Point)) (inv : also i x ≡ e) where
  pub also_no : (r : Refusal) → refused r ≡ x → refused r ≡ e
  unfolding also
  also_no r h = ap (also i) h ∙ inv

  pub also_end : (q : I32Point) → ok (true, q) ≡ x → ok (i, q) ≡ e
  unfolding also
  also_end q h = ap (λ (j : Bool). ok (j, q)) (and_true i) ∙ ap (also i) h ∙ inv
    where
      and_true : (i : Bool) → i ≡ i && true
      and_true true = refl
      and_true false = refl

  pub also_on : (j next : Bool) (y : Answer (Bool × I32Point)) → next ≡ i && j → also j y ≡ x → also next y ≡ e
  unfolding also
  also_on j next y h k = ap (λ (t : Bool). also t y) h ∙ both i y ∙ ap (also i) k ∙ inv
    where
      both : (i : Bool) (y : Answer (Bool × I32Point)) → also (i && j) y ≡ also i (also j y)
      both true (ok t) = refl
      both true (refused r) = refl
      both false (ok t) = refl
      both false (refused r) = refl
