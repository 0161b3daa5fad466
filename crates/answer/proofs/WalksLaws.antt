-- Laws of specs/Walks, as proofs cite them. Nothing here need be believed.
-- Assumes nothing.
use mathlib.Core.Path.{◌≡◌, refl, sym, ap, ◌∙◌}
use mathlib.Core.Bool.{Bool, false}
use Rattle.answer.specs.declared.Refusal.{Refusal}
use Rattle.basics.specs.Parity.{◌⊻◌, ⊻_idr, ⊻_assoc}
use Rattle.answer.specs.Walks.{Walk, add, done, broken, on, off}

-- ---- laws of a loop that keeps a running parity a: with w to come, the whole is e
pub add_none : {A : Type 0} (w : Walk A) → add false w ≡ w
unfolding add
add_none (broken r) = refl
add_none on = refl
add_none (off c a) = refl

pub add_add : {A : Type 0} (a b : Bool) (w : Walk A) → add (a ⊻ b) w ≡ add a (add b w)
unfolding add
add_add a b (broken r) = refl
add_add a b on = refl
add_add a b (off c x) = ap (λ (t : Bool). off t x) (⊻_assoc a b c)

module _ {A : Type 0} (a : Bool) (w e : Walk A) (inv : add a w ≡ e) where
  pub breaks : (r : Refusal) → broken r ≡ w → broken r ≡ e
  unfolding add
  breaks r h = sym (sym inv ∙ ap (add a) (sym h))

  pub hits : on ≡ w → on ≡ e
  unfolding add
  hits h = sym (sym inv ∙ ap (add a) (sym h))

  pub ends : (x : A) → done x ≡ w → off a x ≡ e
  unfolding add
  ends x h = ap (λ (t : Bool). off t x) (sym (⊻_idr a)) ∙ ap (add a) h ∙ inv

  -- a stretch of parity b, with v after it
  pub keeps : (b r : Bool) (v : Walk A) → r ≡ a ⊻ b → add b v ≡ w → add r v ≡ e
  keeps b r v h k = ap (λ (t : Bool). add t v) h ∙ add_add a b v ∙ ap (add a) k ∙ inv

-- ---- a walk after a stretch of parity a
module _ {A : Type 0} (a : Bool) (w : Walk A) where
  pub add_broken : (r : Refusal) → broken r ≡ w → broken r ≡ add a w
  unfolding add
  add_broken r h = rw (← h)

  pub add_on : on ≡ w → on ≡ add a w
  unfolding add
  add_on h = rw (← h)

  pub add_off : (b t : Bool) (x : A) → t ≡ a ⊻ b → off b x ≡ w → off t x ≡ add a w
  unfolding add
  add_off b t x e h = rw (← h, e)
