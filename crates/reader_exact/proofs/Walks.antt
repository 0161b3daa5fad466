-- A walk with no refusal is its tally: laws of `past`, which makes a walk of a tally and of what is handed on.
-- Assumes nothing.
use mathlib.Core.Path.{◌≡◌, refl, ap, ◌∙◌}
use mathlib.Core.Bool.{Bool}
use Rattle.plane.specs.Sight.{Sight, On, Off}
use Rattle.plane.specs.Tally as Tally
use Rattle.plane.specs.Tally.{◌⊕◌, none, ⊕_idr}
use Rattle.answer.specs.Answers.{ok}
use Rattle.answer.specs.Walks.{Walk, broken, on, off, add, ◌go◌, done, verdict}
use Rattle.chunks.specs.Scan.{past}
use Rattle.answer.proofs.WalksLaws.{add_add}

-- what follows a tally is added to it
pub past_go : {A B : Type 0} (t : Sight) (x : A) (f : A → Walk B) (u : Sight) (y : B) → f x ≡ past u y → (past t x go f) ≡ past (t ⊕ u) y
unfolding add
past_go On x f u y e = refl
past_go (Off a) x f On y e = rw e
past_go (Off a) x f (Off b) y e = rw e

-- nothing follows but what is handed on
pub past_done : {A B : Type 0} (t : Sight) (x : A) (y : B) → (past t x go λ u. done y) ≡ past t y
past_done t x y = past_go t x (λ u. done y) none y refl ∙ ap (λ (u : Sight). past u y) (⊕_idr t)

-- walks in a row
add_go : {A B : Type 0} (b : Bool) (w : Walk A) (f : A → Walk B) → (add b w go f) ≡ add b (w go f)
unfolding add
add_go b (broken r) f = refl
add_go b on f = refl
add_go b (off c a) f = add_add b c (f a)

pub go_assoc : {A B C : Type 0} (w : Walk A) (f : A → Walk B) (g : B → Walk C) → ((w go f) go g) ≡ (w go λ x. f x go g)
go_assoc (broken r) f g = refl
go_assoc on f g = refl
go_assoc (off b a) f g = add_go b (f a) g

-- inside or not
pub past_verdict : {A : Type 0} (edge : Bool) (t : Sight) (x : A) → verdict edge (past t x) ≡ ok (Tally.verdict edge t)
past_verdict edge On x = refl
past_verdict edge (Off b) x = refl
