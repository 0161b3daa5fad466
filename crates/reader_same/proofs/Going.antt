-- Laws of walks that follow one another (answer/specs/Walks). Nothing here need be believed.
-- Assumes nothing.
use mathlib.Core.Path.{◌≡◌, refl, ap}
use mathlib.Core.Bool.{Bool}
use Rattle.basics.specs.Parity.{⊻_idr}
use Rattle.answer.specs.Walks.{Walk, add, ◌go◌, done, broken, on, off}
use Rattle.answer.proofs.WalksLaws.{add_none, add_add}

-- nothing seen, and then on
pub done_go : {A B : Type 0} (a : A) (k : A → Walk B) → (done a go k) ≡ k a
done_go a k = add_none (k a)

-- and then nothing more
pub go_done : {A : Type 0} (w : Walk A) → (w go done) ≡ w
unfolding add
go_done (broken r) = refl
go_done on = refl
go_done (off b a) = ap (λ (t : Bool). off t a) (⊻_idr b)

-- a stretch, then a walk and what follows it
pub add_go : {A B : Type 0} (b : Bool) (w : Walk A) (k : A → Walk B) → (add b w go k) ≡ add b (w go k)
unfolding add
add_go b (broken r) k = refl
add_go b on k = refl
add_go b (off c a) k = add_add b c (k a)

pub go_go : {A B C : Type 0} (w : Walk A) (k : A → Walk B) (l : B → Walk C) → (w go k go l) ≡ (w go λ a. k a go l)
go_go (broken r) k l = refl
go_go on k l = refl
go_go (off b a) k l = add_go b (k a) l
