-- Loops and lists: what a loop over the indices b, b + 1, .., b + n - 1 keeps, where a definition folds over the list of what stands there. Each law is one step of such a loop.
use Rattle.std.specs.Prelude.{◌≡◌, Bool, false, ◌&&◌, ◌||◌, List, [], ◌∷◌, ◌≢◌, eqb}
use Rattle.std.proofs.Math.Path.{refl, subst}
use Rattle.std.proofs.Common.{sym, ap, ◌∙◌, eqb-true}
use Rattle.std.proofs.Math.Bool.{true}
use Prim.Native.Nat.{ℕ, zero, suc, ◌+◌, ◌-◌, ◌≤◌, ◌<◌}
use native.Mathlib.Omega.{arith}
use Rattle.std.proofs.lemmas.Bool.{eqb-false}
use Rattle.basics.specs.Truth.{and_i, and_l, and_r}
use Rattle.basics.specs.Parity.{◌⊻◌}
use Rattle.plane.specs.Sight.{Sight}
use Rattle.plane.specs.Tally.{On, Off, ◌⊕◌, ⊕_assoc}
use Rattle.plane.specs.Lines.{every, some}

-- ---- a tally that a loop adds up: `acc` so far, then s, then the rest
pub add_off : (acc q : Bool) (s rest all : Sight) → s ≡ Off q → Off acc ⊕ (s ⊕ rest) ≡ all → Off (acc ⊻ q) ⊕ rest ≡ all
add_off acc q s rest all e h = ⊕_assoc (Off acc) (Off q) rest ∙ ap (λ (t : Sight). Off acc ⊕ (t ⊕ rest)) (sym e) ∙ h

-- On ends the walk
pub add_on : (acc : Bool) (s rest all : Sight) → s ≡ On → Off acc ⊕ (s ⊕ rest) ≡ all → On ≡ all
add_on acc s rest all e h = ap (λ (t : Sight). Off acc ⊕ (t ⊕ rest)) (sym e) ∙ h

module _ {A : Type 0} where
  -- what stands at the n places from i on
  unfoldable pub run : (ℕ → A) → ℕ → ℕ → List A
  run f zero i = []
  run f (suc n) i = f i ∷ run f n (i + 1)

  module _ (f : ℕ → A) (b n i : ℕ) where
    pub run_end : n ≤ i → run f (n - i) (b + i) ≡ []
    unfolding run
    run_end h = let e : n - i ≡ 0 = omega arith in rw e

    pub run_step : i < n → run f (n - i) (b + i) ≡ f (b + i) ∷ run f (n - (i + 1)) (b + (i + 1))
    unfolding run
    run_step h =
        let e : n - i ≡ suc (n - (i + 1)) = omega arith in
        let d : b + i + 1 ≡ b + (i + 1) = omega arith in
        rw (e, d)

  pub run_start : (f : ℕ → A) (b n : ℕ) → run f (n - 0) (b + 0) ≡ run f n b
  run_start f b n =
      let e : n - 0 ≡ n = omega arith in
      let d : b + 0 ≡ b = omega arith in
      rw (e, d)

  -- ---- a test of all of a run, and of each place of it
  pub run_every : (P : A → Bool) (f : ℕ → A) (n b : ℕ) → ((j : ℕ) → b ≤ j → j < b + n → P (f j) ≡ true) → every P (run f n b) ≡ true
  unfolding run
  run_every P f zero b h = refl
  run_every P f (suc n) b h = and_i (P (f b)) (every P (run f n (b + 1))) (h b (omega arith) (omega arith)) (run_every P f n (b + 1) (λ j l m. h j (omega arith) (omega arith)))

  pub every_run : (P : A → Bool) (f : ℕ → A) (n b : ℕ) → every P (run f n b) ≡ true → (j : ℕ) → b ≤ j → j < b + n → P (f j) ≡ true
  unfolding run
  every_run P f zero b h j l m = absurd (omega arith)
  every_run P f (suc n) b h j l m = go (eqb b j) refl (every_run P f n (b + 1) (and_r (P (f b)) (every P (run f n (b + 1))) h) j)
    where
      here : b ≡ j → P (f j) ≡ true
      here e = subst (λ (i : ℕ). P (f i) ≡ true) e (and_l (P (f b)) (every P (run f n (b + 1))) h)

      go : (t : Bool) → eqb b j ≡ t → (b + 1 ≤ j → j < b + 1 + n → P (f j) ≡ true) → P (f j) ≡ true
      go true e later = here (eqb-true b j e)
      go false e later = let ne : b ≢ j = eqb-false b j e in later (omega arith) (omega arith)

  -- ---- a loop that stops at the first element that passes, or that fails
  module _ (P : A → Bool) (f : ℕ → A) (b n i : ℕ) (all : Bool) where
    pub some_yes : i < n → P (f (b + i)) ≡ true → some P (run f (n - i) (b + i)) ≡ all → true ≡ all
    some_yes l h k = ap (λ (t : Bool). t || some P (run f (n - (i + 1)) (b + (i + 1)))) (sym h) ∙ ap (some P) (sym (run_step f b n i l)) ∙ k

    pub some_no : i < n → P (f (b + i)) ≡ false → some P (run f (n - i) (b + i)) ≡ all → some P (run f (n - (i + 1)) (b + (i + 1))) ≡ all
    some_no l h k = ap (λ (t : Bool). t || some P (run f (n - (i + 1)) (b + (i + 1)))) (sym h) ∙ ap (some P) (sym (run_step f b n i l)) ∙ k

    pub some_end : n ≤ i → some P (run f (n - i) (b + i)) ≡ all → false ≡ all
    some_end l k = ap (some P) (sym (run_end f b n i l)) ∙ k

    pub every_no : i < n → P (f (b + i)) ≡ false → every P (run f (n - i) (b + i)) ≡ all → false ≡ all
    every_no l h k = ap (λ (t : Bool). t && every P (run f (n - (i + 1)) (b + (i + 1)))) (sym h) ∙ ap (every P) (sym (run_step f b n i l)) ∙ k

    pub every_yes : i < n → P (f (b + i)) ≡ true → every P (run f (n - i) (b + i)) ≡ all → every P (run f (n - (i + 1)) (b + (i + 1))) ≡ all
    every_yes l h k = ap (λ (t : Bool). t && every P (run f (n - (i + 1)) (b + (i + 1)))) (sym h) ∙ ap (every P) (sym (run_step f b n i l)) ∙ k

    pub every_end : n ≤ i → every P (run f (n - i) (b + i)) ≡ all → true ≡ all
    every_end l k = ap (every P) (sym (run_end f b n i l)) ∙ k
