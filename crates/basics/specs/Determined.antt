-- What it means that a promise determines the answer: any two answers that it allows, for the same arguments, are equal.
-- A promise speaks of lifetimes, arguments, the answer, and what was lent as it is at exit.
-- Assumes nothing.
use Rattle.std.specs.Prelude.{◌≡◌}

abbrev pub Determined : {K : Type 0} {A R E : K → Type 0} → ((κ : K) → A κ → R κ → E κ → Type 0) → Type 0
Determined {K} {A} {R} {E} promise = (κ : K) (a : A κ) (r r' : R κ) (e e' : E κ) → promise κ a r e → promise κ a r' e' → r ≡ r'

-- The same of lent memory: what it holds at any two exits that the promise allows is equal. `held` reads it from the exit.
abbrev pub DeterminedMemory : {K L : Type 0} {A R E : K → Type 0} → ((κ : K) → A κ → R κ → E κ → Type 0) → ((κ : K) → E κ → L) → Type 0
DeterminedMemory {K} {L} {A} {R} {E} promise held = (κ : K) (a : A κ) (r r' : R κ) (e e' : E κ) → promise κ a r e → promise κ a r' e' → held κ e ≡ held κ e'
