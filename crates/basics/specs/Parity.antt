-- Parities add: exclusive or.
-- Assumes nothing.
use Rattle.std.specs.Prelude.{◌≡◌, refl, Bool, true, false, not}
use Rattle.std.proofs.Common.{sym, ap, ◌∙◌}

infixl 40 ◌⊻◌
abbrev pub ◌⊻◌ : Bool → Bool → Bool
true ⊻ b = not b
false ⊻ b = b

pub ⊻_self : (a : Bool) → a ⊻ a ≡ false
⊻_self true = refl
⊻_self false = refl

pub ⊻_idr : (a : Bool) → a ⊻ false ≡ a
⊻_idr true = refl
⊻_idr false = refl

pub ⊻_comm : (a b : Bool) → a ⊻ b ≡ b ⊻ a
⊻_comm true true = refl
⊻_comm true false = refl
⊻_comm false true = refl
⊻_comm false false = refl

pub ⊻_assoc : (a b c : Bool) → a ⊻ b ⊻ c ≡ a ⊻ (b ⊻ c)
⊻_assoc false b c = refl
⊻_assoc true false c = refl
⊻_assoc true true true = refl
⊻_assoc true true false = refl

-- the middle cancels: the step of every telescope
pub ⊻_mid : (a b c : Bool) → a ⊻ b ⊻ (b ⊻ c) ≡ a ⊻ c
⊻_mid a true true = ap (λ x. x ⊻ false) (⊻_comm a true) ∙ ⊻_idr (not a) ∙ ⊻_comm true a
⊻_mid a true false = ap (λ x. x ⊻ true) (⊻_comm a true) ∙ twice a ∙ sym (⊻_idr a)
  where
    twice : (a : Bool) → not a ⊻ true ≡ a
    twice true = refl
    twice false = refl
⊻_mid a false c = ap (λ x. x ⊻ c) (⊻_idr a)
