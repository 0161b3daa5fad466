-- A value that a test picks: the two branches of an `if`, and what stands behind an early return in a chain of tests.
-- Assumes nothing.
use Rattle.std.specs.Prelude.{◌≡◌, refl, Bool, true, false, not, ◌&&◌, ◌||◌, cond}
use Rattle.std.proofs.Common.{sym, ap, ◌∙◌}
use Rattle.std.specs.Bool.{beq}
use Rattle.basics.specs.Parity.{◌⊻◌}

pub yes_is : {A : Type 0} (b : Bool) (x y z : A) → b ≡ true → z ≡ x → z ≡ cond b x y
yes_is b x y z p q = q ∙ sym (ap (λ (t : Bool). cond t x y) p)

pub no_is : {A : Type 0} (b : Bool) (x y z : A) → b ≡ false → z ≡ y → z ≡ cond b x y
no_is b x y z p q = q ∙ sym (ap (λ (t : Bool). cond t x y) p)

pub and_yes : (b y z : Bool) → b ≡ true → z ≡ y → z ≡ b && y
and_yes b y z p q = q ∙ sym (ap (λ (t : Bool). t && y) p)

pub and_no : (b y : Bool) → b ≡ false → false ≡ b && y
and_no b y p = sym (ap (λ (t : Bool). t && y) p)

pub or_yes : (b y : Bool) → b ≡ true → true ≡ b || y
or_yes b y p = sym (ap (λ (t : Bool). t || y) p)

pub or_no : (b y z : Bool) → b ≡ false → z ≡ y → z ≡ b || y
or_no b y z p q = q ∙ sym (ap (λ (t : Bool). t || y) p)

-- that two flags differ is their parity
pub differ : (a b : Bool) → not (beq a b) ≡ a ⊻ b
differ true true = refl
differ true false = refl
differ false true = refl
differ false false = refl
