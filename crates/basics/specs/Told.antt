-- Two values that are told alike are the same, where what is told can be read back. A law: nothing here need be believed.
-- Assumes nothing.
use Rattle.std.specs.Prelude.{◌≡◌}
use Rattle.std.proofs.Common.{sym, ap, ◌∙◌}

pub one_told : {A B : Type 0} (told : A → B) (back : B → A) → ((a : A) → back (told a) ≡ a) → (a b : A) (x : B) → told a ≡ x → told b ≡ x → a ≡ b
one_told told back h a b x e f = sym (h a) ∙ ap back (e ∙ sym f) ∙ h b
