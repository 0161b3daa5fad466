-- Laws of specs/Exports, as proofs cite them. Nothing here need be believed.
-- Assumes nothing.
use Prim.Native.Nat.{ℕ, ◌+◌, ◌-◌, ◌*◌}
use mathlib.Core.Path.{◌≡◌, refl, ap, ◌∙◌}
use lib.IntN.{ℤ, pos}
use Rattle.answer.specs.declared.Refusal.{Refusal}
use Rattle.plane.specs.declared.I32Point.{I32Point}
use Rattle.answer.specs.Answers.{Answer, ok, refused, ◌then◌}
use Rattle.entries.specs.Entry.{Entry}
use Rattle.entries.specs.Reading.{head_of}
use Rattle.tzb_journal.specs.Journal.{count_and_reason}
use Rattle.tzb_codes.specs.Codes.{refusal_code}
use Rattle.tzb_c.specs.Exports.{number_of, length_from}

module _ (x : Answer (ℤ × ℕ)) where
  pub number_no : (r : Refusal) → refused r ≡ x → pos 0 ≡ number_of x
  unfolding number_of
  number_no r e = rw (← e)

  pub number_is : (z : ℤ) (q : ℕ) → ok (z, q) ≡ x → z ≡ number_of x
  unfolding number_of
  number_is z q e = rw (← e)

  pub length_no : (p : ℕ) (r : Refusal) → refused r ≡ x → refusal_code r ≡ length_from p x
  unfolding length_from
  length_no p r e = rw (← e)

  pub length_is : (p : ℕ) (z : ℤ) (q : ℕ) → ok (z, q) ≡ x → pos (q - p) ≡ length_from p x
  unfolding length_from
  length_is p z q e = rw (← e)

-- the count and the reason of an entry, where its head was told
pub count_told_law : (x : Answer Entry) (y : Answer (I32Point × ℕ × ℕ)) → y ≡ (x then λ e. ok (head_of e)) → (y then λ h. ok (256 * h.1 + h.2)) ≡ (x then λ e. ok (count_and_reason e))
count_told_law x y e = ap (λ (z : Answer (I32Point × ℕ × ℕ)). z then λ h. ok (256 * h.1 + h.2)) e ∙ go x
  where
    go : (x : Answer Entry) → ((x then λ e. ok (head_of e)) then λ h. ok (256 * h.1 + h.2)) ≡ (x then λ e. ok (count_and_reason e))
    go (ok e) = refl
    go (refused k) = refl
