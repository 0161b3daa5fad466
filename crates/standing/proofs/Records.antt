-- Laws of reader_records/specs/Records.
-- Assumes nothing.
use Prim.Native.Nat.{ℕ}
use mathlib.Core.Path.{◌≡◌, refl, sym, ap, ◌∙◌}
use mathlib.Core.Bool.{Bool, true, false}
use Rattle.answer.specs.declared.Refusal.{Refusal}
use Rattle.answer.specs.Answers.{Answer, ok, refused, no}
use Rattle.reader_records.specs.Records.{ruled}

-- the same for each directory: there is no record, its rule is broken, its rule is kept
module _ {A : Type 0} (at : Answer ℕ) (read : ℕ → A) (rule : A → Bool) (n : ℕ) where
  pub ruled_no : (k : Refusal) → refused k ≡ at → refused k ≡ ruled at read rule n
  unfolding ruled
  ruled_no k e = rw (← e)

  module _ (p : ℕ) (v : A) (b : Bool) (e : ok p ≡ at) (g : v ≡ read p) (h : b ≡ rule v) where
    pub ruled_bad : b ≡ false → no n ≡ ruled at read rule n
    unfolding ruled
    ruled_bad z =
        let y : rule (read p) ≡ false = ap rule (sym g) ∙ sym h ∙ z in
        rw (← e, y)

    pub ruled_ok : b ≡ true → ok v ≡ ruled at read rule n
    unfolding ruled
    ruled_ok z =
        let y : rule (read p) ≡ true = ap rule (sym g) ∙ sym h ∙ z in
        ap ok g ∙ sym (rw (← e, y) refl)
