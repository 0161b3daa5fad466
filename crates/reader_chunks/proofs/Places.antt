-- Request 2026-06, a refusal's place in the file's own terms: a chunk that is broken is broken in the file's bytes up to the chunk's end, read from the chunk's start on.
-- Of bytes fewer than 2 ^ 64, as every slice has.
-- Assumes nothing.
use Prim.Native.Nat.{ℕ, ◌+◌, ◌-◌, ◌≤◌}
use native.Mathlib.Omega.{arith}
use mathlib.Core.Path.{◌≡◌, sym, ap, subst, ◌∙◌}
use mathlib.Core.List.{List, ◌++◌}
use lib.ListN.{length, take}
use lib.Seq.{length-take-le, take-add}
use lib.Dec.{ltb, leb}
use Rattle.answer.specs.declared.Refusal.{Refusal}
use Rattle.answer.specs.Refusals.{no_place, counted_from}
use Rattle.answer.specs.Answers.{ok, need}
use Rattle.answer.proofs.AnswersLaws.{need_inv, ok_inv}
use Rattle.fields.specs.Part.{part}
use Rattle.chunks.specs.Broken.{Broken}
use Rattle.chunks.proofs.Shifted.{broken_shifted}
use Rattle.reader_chunks.specs.Chunks.{span}
use Rattle.reader_chunks.proofs.Ranges.{span_in}

module _ (s : List ℕ) (few : length s ≤ no_place) (a e : ℕ) (b : List ℕ) (h : ok b ≡ span s a e) where
  is_part : b ≡ part s a e
  unfolding span
  is_part = ok_inv _ _ (need_inv 44 (leb e (length s)) (ok (part s a e)) b (need_inv 37 (ltb a e) (need 44 (leb e (length s)) (ok (part s a e))) b h).1).1

  front : length (take a s) ≡ a
  front = let i = span_in s a e b h in length-take-le a s (omega (arith, i.0, i.1))

  whole : take a s ++ b ≡ take e s
  whole =
      let i = span_in s a e b h in
      let j : a + (e - a) ≡ e = omega (arith, i.0) in
      ap (λ (l : List ℕ). take a s ++ l) is_part ∙ sym (take-add a (e - a) s) ∙ ap (λ (n : ℕ). take n s) j

  few_whole : length (take a s ++ b) ≤ no_place
  few_whole = let i = span_in s a e b h in omega (arith, few, ap length whole, length-take-le e s i.1, i.1)

  pub broken_file : (count : ℕ) (r : Refusal) → Broken b 0 count r → Broken (take e s) a count (counted_from a r)
  broken_file count r k =
      subst (λ (l : List ℕ). Broken l a count (counted_from a r)) whole
      (subst (λ (n : ℕ). Broken (take a s ++ b) n count (counted_from n r)) front (broken_shifted (take a s) b few_whole count r k))
