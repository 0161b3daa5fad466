-- What is read of numbers in which the parts lie (reader_ways/specs/Ways). Nothing here need be believed.
-- Assumes nothing.
use Prim.Native.Nat.{ℕ, ◌+◌, ◌*◌, ◌^◌, ◌<◌}
use native.Mathlib.Omega.{arith}
use native.Mathlib.Nat.{mod-add-div}
use mathlib.Core.Path.{◌≡◌, refl, sym, ap, ap₂, ◌∙◌}
use mathlib.Core.List.{List, [], ◌∷◌}
use borrow.Author.Tests.{lt-ltb, le-ltb}
use lib.ListN.{length, get_or}
use lib.IntN.{ℤ}
use lib.Signed.{mag}
use mir.Syntax.{w32}
use mir.Val.{to_z, of_z, hbits}
use Rattle.basics.specs.Signed.{back}
use Rattle.answer.specs.Answers.{ok}
use Rattle.stripes.specs.declared.Striping.{Striping}
use Rattle.stripes.specs.Numbers.{low, high, group_numbers, stripe_numbers, group_entry}
use Rattle.reader_ways.specs.Ways.{number_in, place_in, entry_at, stripe_at, chunk_number_at}
use Rattle.reader_ways.proofs.WaysLaws.{entry_is_law, stripe_is, number_is}
use Rattle.reader_same.proofs.Lying.{Lies, lies_nth, lies_head, lies_within}
use Rattle.reader_same.proofs.Places.{stripe_entry}

module _ (lent : List ℕ) where
  -- a place by its halves
  place_back : (at place : ℕ) → number_in lent at ≡ low place → number_in lent (at + 1) ≡ high place → place ≡ place_in lent at
  place_back at place e f = sym (ap₂ (λ (a b : ℕ). a + 0x1_0000_0000 * b) e f ∙ mod-add-div place 0x1_0000_0000)

  -- the entry that five numbers say
  module _ (i least height k place : ℕ) (w : Lies lent (group_numbers * i) (least ∷ height ∷ k ∷ low place ∷ high place ∷ [])) where
    nth : (n to : ℕ) → n < 5 → group_numbers * i + n ≡ to → number_in lent to ≡ get_or (least ∷ height ∷ k ∷ low place ∷ high place ∷ []) n 0
    nth n to h e = lies_nth lent (group_numbers * i) 0 (least ∷ height ∷ k ∷ low place ∷ high place ∷ []) w n to h e

    five : ok (record { striping = record { least = to_z w32 least; height = height; k = k }; first = place }) ≡ entry_at lent i
    five =
        let at : ℕ = group_numbers * i in
        let a : number_in lent at ≡ least = nth 0 at (omega arith) (omega arith) in
        let b : number_in lent (at + 1) ≡ height = nth 1 (at + 1) (omega arith) refl in
        let c : number_in lent (at + 2) ≡ k = nth 2 (at + 2) (omega arith) refl in
        let d : place ≡ place_in lent (at + 3) = place_back (at + 3) place (nth 3 (at + 3) (omega arith) refl) (nth 4 (at + 3 + 1) (omega arith) (omega arith)) in
        ap₂ (λ (x y : ℕ). ok (record { striping = record { least = to_z w32 least; height = x; k = y }; first = place })) (sym b) (sym c)
        ∙ entry_is_law lent i (lies_within lent at _ w) (to_z w32 least) place (ap (to_z w32) (sym a)) d

  -- a group's entry
  module _ (i place : ℕ) (t : Striping) (w : Lies lent (group_numbers * i) (group_entry t place)) where
    -- that has stripes
    pub read_entry : 0 < t.k → mag t.least < 2 ^ hbits w32 → ok (record { striping = t; first = place }) ≡ entry_at lent i
    unfolding group_entry
    read_entry h fits =
        let v : Lies lent (group_numbers * i) (of_z w32 t.least ∷ t.height ∷ t.k ∷ low place ∷ high place ∷ []) = rw (lt-ltb 0 t.k h) at w in
        ap (λ (z : ℤ). ok (record { striping = record { least = z; height = t.height; k = t.k }; first = place })) (sym (back w32 t.least fits))
        ∙ five i (of_z w32 t.least) t.height t.k place v

    -- and that has none
    pub read_none : t.k ≡ 0 → ok (record { striping = record { least = to_z w32 0; height = 0; k = 0 }; first = 0 }) ≡ entry_at lent i
    unfolding group_entry
    read_none h = five i 0 0 0 0 (rw (le-ltb 0 t.k (omega arith)) at w)

  pub read_stripe : (first stripe q : ℕ) (c : List ℕ) → Lies lent (first + stripe_numbers * stripe) (stripe_entry c q) → ok (record { first = q; count = length c }) ≡ stripe_at lent first stripe
  read_stripe first stripe q c w =
      let at : ℕ = first + stripe_numbers * stripe in
      let a : q ≡ place_in lent at = place_back at q (lies_nth lent at 0 (stripe_entry c q) w 0 at (omega arith) (omega arith)) (lies_nth lent at 0 (stripe_entry c q) w 1 (at + 1) (omega arith) refl) in
      let b : number_in lent (at + 2) ≡ length c = lies_nth lent at 0 (stripe_entry c q) w 2 (at + 2) (omega arith) refl in
      ap (λ (n : ℕ). ok (record { first = q; count = n })) (sym b) ∙ stripe_is lent first stripe at refl (lies_within lent at _ w) q a

  pub read_number : (at c : ℕ) (l : List ℕ) → Lies lent at (c ∷ l) → ok c ≡ chunk_number_at lent at
  read_number at c l w = ap ok (sym (lies_head lent at 0 c l w)) ∙ number_is lent at (omega (arith, lies_within lent at (c ∷ l) w))
