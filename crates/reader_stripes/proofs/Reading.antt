-- Answers one after another: their sum, as a loop adds it up, and what is read again. Nothing here need be believed.
-- Assumes nothing.
use Prim.Native.Nat.{ℕ, zero, suc, ◌+◌, ◌-◌, ◌*◌, ◌≤◌, ◌<◌}
use native.Mathlib.Nat.{suc-mul}
use native.Mathlib.Omega.{arith}
use mathlib.Core.Path.{◌≡◌, refl, sym, ap, ap₂, ◌∙◌}
use mathlib.Core.List.{List, [], ◌∷◌}
use lib.ListN.{length}
use Rattle.plane.specs.Runs.{run}
use Rattle.answer.specs.declared.Refusal.{Refusal}
use Rattle.answer.specs.Answers.{Answer, ok, refused, ◌then◌}
use Rattle.answer.proofs.AnswersLaws.{then_ok, then_inv, ok_inv, zero_one}
use Rattle.reader_stripes.specs.Steps.{gathered, weigh, weighed, added}

pub length_run : {A : Type 0} (f : ℕ → A) (n i : ℕ) → length (run f n i) ≡ n
unfolding run
length_run f zero i = refl
length_run f (suc n) i = ap suc (length_run f n (i + 1))

module _ {A : Type 0} (w : A → ℕ) where
  weighed_no : (x : Answer A) (r : Refusal) → refused r ≡ weighed w x → refused r ≡ x
  unfolding weighed
  weighed_no (ok a) r e = let z : ◌≡◌ {A = ℕ} 0 1 = cc in absurd (zero_one z)
  weighed_no (refused k) r e = let z : r ≡ k = cc in ap refused z

  weighed_ok : (x : Answer A) (d : ℕ) → ok d ≡ weighed w x → (a : A) × (ok a ≡ x) × (d ≡ w a)
  unfolding weighed
  weighed_ok (ok a) d e = (a, refl, ok_inv d (w a) e)
  weighed_ok (refused k) d e = let z : ◌≡◌ {A = ℕ} 0 1 = cc in absurd (zero_one z)

module _ {A : Type 0} (at : ℕ → Answer A) where
  pub length_gathered : (n i : ℕ) (l : List A) → ok l ≡ gathered at n i → length l ≡ n
  unfolding gathered
  length_gathered zero i l e = ap length (ok_inv l [] e)
  length_gathered (suc n) i l e =
      let p = then_inv (at i) (λ a. gathered at n (i + 1) then λ t. ok (a ∷ t)) l e in
      let q = then_inv (gathered at n (i + 1)) (λ t. ok (p.0 ∷ t)) l p.2 in
      ap length (ok_inv l (p.0 ∷ q.0) q.2) ∙ ap suc (length_gathered n (i + 1) q.0 q.1)

  -- what is read again is what was read
  pub gathered_run : (f : ℕ → A) → ((j : ℕ) (a : A) → ok a ≡ at j → a ≡ f j) → (n i : ℕ) (l : List A) → ok l ≡ gathered at n i → l ≡ run f n i
  unfolding gathered run
  gathered_run f h zero i l e = ok_inv l [] e
  gathered_run f h (suc n) i l e =
      let p = then_inv (at i) (λ a. gathered at n (i + 1) then λ t. ok (a ∷ t)) l e in
      let q = then_inv (gathered at n (i + 1)) (λ t. ok (p.0 ∷ t)) l p.2 in
      ok_inv l (p.0 ∷ q.0) q.2 ∙ ap₂ (λ (a : A) (t : List A). a ∷ t) (h i p.0 p.1) (gathered_run f h n (i + 1) q.0 q.1)

  -- ---- a sum that starts at `base`: of n from `first` on those before the i-th were added up to m; each gives at most `most`
  module _ (w : A → ℕ) (base most n first : ℕ) where
    pub record Adding (m i : ℕ) : Type 0 where
      pub small : m + (first + n - i) * most ≤ base + n * most
      pub sum : added w m (gathered at (first + n - i) i) ≡ added w base (gathered at n first)

    module _ (m i : ℕ) (g : Adding m i) where
      module _ (h : i < first + n) where
        one_less : first + n - i ≡ suc (first + n - (i + 1))
        one_less = omega arith

        -- what is added stays small
        pub adding_small : m + (first + n - (i + 1)) * most + most ≤ base + n * most
        adding_small = omega (arith, g.small, ap (λ (j : ℕ). j * most) one_less ∙ suc-mul (first + n - (i + 1)) most)

        here : gathered at (first + n - i) i ≡ (at i then λ a. gathered at (first + n - (i + 1)) (i + 1) then λ l. ok (a ∷ l))
        unfolding gathered
        here = ap (λ (j : ℕ). gathered at j i) one_less

        pub adding_no : (r : Refusal) → refused r ≡ weighed w (at i) → refused r ≡ added w base (gathered at n first)
        unfolding added
        adding_no r e = first_no (weighed_no w (at i) r e) ∙ g.sum
          where
            first_no : refused r ≡ at i → refused r ≡ added w m (gathered at (first + n - i) i)
            first_no k = rw (here, ← k)

        pub adding_on : (d : ℕ) → ok d ≡ weighed w (at i) → d ≤ most → Adding (m + d) (i + 1)
        unfolding added weigh
        adding_on d e b =
            let a = weighed_ok w (at i) d e in
            record { small = omega (arith, adding_small); sum = first_ok a.0 a.1 a.2 ∙ g.sum }
          where
            rest : (a : A) → d ≡ w a → (x : Answer (List A)) → added w (m + d) x ≡ added w m (x then λ l. ok (a ∷ l))
            rest a k (ok l) =
                let z : m + d + weigh w l ≡ m + (w a + weigh w l) = omega arith in
                ap ok z
            rest a k (refused r) = refl

            first_ok : (a : A) → ok a ≡ at i → d ≡ w a → added w (m + d) (gathered at (first + n - (i + 1)) (i + 1)) ≡ added w m (gathered at (first + n - i) i)
            first_ok a k l =
                rest a l (gathered at (first + n - (i + 1)) (i + 1))
                ∙ ap (added w m) (then_ok (at i) (λ b. gathered at (first + n - (i + 1)) (i + 1) then λ t. ok (b ∷ t)) a k ∙ sym here)

      module _ (h : first + n ≤ i) where
        pub adding_end : ok m ≡ added w base (gathered at n first)
        unfolding added weigh gathered
        adding_end = all ∙ g.sum
          where
            all : ok m ≡ added w m (gathered at (first + n - i) i)
            all =
                let e : first + n - i ≡ 0 = omega arith in
                let z : m ≡ m + 0 = omega arith in
                rw e (ap ok z)

        pub adding_most : m ≤ base + n * most
        adding_most = omega (arith, g.small)
