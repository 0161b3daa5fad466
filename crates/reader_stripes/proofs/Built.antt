-- What `stripes` answers and leaves: a refusal, or all numbers. Nothing here need be believed.
-- Assumes nothing.
use Prim.Native.Nat.{ℕ, ◌+◌, ◌*◌, ◌≤◌}
use native.Mathlib.Omega.{arith}
use mathlib.Core.Path.{◌≡◌, refl, sym, ap, ap₂, ◌∙◌}
use mathlib.Core.List.{List, ◌++◌}
use borrow.Author.Tests.{le-leb, leb-true}
use lib.Dec.{leb}
use lib.ListN.{length, length-append}
use Rattle.answer.specs.declared.Refusal.{Refusal}
use Rattle.answer.specs.Answers.{Answer, ok, refused, ◌then◌, need, how_many, left}
use Rattle.answer.specs.Checks.{claim}
use Rattle.answer.proofs.CheckLaws.{fine_claim}
use Rattle.reader_records.proofs.RecordsLaws.{need_no}
use Rattle.answer.proofs.AnswersLaws.{then_ok, then_inv, need_met, ok_inv, zero_one, many_no, many_is, left_no, left_is}
use Rattle.answer.specs.Over.{over}
use Rattle.answer.proofs.OverLaws.{over_on, over_all, length_over}
use Rattle.opened.specs.declared.Opened.{Opened}
use Rattle.stripes.specs.Stripes.{Boxed}
use Rattle.stripes.specs.Numbers.{group_entries, stripe_entries, all_stripes, together, numbers, need_of}
use Rattle.stripes.proofs.NeedLaws.{entries_length, stripe_entries_length, entries_need, need_is}
use Rattle.reader_stripes.specs.declared.Places.{Places}
use Rattle.reader_stripes.specs.Building.{boxed_groups, stripes_need, stripes_of}
use Rattle.reader_stripes.specs.Steps.{boxed_read, all_read, all_numbers, Rooms, Striped}
use Rattle.reader_stripes.proofs.Reading.{length_run}
use Rattle.reader_stripes.proofs.BuildingLaws.{all_again}

-- the three kinds, one behind the other
in_a_row : (l : List Boxed) (m mid after : List ℕ) (x y : ℕ) → mid ≡ over m 0 (group_entries l x) → x ≡ 5 * length l → y ≡ x + 3 * length (all_stripes l) → after ≡ over (over mid x (stripe_entries (all_stripes l) y)) y (together (all_stripes l)) → after ≡ over m 0 (numbers l)
unfolding numbers
in_a_row l m mid after x y a b c d =
    let ga = group_entries l x in
    let sa = stripe_entries (all_stripes l) y in
    let ta = together (all_stripes l) in
    let gx : x ≡ 0 + length ga = omega (arith, entries_length l x) in
    let sy : y ≡ 0 + length (ga ++ sa) = omega (arith, entries_length l x, stripe_entries_length (all_stripes l) y, length-append ga sa) in
    d
    ∙ ap (λ (t : List ℕ). over (over t x sa) y ta) a
    ∙ ap₂ (λ (i j : ℕ). over (over (over m 0 ga) i sa) j ta) gx sy
    ∙ ap (λ (t : List ℕ). over t (0 + length (ga ++ sa)) ta) (over_on m 0 ga sa)
    ∙ over_on m 0 (ga ++ sa) ta
    ∙ ap₂ (λ (i j : ℕ). over m 0 (group_entries l i ++ stripe_entries (all_stripes l) j ++ ta)) b (c ∙ ap (λ (i : ℕ). i + 3 * length (all_stripes l)) b)

module _ (o : Opened) (s : List ℕ) where
  many_read : length (all_read o s) ≡ o.groups.count
  unfolding all_read
  many_read = length_run (boxed_read o s) o.groups.count 0

  -- ---- all numbers are put
  module _ (m : List ℕ) (h : need_of (all_read o s) ≤ length m) where
    pub groups_room : 5 * o.groups.count ≤ length m
    groups_room = omega (arith, entries_need (all_read o s), many_read)

    module _ (p : Places) (n : ℕ) (d : n ≡ o.groups.count) (f : p.stripe ≡ 5 * n) (g : p.chunk ≡ 5 * o.groups.count + 3 * length (all_stripes (all_read o s))) (mid : List ℕ) (k : mid ≡ over m 0 (group_entries (all_read o s) (5 * o.groups.count))) where
      pub stripes_room : Rooms mid p (all_stripes (all_read o s))
      stripes_room = record { stripes = omega arith; chunks = omega (arith, entries_need (all_read o s), many_read, ap length k, length_over m 0 (group_entries (all_read o s) (5 * o.groups.count))) }

      pub all_put : (q : Places) (after : List ℕ) → Striped mid p (all_stripes (all_read o s)) q after → after ≡ over m 0 (all_numbers o s)
      unfolding all_numbers
      all_put q after w =
          in_a_row (all_read o s) m mid after (5 * o.groups.count) (5 * o.groups.count + 3 * length (all_stripes (all_read o s))) k (ap (λ (j : ℕ). 5 * j) (sym many_read)) refl
          (w.is ∙ ap₂ (λ (x y : ℕ). over (over mid x (stripe_entries (all_stripes (all_read o s)) y)) y (together (all_stripes (all_read o s)))) (f ∙ ap (λ (j : ℕ). 5 * j) d) g)

  -- ---- what is answered and left: nothing was written
  pub build_no : (m : List ℕ) (k : Refusal) → refused k ≡ stripes_need o s → (refused k ≡ how_many (stripes_of o s (length m))) × (m ≡ left m (stripes_of o s (length m)))
  unfolding stripes_need stripes_of
  build_no m k e = go (boxed_groups o s) e
    where
      go : (x : Answer (List Boxed)) → refused k ≡ (x then λ l. ok (need_of l)) → (refused k ≡ how_many (x then λ l. need 46 (leb (need_of l) (length m)) (ok (numbers l)))) × (m ≡ left m (x then λ l. need 46 (leb (need_of l) (length m)) (ok (numbers l))))
      go (ok l) h = let z : ◌≡◌ {A = ℕ} 0 1 = cc in absurd (zero_one z)
      go (refused r) h = (h, refl)

  module _ (n : ℕ) (e : ok n ≡ stripes_need o s) where
    read : (ok (all_read o s) ≡ boxed_groups o s) × (n ≡ need_of (all_read o s))
    unfolding stripes_need
    read =
        let p = then_inv (boxed_groups o s) (λ (l : List Boxed). ok (need_of l)) n e in
        let a = all_again o s p.0 p.1 in
        (ap ok (sym a) ∙ p.1, ok_inv n (need_of p.0) p.2 ∙ ap need_of a)

    module _ (m : List ℕ) where
      pub build_full : (k : Refusal) → refused k ≡ claim 46 (leb n (length m)) → (refused k ≡ how_many (stripes_of o s (length m))) × (m ≡ left m (stripes_of o s (length m)))
      unfolding stripes_of
      build_full k f = (many_no (stripes_of o s (length m)) k full, left_no (stripes_of o s (length m)) k full m)
        where
          full : refused k ≡ stripes_of o s (length m)
          full =
              need_no 46 (ok (numbers (all_read o s))) (leb (need_of (all_read o s)) (length m)) k (f ∙ ap (λ (j : ℕ). claim 46 (leb j (length m))) read.1)
              ∙ then_ok (boxed_groups o s) (λ (l : List Boxed). need 46 (leb (need_of l) (length m)) (ok (numbers l))) (all_read o s) read.0

      -- all is written
      module _ (u : Unit {0}) (f : ok u ≡ claim 46 (leb n (length m))) where
        fits : n ≤ length m
        fits = leb-true n (length m) (fine_claim 46 (leb n (length m)) (sym f))

        pub build_room : need_of (all_read o s) ≤ length m
        build_room = omega (arith, read.1, fits)

        pub build_is : (after : List ℕ) → after ≡ over m 0 (all_numbers o s) → (ok n ≡ how_many (stripes_of o s (length m))) × (after ≡ left m (stripes_of o s (length m)))
        unfolding stripes_of all_numbers
        build_is after w =
            let long : n ≡ length (numbers (all_read o s)) = read.1 ∙ sym (need_is (all_read o s)) in
            (many_is (stripes_of o s (length m)) (numbers (all_read o s)) whole n long, w ∙ over_all m (numbers (all_read o s)) (omega (arith, fits)) ∙ left_is (stripes_of o s (length m)) (numbers (all_read o s)) whole m)
          where
            whole : ok (numbers (all_read o s)) ≡ stripes_of o s (length m)
            whole =
                need_met 46 (leb (need_of (all_read o s)) (length m)) (ok (numbers (all_read o s))) (le-leb (need_of (all_read o s)) (length m) (omega (arith, read.1, fits)))
                ∙ then_ok (boxed_groups o s) (λ (l : List Boxed). need 46 (leb (need_of l) (length m)) (ok (numbers l))) (all_read o s) read.0
