-- Laws of specs/Ways, as proofs cite them. Nothing here need be believed.
-- Assumes nothing.
use Prim.Native.Nat.{ℕ, suc, ◌+◌, ◌-◌, ◌*◌, ◌≤◌, ◌<◌}
use native.Mathlib.Omega.{arith}
use mathlib.Core.Path.{◌≡◌, refl, ap, ◌∙◌}
use mathlib.Core.Bool.{Bool, false}
use mathlib.Core.List.{List}
use borrow.Author.Tests.{lt-ltb, le-leb, lt-leb, eq-eqb, ne_eqb}
use lib.ListN.{length, get_or}
use lib.IntN.{ℤ}
use mir.Syntax.{w32}
use mir.Val.{to_z}
use Rattle.plane.specs.declared.Point.{Point}
use Rattle.answer.specs.declared.Refusal.{Refusal}
use Rattle.answer.specs.Refusals.{refusal}
use Rattle.answer.specs.Answers.{Answer, ok, refused, no}
use Rattle.answer.specs.Walks.{Walk, broken, on, off, add, ◌go◌, ◌yields◌}
use Rattle.answer.proofs.WalksLaws.{add_none, breaks, hits, keeps, ends}
use Rattle.basics.specs.Parity.{◌⊻◌}
use Rattle.opened.specs.declared.Opened.{Opened}
use Rattle.reader_records.specs.declared.GroupRecord.{GroupRecord}
use Rattle.reader_groups.specs.Groups.{One, group_scan}
use Rattle.stripes.specs.Stripes.{stripe_of}
use Rattle.reader_ways.specs.declared.Entry.{Entry}
use Rattle.reader_ways.specs.declared.Stripe.{Stripe}
use Rattle.reader_ways.specs.Ways.{plain, striped, place_in, there, entry_in, entry_at, stripe_in, stripe_at, chunk_number_at, height_of, numbered, numbered_from, stripe_walk, striped_scan, group_scan_by}

-- ---- what the numbers say
module _ (numbers : List ℕ) where
  past : {A : Type 0} (end : ℕ) (x : Answer A) (k : Refusal) → length numbers < end → k ≡ refusal 44 → refused k ≡ there numbers end x
  past end x k h e = rw (lt-leb end (length numbers) h, e)

  inside : {A : Type 0} (end : ℕ) (x : Answer A) → end ≤ length numbers → x ≡ there numbers end x
  inside end x h = rw (le-leb end (length numbers) h)

  module _ (i : ℕ) where
    pub entry_is_law : 5 * i + 5 ≤ length numbers → (least : ℤ) (first : ℕ) → least ≡ to_z w32 (get_or numbers (5 * i) 0) → first ≡ place_in numbers (5 * i + 3)
        → ok (record { striping = record { least = least; height = get_or numbers (5 * i + 1) 0; k = get_or numbers (5 * i + 2) 0 }; first = first }) ≡ entry_at numbers i
    unfolding entry_at entry_in
    entry_is_law h least first e f = rw (e, f) (inside _ _ h)

  module _ (first stripe : ℕ) where
    pub stripe_is : (at : ℕ) → at ≡ first + 3 * stripe → at + 3 ≤ length numbers → (place : ℕ) → place ≡ place_in numbers at
        → ok (record { first = place; count = get_or numbers (at + 2) 0 }) ≡ stripe_at numbers first stripe
    unfolding stripe_at stripe_in
    stripe_is at e h place f = rw (← e, f) (inside _ _ h)

  pub number_past : (at : ℕ) (k : Refusal) → length numbers ≤ at → k ≡ refusal 44 → refused k ≡ chunk_number_at numbers at
  unfolding chunk_number_at
  number_past at k h e = past _ _ k (omega arith) e

  pub number_is : (at : ℕ) → at < length numbers → ok (get_or numbers at 0) ≡ chunk_number_at numbers at
  unfolding chunk_number_at
  number_is at h = inside _ _ (omega arith)

-- ---- the loop: past i of n chunks, with the parity so far
module _ (o : Opened) (s : List ℕ) (p : Point) (g : GroupRecord) (numbers : List ℕ) (n first : ℕ) where
  pub from_start : add false (numbered_from o s p g numbers (n - 0) (first + 0)) ≡ numbered_from o s p g numbers n first
  from_start =
      let m : n - 0 ≡ n = omega arith in
      let at : first + 0 ≡ first = omega arith in
      rw (m, at) (add_none _)

  module _ (i : ℕ) (odd : Bool) (v : add odd (numbered_from o s p g numbers (n - i) (first + i)) ≡ numbered_from o s p g numbers n first) where
    pub from_end : n ≤ i → off odd tt ≡ numbered_from o s p g numbers n first
    unfolding numbered_from
    from_end h =
        let z : n - i ≡ 0 = omega arith in
        ends odd _ _ v tt (rw z)

    module _ (h : i < n) where
      from_one : (chunk_number_at numbers (first + i) yields λ c. numbered o s p g c go λ u. numbered_from o s p g numbers (n - (i + 1)) (first + (i + 1))) ≡ numbered_from o s p g numbers (n - i) (first + i)
      unfolding numbered_from
      from_one =
          let m : n - i ≡ suc (n - (i + 1)) = omega arith in
          let at : first + (i + 1) ≡ first + i + 1 = omega arith in
          rw (m, at)

      pub from_past : length numbers ≤ first + i → no 44 ≡ numbered_from o s p g numbers n first
      from_past l = breaks odd _ _ v (refusal 44) (rw (← from_one, ← number_past numbers (first + i) (refusal 44) l refl))

      module _ (l : first + i < length numbers) where
        of_one : (w : Walk One) → w ≡ numbered o s p g (get_or numbers (first + i) 0)
            → (w go λ u. numbered_from o s p g numbers (n - (i + 1)) (first + (i + 1))) ≡ numbered_from o s p g numbers (n - i) (first + i)
        of_one w e = rw (← from_one, ← number_is numbers (first + i) l, e)

        pub from_no : (k : Refusal) → broken k ≡ numbered o s p g (get_or numbers (first + i) 0) → broken k ≡ numbered_from o s p g numbers n first
        from_no k e = breaks odd _ _ v k (of_one (broken k) e)

        pub from_on : on ≡ numbered o s p g (get_or numbers (first + i) 0) → on ≡ numbered_from o s p g numbers n first
        from_on e = hits odd _ _ v (of_one on e)

        pub from_off : (b c : Bool) → off b tt ≡ numbered o s p g (get_or numbers (first + i) 0) → c ≡ odd ⊻ b
            → add c (numbered_from o s p g numbers (n - (i + 1)) (first + (i + 1))) ≡ numbered_from o s p g numbers n first
        from_off b c e f = keeps odd _ _ v b c _ f (of_one (off b tt) e)

-- ---- by an entry
module _ (o : Opened) (s : List ℕ) (p : Point) (g : GroupRecord) (numbers : List ℕ) (e : Entry) where
  -- y is the point's height, and it lies in that stripe
  module _ (h : 1 ≤ e.striping.height) (y : ℤ) (stripe : ℕ) (ey : y ≡ height_of p.y) (es : stripe ≡ stripe_of e.striping y) where
    stripe_at_height : stripe_at numbers e.first stripe ≡ stripe_at numbers e.first (stripe_of e.striping (height_of p.y))
    stripe_at_height = ap (stripe_at numbers e.first) (es ∙ ap (stripe_of e.striping) ey)

    pub walk_is : (t : Stripe) → ok t ≡ stripe_at numbers e.first stripe → numbered_from o s p g numbers t.count t.first ≡ stripe_walk o s p g numbers e
    unfolding stripe_walk
    walk_is t f = rw (lt-ltb 0 e.striping.height (omega arith), ← (f ∙ stripe_at_height))

module _ (numbers : List ℕ) (o : Opened) (s : List ℕ) (p : Point) (i : ℕ) (g : GroupRecord) where
  module _ (e : Entry) (h : ok e ≡ entry_at numbers i) where
    pub scan_plain : e.striping.k < 1 → group_scan o s p g ≡ striped_scan numbers o s p i g
    unfolding striped_scan
    scan_plain l = rw (← h, eq-eqb e.striping.k 0 (omega arith))

    pub scan_striped : 1 ≤ e.striping.k → stripe_walk o s p g numbers e ≡ striped_scan numbers o s p i g
    unfolding striped_scan
    scan_striped l = rw (← h, ne_eqb e.striping.k 0 (λ z. omega arith))

-- ---- which way
module _ (o : Opened) (s : List ℕ) (p : Point) (i : ℕ) (g : GroupRecord) where
  pub by_plain : group_scan_by plain o s p i g ≡ group_scan o s p g
  unfolding group_scan_by
  by_plain = refl

  pub by_stripes : (numbers : List ℕ) → group_scan_by (striped numbers) o s p i g ≡ striped_scan numbers o s p i g
  unfolding group_scan_by
  by_stripes numbers = refl
