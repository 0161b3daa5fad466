-- The loop of `gather`: one candidate more, and the end.
-- Assumes nothing.
use Prim.Native.Nat.{ℕ, suc, ◌+◌, ◌-◌, ◌≤◌, ◌<◌}
use native.Mathlib.Omega.{arith}
use native.Mathlib.Numerals.{add-one}
use mathlib.Core.Path.{◌≡◌, refl, sym, ap, ap₂, ◌∙◌}
use mathlib.Core.List.{List, ◌∷◌}
use lib.ListN.{length, set}
use lib.Seq.{sets}
use Rattle.answer.specs.declared.Refusal.{Refusal}
use Rattle.answer.specs.Answers.{Answer, ok, refused, ◌then◌, ◌before◌, Check, fine, outcome}
use Rattle.answer.specs.Checks.{and_then}
use Rattle.opened.specs.declared.Opened.{Opened}
use Rattle.reader_named.specs.Asked.{name_at}
use Rattle.replies.specs.Replies.{Sought, nowhere, in_zone}
use Rattle.reader_listing.specs.Steps.{seen, seen_on, tally}
use Rattle.reader_listing.specs.All.{also, all_hits, names_read}

and_then_assoc : (a b c : Check) → and_then (and_then a b) c ≡ and_then a (and_then b c)
unfolding and_then
and_then_assoc (ok u) b c = refl
and_then_assoc (refused k) b c = refl

-- ---- one candidate more
module _ (hit : ℕ → Answer Sought) (n i : ℕ) (h : 0 < n) where
  one_more : n ≡ suc (n - 1)
  one_more = omega arith

  all_one : all_hits hit n i ≡ (hit i then λ z. all_hits hit (n - 1) (i + 1) then λ l. ok (also z l))
  unfolding all_hits
  all_one = ap (λ (j : ℕ). all_hits hit j i) one_more

  seen_one : seen hit n i ≡ seen_on (hit i) (seen hit (n - 1) (i + 1))
  unfolding seen
  seen_one = ap (λ (j : ℕ). seen hit j i) one_more

module _ (o : Opened) (s : List ℕ) where
  module _ (names : Check) (m : ℕ) where
    tally_miss : (x : Answer (List ℕ)) → tally o s names m x ≡ tally o s names m (x then λ l. ok (also nowhere l))
    unfolding tally
    tally_miss (ok l) = refl
    tally_miss (refused k) = refl

    tally_hit : (zone : ℕ) (x : Answer (List ℕ)) → tally o s (and_then names (outcome (name_at o s zone))) (m + 1) x ≡ tally o s names m (x then λ l. ok (also (in_zone zone) l))
    unfolding tally names_read
    tally_hit zone (ok l) =
        let e : m + 1 + length l ≡ m + suc (length l) = omega arith in
        ap₂ (λ (c : Check) (j : ℕ). c before ok j) (and_then_assoc names (outcome (name_at o s zone)) (names_read o s l)) e
    tally_hit zone (refused k) = refl

  -- n candidates from place `from` on, of which those before `place` were tested; k were found to contain the point, with that result of their names
  pub record Gathering (hit : ℕ → Answer Sought) (n from : ℕ) (held₀ held : List ℕ) (names : Check) (k place : ℕ) : Type 0 where
    pub few : k + (from + n - place) ≤ n
    pub count : tally o s names k (all_hits hit (from + n - place) place) ≡ tally o s fine 0 (all_hits hit n from)
    pub kept : sets held k (seen hit (from + n - place) place) ≡ sets held₀ 0 (seen hit n from)

  pub gather_start : (hit : ℕ → Answer Sought) (n from : ℕ) (held : List ℕ) → Gathering hit n from held held fine 0 from
  gather_start hit n from held =
      let e : from + n - from ≡ n = omega arith in
      record { few = omega arith; count = ap (λ (j : ℕ). tally o s fine 0 (all_hits hit j from)) e; kept = ap (λ (j : ℕ). sets held 0 (seen hit j from)) e }

  module _ (hit : ℕ → Answer Sought) (n from : ℕ) (held₀ held : List ℕ) (names : Check) (k place : ℕ) (g : Gathering hit n from held₀ held names k place) where
    abbrev rest : ℕ
    rest = from + n - place

    module _ (h : place < from + n) where
      some : 0 < rest
      some = omega (arith, h)

      fewer : rest - 1 ≡ from + n - (place + 1)
      fewer = omega (arith, h)

      all_next : all_hits hit rest place ≡ (hit place then λ z. all_hits hit (from + n - (place + 1)) (place + 1) then λ l. ok (also z l))
      all_next = all_one hit rest place some ∙ ap (λ (j : ℕ). hit place then λ z. all_hits hit j (place + 1) then λ l. ok (also z l)) fewer

      seen_next : seen hit rest place ≡ seen_on (hit place) (seen hit (from + n - (place + 1)) (place + 1))
      seen_next = seen_one hit rest place some ∙ ap (λ (j : ℕ). seen_on (hit place) (seen hit j (place + 1))) fewer

      pub gather_no : (r : Refusal) → refused r ≡ hit place → (refused r ≡ tally o s fine 0 (all_hits hit n from)) × (held ≡ sets held₀ 0 (seen hit n from))
      unfolding tally
      gather_no r e = (count ∙ g.count, kept ∙ g.kept)
        where
          count : refused r ≡ tally o s names k (all_hits hit rest place)
          count = rw (all_next, ← e)

          kept : held ≡ sets held k (seen hit rest place)
          kept = rw (seen_next, ← e)

      pub gather_miss : (x : Sought) → ok x ≡ hit place → x ≡ nowhere → Gathering hit n from held₀ held names k (place + 1)
      gather_miss x d q = record {
        few = omega (arith, g.few);
        count = tally_miss names k (all_hits hit (from + n - (place + 1)) (place + 1)) ∙ ap (tally o s names k) (sym all_rest) ∙ g.count;
        kept = ap (sets held k) (sym seen_rest) ∙ g.kept;
      }
        where
          e : ok nowhere ≡ hit place
          e = ap ok (sym q) ∙ d

          all_rest : all_hits hit rest place ≡ (all_hits hit (from + n - (place + 1)) (place + 1) then λ l. ok (also nowhere l))
          all_rest = rw (all_next, ← e)

          seen_rest : seen hit rest place ≡ seen hit (from + n - (place + 1)) (place + 1)
          seen_rest = rw (seen_next, ← e)

      pub room_for : k + 1 ≤ n
      room_for = omega (arith, h, g.few)

      pub gather_hit : (x : Sought) → ok x ≡ hit place → (zone : ℕ) (after : Check) (next : List ℕ) → x ≡ in_zone zone → after ≡ and_then names (outcome (name_at o s zone)) → next ≡ set held k zone
          → Gathering hit n from held₀ next after (k + 1) (place + 1)
      gather_hit x d zone after next q a b = record {
        few = omega (arith, h, g.few);
        count =
            ap (λ (c : Check). tally o s c (k + 1) (all_hits hit (from + n - (place + 1)) (place + 1))) a
            ∙ tally_hit names k zone (all_hits hit (from + n - (place + 1)) (place + 1))
            ∙ ap (tally o s names k) (sym all_rest)
            ∙ g.count;
        kept = ap₂ (λ (l : List ℕ) (j : ℕ). sets l j (seen hit (from + n - (place + 1)) (place + 1))) b (add-one k) ∙ ap (sets held k) (sym seen_rest) ∙ g.kept;
      }
        where
          e : ok (in_zone zone) ≡ hit place
          e = ap ok (sym q) ∙ d

          all_rest : all_hits hit rest place ≡ (all_hits hit (from + n - (place + 1)) (place + 1) then λ l. ok (also (in_zone zone) l))
          all_rest = rw (all_next, ← e)

          seen_rest : seen hit rest place ≡ zone ∷ seen hit (from + n - (place + 1)) (place + 1)
          seen_rest = rw (seen_next, ← e)

    -- none is left
    module _ (h : from + n ≤ place) where
      none_left : rest ≡ 0
      none_left = omega (arith, h)

      all_kept : held ≡ sets held₀ 0 (seen hit n from)
      unfolding seen
      all_kept = ap (λ (j : ℕ). sets held k (seen hit j place)) (sym none_left) ∙ g.kept

      pub gather_end : names ≡ fine → (ok k ≡ tally o s fine 0 (all_hits hit n from)) × (held ≡ sets held₀ 0 (seen hit n from))
      unfolding tally all_hits names_read and_then
      gather_end e = (count ∙ g.count, all_kept)
        where
          count : ok k ≡ tally o s names k (all_hits hit rest place)
          count =
              let z : k ≡ k + 0 = omega arith in
              rw (none_left, e) (ap ok z)

      pub gather_bad : (r : Refusal) → names ≡ refused r → (refused r ≡ tally o s fine 0 (all_hits hit n from)) × (held ≡ sets held₀ 0 (seen hit n from))
      unfolding tally all_hits names_read and_then
      gather_bad r e = (count ∙ g.count, all_kept)
        where
          count : refused r ≡ tally o s names k (all_hits hit rest place)
          count = rw (none_left, e)
