-- Laws of specs/Head, as proofs cite them. Nothing here need be believed.
-- Assumes nothing.
use Prim.Native.Nat.{ℕ, zero, suc, ◌+◌, ◌-◌, ◌<◌, ◌≤◌}
use native.Mathlib.Omega.{arith}
use mathlib.Core.Bool.{Bool, true, false, not, ◌&&◌, ◌||◌, cond, true≢false}
use lib.Dec.{ltb, eqb}
use borrow.Author.Tests.{ltb-true, ltb-false, not-true}
use mathlib.Core.List.{List, [], ◌∷◌}
use lib.ListN.{length, get_or, take, drop, length-drop}
use lib.Seq.{length-take-le}
use Rattle.std.proofs.Common.{add-one, Option, Some, None, nat_lt}
use Rattle.std.proofs.Math.Seq.{drop-cons}
use Rattle.std.specs.List.{position, position_or_len, list_all}
use Rattle.std.proofs.lemmas.List.Sums.{prefix_len-le-length}
use Rattle.fields.specs.Part.{part}
use Rattle.utf8.specs.Rfc3629.{utf8}
use Rattle.answer.specs.Answers.{fine}
use Rattle.answer.proofs.CheckLaws.{eq_same, ne_same, fine_one, fine_rest, fine_claim, at_le}
use mathlib.Core.Path.{◌≡◌, refl, sym, ap, ◌∙◌}
use Rattle.answer.specs.Checks.{deny, seek, pick, same}
use Rattle.reader_head.specs.Head.{is_zero, not_zero, version_end, start_check, bounds_check, head_check, Headed}

-- ---- what is known of a file whose head is fine
pub size_in : (n : ℕ) → (ltb n 68 || ltb 4_294_967_295 n) ≡ false → (68 ≤ n) × (n ≤ 4_294_967_295)
size_in n e = go (ltb n 68) (ltb 4_294_967_295 n) refl refl e
  where
    go : (a b : Bool) → ltb n 68 ≡ a → ltb 4_294_967_295 n ≡ b → (a || b) ≡ false → (68 ≤ n) × (n ≤ 4_294_967_295)
    go true b x y h = absurd (true≢false h)
    go false true x y h = absurd (true≢false h)
    go false false x y h = (ltb-false _ _ x, ltb-false _ _ y)

sized : (s : List ℕ) → deny 1 (ltb (length s) 68 || ltb 4_294_967_295 (length s)) ≡ fine → (68 ≤ length s) × (length s ≤ 4_294_967_295)
unfolding deny
sized s e = size_in (length s) (not-true _ (fine_claim _ _ e))

pub started : (s : List ℕ) → start_check s ≡ fine → 68 ≤ length s
unfolding start_check
started s e = (sized s (fine_one _ _ e)).0

pub headed : (s : List ℕ) → head_check s ≡ fine → Headed s
unfolding head_check start_check bounds_check
headed s e =
    let a = fine_one _ _ e in
    let z = fine_one _ _ (fine_rest _ _ (fine_rest _ _ (fine_rest _ _ e))) in
    record {
      long = (sized s (fine_one _ _ a)).0;
      short = (sized s (fine_one _ _ a)).1;
      table = at_le _ _ (fine_claim _ _ (fine_one _ _ z));
    }

-- ---- the first zero, and what is none, by the library's words
module _ (p : ℕ → Bool) (s : List ℕ) where
  seek_by : (n i : ℕ) → i + n ≤ length s → seek (λ k. p (get_or s k 0)) n i ≡ i + position_or_len p (take n (drop i s))
  unfolding seek
  seek_by zero i h = omega arith
  seek_by (suc n) i h =
      let e : drop i s ≡ get_or s i 0 ∷ drop (i + 1) s = rw add-one (drop-cons s i 0 (omega arith)) in
      let ih : seek (λ k. p (get_or s k 0)) n (i + 1) ≡ i + 1 + position_or_len p (take n (drop (i + 1) s)) = seek_by n (i + 1) (omega arith) in
      rw (e, ih) (go (p (get_or s i 0)))
    where
      go : (b : Bool) → pick b i (i + 1 + position_or_len p (take n (drop (i + 1) s))) ≡ i + cond (not b) (1 + position_or_len p (take n (drop (i + 1) s))) 0
      go true = omega arith
      go false = omega arith

-- what `position` says of the place
position_is : (p : ℕ → Bool) (xs : List ℕ) (k : ℕ) → Some k ≡ position p xs → (position_or_len p xs ≡ k) × (k < length xs)
position_is p xs k = go (position_or_len p xs) (nat_lt (position_or_len p xs) (length xs)) refl
  where
    go : (n : ℕ) (b : Bool) → nat_lt n (length xs) ≡ b → Some k ≡ cond b (Some n) None → (n ≡ k) × (k < length xs)
    go n true e q = let z : n ≡ k = cc in (z, omega (arith, z, ltb-true _ _ e))
    go n false e q = cc

position_none : (p : ℕ → Bool) (xs : List ℕ) → ◌≡◌ {A = Option ℕ} None (position p xs) → length xs ≤ position_or_len p xs
position_none p xs = go (position_or_len p xs) (nat_lt (position_or_len p xs) (length xs)) refl
  where
    go : (n : ℕ) (b : Bool) → nat_lt n (length xs) ≡ b → ◌≡◌ {A = Option ℕ} None (cond b (Some n) None) → length xs ≤ n
    go n true e q = cc
    go n false e q = ltb-false _ _ e

module _ (s : List ℕ) (from to : ℕ) (h : from ≤ to) (k : to ≤ length s) where
  zero_end : seek (is_zero s) (to - from) from ≡ from + position_or_len (λ b. eqb b 0) (take (to - from) (drop from s))
  unfolding is_zero same
  zero_end = seek_by (λ b. eqb b 0) s (to - from) from (omega arith)

  part_long : length (take (to - from) (drop from s)) ≡ to - from
  part_long = length-take-le (to - from) (drop from s) (omega (arith, length-drop from s))

  pub zero_found : (n : ℕ) → Some n ≡ position (λ b. eqb b 0) (take (to - from) (drop from s)) → (from + n ≡ seek (is_zero s) (to - from) from) × (from ≤ from + n) × (from + n ≤ to)
  zero_found n e =
      let q = position_is (λ b. eqb b 0) (take (to - from) (drop from s)) n e in
      (omega (arith, zero_end, q.0), omega arith, omega (arith, q.1, part_long))

  pub zero_missed : ◌≡◌ {A = Option ℕ} None (position (λ b. eqb b 0) (take (to - from) (drop from s))) → (to ≡ seek (is_zero s) (to - from) from) × (from ≤ to) × (to ≤ to)
  zero_missed e =
      (omega (arith, zero_end, position_none (λ b. eqb b 0) (take (to - from) (drop from s)) e, part_long, prefix_len-le-length (λ b. not (eqb b 0)) (take (to - from) (drop from s))), h, omega arith)

module _ (p : ℕ → Bool) where
  all_pass : (xs : List ℕ) → list_all p xs ≡ true → position_or_len (λ x. not (p x)) xs ≡ length xs
  all_pass [] e = refl
  all_pass (x ∷ xs) e = go (p x) e (λ q. all_pass xs q)
    where
      go : (b : Bool) → (b && list_all p xs) ≡ true → (list_all p xs ≡ true → position_or_len (λ y. not (p y)) xs ≡ length xs) → cond (not (not b)) (1 + position_or_len (λ y. not (p y)) xs) 0 ≡ suc (length xs)
      go true q f = omega (arith, f q)
      go false q f = absurd (true≢false (sym q))

  one_fails : (xs : List ℕ) → list_all p xs ≡ false → position_or_len (λ x. not (p x)) xs < length xs
  one_fails [] e = absurd (true≢false e)
  one_fails (x ∷ xs) e = go (p x) e (λ q. one_fails xs q)
    where
      go : (b : Bool) → (b && list_all p xs) ≡ false → (list_all p xs ≡ false → position_or_len (λ y. not (p y)) xs < length xs) → cond (not (not b)) (1 + position_or_len (λ y. not (p y)) xs) 0 < suc (length xs)
      go true q f = omega (arith, f q)
      go false q f = omega arith

zeros_to : (s : List ℕ) (e to : ℕ) → e ≤ to → to ≤ length s → list_all (λ b. eqb b 0) (take (to - e) (drop e s)) ≡ same (seek (not_zero s) (to - e) e) to
unfolding not_zero same
zeros_to s e to h k = go (list_all (λ b. eqb b 0) (take (to - e) (drop e s))) refl (seek_by (λ b. not (eqb b 0)) s (to - e) e (omega arith)) (part_long s e to h k)
  where
    go : (b : Bool) → list_all (λ b. eqb b 0) (take (to - e) (drop e s)) ≡ b → seek (not_zero s) (to - e) e ≡ e + position_or_len (λ b. not (eqb b 0)) (take (to - e) (drop e s)) → length (take (to - e) (drop e s)) ≡ to - e → b ≡ same (seek (not_zero s) (to - e) e) to
    go true q at long = sym (eq_same _ _ (omega (arith, at, long, all_pass (λ b. eqb b 0) (take (to - e) (drop e s)) q)))
    go false q at long = sym (ne_same _ _ (λ z. absurd (omega (arith, at, long, one_fails (λ b. eqb b 0) (take (to - e) (drop e s)) q))))

-- the version's two tests, where the end of its text is a call's result
pub padding_is : (s : List ℕ) (e : ℕ) (b : Bool) → 68 ≤ length s → e ≡ seek (is_zero s) 16 24 → e ≤ 40 → b ≡ list_all (λ x. eqb x 0) (take (40 - e) (drop e s)) → b ≡ same (seek (not_zero s) (40 - version_end s) (version_end s)) 40
unfolding version_end
padding_is s e b h p k q = q ∙ zeros_to s e 40 k (omega arith) ∙ ap (λ z. same (seek (not_zero s) (40 - z) z) 40) p

pub text_is : (s : List ℕ) (e : ℕ) (b : Bool) → e ≡ seek (is_zero s) 16 24 → b ≡ utf8 [] (part s 24 e) → b ≡ utf8 [] (part s 24 (version_end s))
unfolding version_end
text_is s e b p q = q ∙ ap (λ z. utf8 [] (part s 24 z)) p
