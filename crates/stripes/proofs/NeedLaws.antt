-- The numbers needed, stated beforehand, are as many as are written; and how many they are at most.
-- Assumes nothing.
use Prim.Native.Nat.{ℕ, zero, suc, ◌+◌, ◌-◌, ◌*◌, ◌/◌, ◌≤◌, ◌<◌, min, max}
use native.Mathlib.Omega.{arith}
use native.Mathlib.Nat.{mul-le-mul}
use mathlib.Core.Path.{◌≡◌, refl, ap, ◌∙◌}
use mathlib.Core.Bool.{Bool, true, false, cond, ◌&&◌}
use mathlib.Core.List.{List, [], ◌∷◌, ◌++◌}
use borrow.Author.Tests.{ltb-true, ltb-false, leb-true, leb-false}
use lib.Dec.{leb, ltb}
use lib.ListN.{length, length-append}
use Rattle.basics.specs.Total.{total}
use Rattle.boxes.specs.declared.BBox.{BBox}
use Rattle.stripes.specs.declared.Striping.{Striping}
use Rattle.stripes.specs.Stripes.{Boxed, stripe_count, stripe_of, striping_of, striping_in, stands_in, chunks_in, stripes_from, group_stripes}
use Rattle.stripes.specs.Numbers.{group_numbers, stripe_numbers, group_entry, group_entries, stripe_entries, all_stripes, together, numbers, depth, depths, group_need, need_of}
use Rattle.stripes.proofs.StripesLaws.{stripe_below}

-- ---- how many numbers the entries take
five : (t : Bool) (a b c d e : ℕ) → length (cond t (a ∷ b ∷ c ∷ d ∷ e ∷ []) (0 ∷ 0 ∷ 0 ∷ 0 ∷ 0 ∷ [])) ≡ 5
five true a b c d e = refl
five false a b c d e = refl

pub entry_length : (t : Striping) (place : ℕ) → length (group_entry t place) ≡ group_numbers
unfolding group_entry
entry_length t place = five (ltb 0 t.k) _ _ _ _ _

pub entries_length : (l : List Boxed) (place : ℕ) → length (group_entries l place) ≡ group_numbers * length l
unfolding group_entries
entries_length [] place = refl
entries_length (g ∷ l) place =
    length-append (group_entry (striping_in g) place) _ ∙ omega (arith, entry_length (striping_in g) place, entries_length l (place + stripe_numbers * (striping_in g).k))

pub stripe_entries_length : (l : List (List ℕ)) (place : ℕ) → length (stripe_entries l place) ≡ stripe_numbers * length l
unfolding stripe_entries
stripe_entries_length [] place = refl
stripe_entries_length (t ∷ l) place = omega (arith, stripe_entries_length l (place + length t))

-- ---- the stripes of a group are k
pub stripes_length : (t : Striping) (l : List BBox) (n s : ℕ) → length (stripes_from t l n s) ≡ n
unfolding stripes_from
stripes_length t l zero s = refl
stripes_length t l (suc n) s = ap suc (stripes_length t l n (s + 1))

pub group_length : (g : Boxed) → length (group_stripes g) ≡ (striping_in g).k
unfolding group_stripes
group_length g = stripes_length (striping_in g) g.chunks (striping_in g).k 0

none_together : length (together []) ≡ 0
unfolding together
none_together = refl

pub together_append : (a b : List (List ℕ)) → length (together (a ++ b)) ≡ length (together a) + length (together b)
unfolding together
together_append [] b = omega arith
together_append (t ∷ a) b = length-append t _ ∙ omega (arith, length-append t (together a), together_append a b)

-- ---- sums over stripes
total_same : (f g : ℕ → ℕ) → ((i : ℕ) → f i ≡ g i) → (n i : ℕ) → total f n i ≡ total g n i
unfolding total
total_same f g h zero i = refl
total_same f g h (suc n) i = omega (arith, h i, total_same f g h n (i + 1))

total_none : (n i : ℕ) → total (λ _. 0) n i ≡ 0
unfolding total
total_none zero i = refl
total_none (suc n) i = omega (arith, total_none n (i + 1))

no_total : (f : ℕ → ℕ) (n : ℕ) → n ≡ 0 → (i : ℕ) → total f n i ≡ 0
unfolding total
no_total f zero h i = refl
no_total f (suc n) h i = absurd (omega arith)

total_sum : (f g : ℕ → ℕ) (n i : ℕ) → total (λ s. f s + g s) n i ≡ total f n i + total g n i
unfolding total
total_sum f g zero i = refl
total_sum f g (suc n) i = omega (arith, total_sum f g n (i + 1))

-- 1 where it holds
abbrev one : Bool → ℕ
one b = cond b 1 0

-- the numbers from lo to hi, of n from i on
between : (lo hi n i : ℕ) → total (λ s. one (leb lo s && leb s hi)) n i ≡ min (hi + 1) (i + n) - max lo i
unfolding total
between lo hi zero i = omega arith
between lo hi (suc n) i = ap (λ (x : ℕ). one (leb lo i && leb i hi) + x) (between lo hi n (i + 1)) ∙ go (leb lo i) (leb i hi) refl refl
  where
    go : (a b : Bool) → leb lo i ≡ a → leb i hi ≡ b → one (a && b) + (min (hi + 1) (i + 1 + n) - max lo (i + 1)) ≡ min (hi + 1) (i + suc n) - max lo i
    go true true e f = omega (arith, leb-true lo i e, leb-true i hi f)
    go true false e f = omega (arith, leb-true lo i e, leb-false i hi f)
    go false b e f = omega (arith, leb-false lo i e)

-- ---- a group's chunk numbers: counted by stripes they are as many as counted by chunks
module _ (t : Striping) where
  none_in : (i s : ℕ) → length (chunks_in t s i []) ≡ 0
  unfolding chunks_in
  none_in i s = refl

  more_in : (s i : ℕ) (b : BBox) (l : List BBox) → length (chunks_in t s i (b ∷ l)) ≡ one (stands_in t s b) + length (chunks_in t s (i + 1) l)
  unfolding chunks_in
  more_in s i b l = go (stands_in t s b)
    where
      go : (x : Bool) → length (cond x (i ∷ chunks_in t s (i + 1) l) (chunks_in t s (i + 1) l)) ≡ one x + length (chunks_in t s (i + 1) l)
      go true = omega arith
      go false = omega arith

  by_stripes : (l : List BBox) (n s : ℕ) → length (together (stripes_from t l n s)) ≡ total (λ x. length (chunks_in t x 0 l)) n s
  unfolding stripes_from together total
  by_stripes l zero s = refl
  by_stripes l (suc n) s = length-append (chunks_in t s 0 l) _ ∙ omega (arith, by_stripes l n (s + 1))

  module _ (p : 0 < t.k) where
    stands : (b : BBox) → total (λ s. one (stands_in t s b)) t.k 0 ≡ depth t b
    unfolding stands_in depth
    stands b = between (stripe_of t b.miny) (stripe_of t b.maxy) t.k 0 ∙ omega (arith, stripe_below t b.maxy p)

    by_chunks : (l : List BBox) (i : ℕ) → total (λ s. length (chunks_in t s i l)) t.k 0 ≡ depths t l
    unfolding depths
    by_chunks [] i = total_same _ _ (none_in i) t.k 0 ∙ total_none t.k 0
    by_chunks (b ∷ l) i =
        total_same _ _ (λ s. more_in s i b l) t.k 0
        ∙ total_sum (λ s. one (stands_in t s b)) (λ s. length (chunks_in t s (i + 1) l)) t.k 0
        ∙ omega (arith, stands b, by_chunks l (i + 1))

    pub depth_most : (b : BBox) → depth t b ≤ t.k
    unfolding depth
    depth_most b = omega (arith, stripe_below t b.maxy p)

    pub depths_most : (l : List BBox) → depths t l ≤ length l * t.k
    unfolding depths
    depths_most [] = omega arith
    depths_most (b ∷ l) = omega (arith, depth_most b, depths_most l)

-- ---- a group
pub written : (g : Boxed) → length (together (group_stripes g)) ≡ cond (ltb 0 (striping_in g).k) (depths (striping_in g) g.chunks) 0
unfolding group_stripes
written g = by_stripes (striping_in g) g.chunks (striping_in g).k 0 ∙ go (ltb 0 (striping_in g).k) refl
  where
    go : (b : Bool) → ltb 0 (striping_in g).k ≡ b → total (λ x. length (chunks_in (striping_in g) x 0 g.chunks)) (striping_in g).k 0 ≡ cond b (depths (striping_in g) g.chunks) 0
    go true e = by_chunks (striping_in g) (ltb-true _ _ e) g.chunks 0
    go false e = no_total _ _ (omega (arith, ltb-false 0 (striping_in g).k e)) 0

-- ---- all groups
pub entries_need : (l : List Boxed) → group_numbers * length l + stripe_numbers * length (all_stripes l) + length (together (all_stripes l)) ≡ need_of l
unfolding all_stripes group_need need_of
entries_need [] = omega (arith, none_together)
entries_need (g ∷ l) =
    omega (
      arith,
      length-append (group_stripes g) (all_stripes l),
      group_length g,
      together_append (group_stripes g) (all_stripes l),
      written g,
      entries_need l,
    )

pub need_is : (l : List Boxed) → length (numbers l) ≡ need_of l
unfolding numbers
need_is l =
    let first = group_numbers * length l in
    let from = first + stripe_numbers * length (all_stripes l) in
    omega (
      arith,
      length-append (group_entries l first ++ stripe_entries (all_stripes l) from) (together (all_stripes l)),
      length-append (group_entries l first) (stripe_entries (all_stripes l) from),
      entries_length l first,
      stripe_entries_length (all_stripes l) from,
      entries_need l,
    )

-- ---- how many they are at most: 256 stripes a group, and each chunk in each of them
pub count_most : (n : ℕ) → stripe_count n ≤ 256
unfolding stripe_count
count_most n = go (ltb n 2)
  where
    go : (b : Bool) → cond b 0 (max 1 (min (n / 4) 256)) ≤ 256
    go true = omega arith
    go false = omega arith

pub k_most : (g : Boxed) → (striping_in g).k ≤ 256
unfolding striping_of
k_most g = count_most (length g.chunks)

pub group_small : (g : Boxed) → length g.chunks ≤ 65_535 → group_need g ≤ 16_777_733
unfolding group_need
group_small g h = go (ltb 0 (striping_in g).k) refl
  where
    go : (b : Bool) → ltb 0 (striping_in g).k ≡ b → group_numbers + stripe_numbers * (striping_in g).k + cond b (depths (striping_in g) g.chunks) 0 ≤ 16_777_733
    go true e =
        omega (
          arith,
          k_most g,
          depths_most (striping_in g) (ltb-true _ _ e) g.chunks,
          mul-le-mul {n₁ = length g.chunks} {m₁ = (striping_in g).k} {n₂ = 65_535} {m₂ = 256} h (k_most g),
        )
    go false e = omega (arith, k_most g)

-- every group of the list has at most as many chunks as its record can count
pub data Counted : List Boxed → Type 0 where
  counted_none : Counted []
  counted : {g : Boxed} {l : List Boxed} → length g.chunks ≤ 65_535 → Counted l → Counted (g ∷ l)

pub need_small : (l : List Boxed) → Counted l → need_of l ≤ length l * 16_777_733
unfolding need_of
need_small [] counted_none = omega arith
need_small (g ∷ l) (counted h c) = omega (arith, group_small g h, need_small l c)

-- so of fewer than 2^32 groups below 2^57
pub need_below : (l : List Boxed) → Counted l → length l < 0x1_0000_0000 → need_of l < 0x200_0000_0000_0000
need_below l c h = omega (arith, need_small l c)
