-- Windows of the file: from units that no two entries have in common to bytes that none shares with an earlier one.
-- Assumes nothing.
use Prim.Native.Nat.{ℕ, zero, suc, ◌+◌, ◌-◌, ◌*◌, ◌/◌, ◌%◌, ◌≤◌, ◌<◌}
use native.Mathlib.Nat.{eq-or-lt_of_le}
use native.Mathlib.Omega.{arith}
use mathlib.Core.Logic.{◌⊎◌, inl, inr}
use mathlib.Core.Bool.{Bool, true, false, ◌||◌}
use mathlib.Core.List.{List}
use mathlib.Core.Path.{◌≡◌, refl, sym, subst}
use lib.ListN.{length}
use lib.Dec.{leb}
use borrow.Author.Tests.{leb-true, leb-false, eqb-false}
use Rattle.reader_head.specs.Head.{Headed}
use Rattle.answer.specs.Answers.{fine}
use Rattle.answer.specs.Checks.{claim, and_then, each, at_most, same, either}
use Rattle.answer.proofs.CheckLaws.{fine_one, fine_rest, fine_claim, at_le, same_eq}
use Rattle.reader_table.specs.Table.{sections, off_at, len_at, apart, apart_at, placed_check}
use Rattle.reader_table.specs.Steps.{Settled, Placed, Has, Split, Marked, Taken, Clipped, TakenBy, MarkedBy}

-- ---- one entry

-- the units of an entry, from its first to behind its last, clipped to the window
module _ (s : List ℕ) (i base first last from to : ℕ) (m m' : List ℕ) (lo : 4 * first ≤ off_at s i) (hi : off_at s i + len_at s i ≤ 4 * last)
    (a : Clipped first base (8 * length m) from) (b : Clipped last base (8 * length m) to) where
  in_from : (k : ℕ) → Has s i (base + k) → from ≤ k
  in_from k h = a.low k (omega arith)

  in_to : (k : ℕ) → k < 8 * length m → Has s i (base + k) → k < to
  in_to k l h = b.high k (omega arith) l

  pub taken_by : Taken m m' from to → TakenBy s i base m m'
  taken_by t = record {
    was_free = λ k l h. t.free k (in_from k h) (in_to k l h);
    is_held = λ k l h. t.held k (in_from k h) (in_to k l h);
    still = t.kept;
  }

-- ---- the entries in turn

pub marked_none : (s : List ℕ) (base : ℕ) (m : List ℕ) → MarkedBy s 0 base m
marked_none s base m = record { marks = λ j k h. absurd (omega arith) }

pub split_none : (s : List ℕ) (lo hi : ℕ) → Split s 0 lo hi
split_none s lo hi = record { split_each = λ i j u h. absurd (omega arith) }

module _ (s : List ℕ) (i base : ℕ) (m m' : List ℕ) (c : MarkedBy s i base m) (t : TakenBy s i base m m') where
  pub marked_more : length m' ≡ length m → MarkedBy s (i + 1) base m'
  marked_more e = record { marks = λ j k h l g. go j k l g (eq-or-lt_of_le {n = j} {m = i} (omega arith)) }
    where
      go : (j k : ℕ) → k < 8 * length m' → Has s j (base + k) → (j ≡ i) ⊎ (j < i) → Marked m' k
      go j k l g (inl q) = t.is_held k (omega arith) (subst (λ (y : ℕ). Has s y (base + k)) q g)
      go j k l g (inr h) = t.still k (c.marks j k h (omega arith) g)

  pub split_more : (n : ℕ) → length m ≡ n → Split s i base (base + 8 * n) → Split s (i + 1) base (base + 8 * n)
  split_more n e d = record { split_each = λ y j u h g l r hy hj. go y j u g l r hy hj (eq-or-lt_of_le {n = y} {m = i} (omega arith)) }
    where
      clash : (j u : ℕ) → j < i → base ≤ u → u < base + 8 * n → Has s i u → Has s j u → ⊥
      clash j u g l r hy hj =
          let q : u ≡ base + (u - base) = omega arith in
          t.was_free (u - base) (omega arith) (subst (Has s i) q hy) (c.marks j (u - base) g (omega arith) (subst (Has s j) q hj))

      go : (y j u : ℕ) → j < y → base ≤ u → u < base + 8 * n → Has s y u → Has s j u → (y ≡ i) ⊎ (y < i) → ⊥
      go y j u g l r hy hj (inl q) = clash j u (omega arith) l r (subst (λ (z : ℕ). Has s z u) q hy) hj
      go y j u g l r hy hj (inr h) = d.split_each y j u h g l r hy hj

-- ---- the windows in turn

pub split_start : (s : List ℕ) (n lo hi : ℕ) → hi ≤ lo → Split s n lo hi
split_start s n lo hi h = record { split_each = λ i j u x y l r. absurd (omega arith) }

pub split_join : (s : List ℕ) (n n' lo mid hi : ℕ) → Split s n lo mid → n' ≤ n → Split s n' mid hi → Split s n' lo hi
split_join s n n' lo mid hi a h b = record { split_each = λ i j u x y l r. go i j u x y l r (leb mid u) refl }
  where
    go : (i j u : ℕ) → i < n' → j < i → lo ≤ u → u < hi → (t : Bool) → leb mid u ≡ t → Has s i u → Has s j u → ⊥
    go i j u x y l r true e = b.split_each i j u x y (leb-true mid u e) r
    go i j u x y l r false e = a.split_each i j u (omega arith) y l (leb-false mid u e)

-- ---- placed entries

pub placed_none : (s : List ℕ) → Placed s 0
placed_none s = record { placed_each = λ i h. absurd (omega arith) }

pub placed_more : (s : List ℕ) (n : ℕ) → Placed s n → placed_check s n ≡ fine → Placed s (n + 1)
placed_more s n p e = record { placed_each = λ i h. go i (eq-or-lt_of_le {n = i} {m = n} (omega arith)) }
  where
    go : (i : ℕ) → (i ≡ n) ⊎ (i < n) → placed_check s i ≡ fine
    go i (inl q) = subst (λ (y : ℕ). placed_check s y ≡ fine) (sym q) e
    go i (inr h) = p.placed_each i h

pub placed_fewer : (s : List ℕ) (n n' : ℕ) → Placed s n → n' ≤ n → Placed s n'
placed_fewer s n n' p h = record { placed_each = λ i l. p.placed_each i (omega arith) }

-- what 12 and 13 say
record Lies (s : List ℕ) (i : ℕ) : Type 0 where
  even : off_at s i % 4 ≡ 0
  after : 64 + 16 * sections s ≤ off_at s i
  before : off_at s i + len_at s i ≤ length s - 4

lies : (s : List ℕ) (i : ℕ) → placed_check s i ≡ fine → Lies s i
unfolding placed_check
lies s i e = record {
  even = same_eq _ _ (fine_claim _ _ (fine_one _ _ e));
  after = at_le _ _ (fine_claim _ _ (fine_one _ _ (fine_rest _ _ e)));
  before = at_le _ _ (fine_claim _ _ (fine_one _ _ (fine_rest _ _ (fine_rest _ _ e))));
}

-- ---- from units to bytes

some : (n : ℕ) → (n ≡ 0 → ⊥) → 0 < n
some zero h = absurd (h refl)
some (suc n) h = omega arith

below : {a b : ℕ} → a < b → a ≤ b
below h = omega arith

-- two entries that share a byte share the unit in which the later one in the file starts
module _ (s : List ℕ) (head : Headed s) (i j : ℕ) (a : Lies s i) (b : Lies s j)
    (none : (u : ℕ) → 16 + 4 * sections s ≤ u → u < length s / 4 → Has s i u → Has s j u → ⊥) where
  later : off_at s i ≤ off_at s j → off_at s j < off_at s i + len_at s i → 0 < len_at s j → ⊥
  later h g l = none (off_at s j / 4) (omega arith) (omega arith) (record { starts = omega arith; ends = omega arith }) (record { starts = omega arith; ends = omega arith })

  earlier : off_at s j ≤ off_at s i → off_at s i < off_at s j + len_at s j → 0 < len_at s i → ⊥
  earlier h g l = none (off_at s i / 4) (omega arith) (omega arith) (record { starts = omega arith; ends = omega arith }) (record { starts = omega arith; ends = omega arith })

  apart_units : apart (off_at s i) (len_at s i) (off_at s j) (len_at s j) ≡ true
  unfolding apart either same at_most
  apart_units = go (same (len_at s i) 0) (same (len_at s j) 0) (at_most (off_at s i + len_at s i) (off_at s j)) (at_most (off_at s j + len_at s j) (off_at s i)) refl refl refl refl
    where
      go : (p q r t : Bool) → same (len_at s i) 0 ≡ p → same (len_at s j) 0 ≡ q → at_most (off_at s i + len_at s i) (off_at s j) ≡ r → at_most (off_at s j + len_at s j) (off_at s i) ≡ t
          → p || (q || (r || t)) ≡ true
      go true q r t e f g h = refl
      go false true r t e f g h = refl
      go false false true t e f g h = refl
      go false false false true e f g h = refl
      go false false false false e f g h = absurd (meet (leb (off_at s i) (off_at s j)) refl)
        where
          meet : (x : Bool) → leb (off_at s i) (off_at s j) ≡ x → ⊥
          meet true x = later (leb-true _ _ x) (leb-false _ _ g) (some (len_at s j) (eqb-false (len_at s j) 0 f))
          meet false x = earlier (below (leb-false (off_at s i) (off_at s j) x)) (leb-false _ _ h) (some (len_at s i) (eqb-false (len_at s i) 0 e))

-- an entry that is apart from each earlier one
all_apart : (s : List ℕ) (i n k : ℕ) → ((j : ℕ) → k ≤ j → j < k + n → apart (off_at s i) (len_at s i) (off_at s j) (len_at s j) ≡ true) → each (apart_at s i) n k ≡ fine
unfolding each and_then apart_at claim
all_apart s i zero k h = refl
all_apart s i (suc n) k h = rw (h k (omega arith) (omega arith)) (all_apart s i n (k + 1) (λ j l m. h j (omega arith) (omega arith)))

pub settled_none : (s : List ℕ) → Settled s 0
settled_none s = record { apart_each = λ i h. absurd (omega arith) }

pub settle : (s : List ℕ) (n hi : ℕ) → Headed s → Placed s n → Split s n (16 + 4 * sections s) hi → length s / 4 ≤ hi → Settled s n
settle s n hi head p d h = record { apart_each = λ i l. all_apart s i i 0 (λ j x y. one i j l (omega arith)) }
  where
    one : (i j : ℕ) → i < n → j < i → apart (off_at s i) (len_at s i) (off_at s j) (len_at s j) ≡ true
    one i j l g =
        apart_units s head i j (lies s i (p.placed_each i l)) (lies s j (p.placed_each j (omega arith))) (λ u x y. d.split_each i j u l g x (omega arith))
