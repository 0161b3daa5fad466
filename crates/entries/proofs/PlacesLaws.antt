-- The places of an entry, one behind the other, as they are stored and loaded. Nothing here need be believed.
-- Assumes nothing.
use Prim.Native.Nat.{ℕ, zero, suc, ◌+◌, ◌-◌, ◌*◌, ◌≤◌, ◌<◌}
use native.Mathlib.Omega.{arith}
use native.Mathlib.Numerals.{add-one}
use mathlib.Core.Path.{◌≡◌, refl, sym, ap, ap₂, ◌∙◌}
use mathlib.Core.List.{List, [], ◌∷◌, ◌++◌, append-nil}
use lib.ListN.{length, take, drop, set, get_or, replicate, length-append, length-replicate, get_or-replicate, replicate-append-replicate, drop_of_length-le}
use lib.Seq.{drop-cons, set_at, append_snoc}
use Rattle.fields.specs.Le.{le}
use Rattle.fields.specs.Stores.{to_le, Laid}
use Rattle.fields.specs.Row.{row_wide, row_bytes, row_in}
use Rattle.fields.proofs.Rows.{in_parts, none_stored, one_on, all_stored}
use Rattle.entries.specs.Entry.{unused, places_of}

-- ---- a place takes two bytes
pub halves_wide : (n : ℕ) → row_wide (replicate n 2) ≡ 2 * n
halves_wide zero = refl
halves_wide (suc n) = omega (arith, halves_wide n)

first_wide : (n i : ℕ) → i ≤ n → row_wide (take i (replicate n 2)) ≡ 2 * i
first_wide n zero h = refl
first_wide zero (suc i) h = absurd (omega arith)
first_wide (suc n) (suc i) h = omega (arith, first_wide n i (omega arith))

pub in_long : (ws s : List ℕ) (p : ℕ) → length (row_in ws s p) ≡ length ws
unfolding row_in
in_long [] s p = refl
in_long (w ∷ ws) s p = ap suc (in_long ws s (p + w))

-- ---- what stands in each of them
pub places_long : (places : ℕ) (zones : List ℕ) → length zones ≤ places → length (places_of places zones) ≡ places
unfolding places_of
places_long places zones h = omega (arith, length-append zones (replicate (places - length zones) unused), length-replicate (places - length zones) unused)

pub place_at : (places : ℕ) (zones : List ℕ) (i : ℕ) → i < places → get_or zones i unused ≡ get_or (places_of places zones) i 0
unfolding places_of
place_at places zones i h = go zones (places - length zones) i (omega arith)
  where
    go : (l : List ℕ) (k i : ℕ) → i < length l + k → get_or l i unused ≡ get_or (l ++ replicate k unused) i 0
    go [] k i h = sym (get_or-replicate k i unused 0 (omega arith))
    go (z ∷ l) k zero h = refl
    go (z ∷ l) k (suc i) h = go l k i (omega arith)

-- ---- stored
-- the first i of them stand
abbrev pub StoredTo : ℕ → List ℕ → ℕ → List ℕ → List ℕ → Type 0
StoredTo places zones i before after = Laid before 8 (row_bytes (take i (replicate places 2)) (take i (places_of places zones))) after

module _ (places : ℕ) (zones : List ℕ) (h : length zones ≤ places) where
  abbrev halves : List ℕ
  halves = replicate places 2

  halves_long : length halves ≡ places
  halves_long = length-replicate places 2

  pub stored_none : (out : List ℕ) → 8 + 2 * places ≤ length out → StoredTo places zones 0 out out
  stored_none out r = none_stored out halves (places_of places zones) 8 (omega arith)

  pub stored_next : (i : ℕ) → i < places → (v : ℕ) → v ≡ get_or zones i unused → {before mid after : List ℕ} → StoredTo places zones i before mid → Laid mid (8 + 2 * i) (to_le 2 v) after → StoredTo places zones (i + 1) before after
  stored_next i k v e f g =
      (one_on halves (places_of places zones) i 8 (8 + 2 * i) (omega (arith, halves_long)) (places_long places zones h ∙ sym halves_long) (ap (λ (x : ℕ). 8 + x) (sym (first_wide places i (omega arith))))
      (i + 1) 2 v refl (sym (get_or-replicate places i 2 0 k)) (e ∙ place_at places zones i k) f g).1

  pub stored_all : (i : ℕ) → i ≤ places → places ≤ i → {before after : List ℕ} → StoredTo places zones i before after → Laid before 8 (row_bytes halves (places_of places zones)) after
  stored_all i a b f = all_stored halves (places_of places zones) i (omega (arith, halves_long)) (places_long places zones h ∙ sym halves_long) f

-- ---- loaded
-- the first i of them stand, the others as they were
abbrev pub LoadedTo : ℕ → List ℕ → List ℕ → List ℕ → Type 0
LoadedTo i s before after = after ≡ row_in (replicate i 2) s 8 ++ drop i before

pub loaded_none : (s out : List ℕ) → LoadedTo 0 s out out
unfolding row_in
loaded_none s out = refl

-- one place more
row_next : (s : List ℕ) (i : ℕ) → row_in (replicate (i + 1) 2) s 8 ≡ row_in (replicate i 2) s 8 ++ le 2 s (8 + 2 * i) ∷ []
unfolding row_in
row_next s i =
    ap (λ (ws : List ℕ). row_in ws s 8) (sym (replicate-append-replicate i 1 2)) ∙ in_parts (replicate i 2) (replicate 1 2) s 8
    ∙ ap (λ (w : ℕ). row_in (replicate i 2) s 8 ++ le 2 s (8 + w) ∷ []) (halves_wide i)

pub loaded_next : (s before after : List ℕ) (i : ℕ) → LoadedTo i s before after → i < length before → (v : ℕ) → v ≡ le 2 s (8 + 2 * i) → LoadedTo (i + 1) s before (set after i v)
loaded_next s before after i c h v e =
    ap (λ (l : List ℕ). set l i v) (c ∙ ap (λ (b : List ℕ). row_in (replicate i 2) s 8 ++ b) (drop-cons before i 0 h))
    ∙ set_at (row_in (replicate i 2) s 8) (get_or before i 0) (drop (suc i) before) v i (in_long (replicate i 2) s 8 ∙ length-replicate i 2)
    ∙ sym (append_snoc (row_in (replicate i 2) s 8) v (drop (suc i) before))
    ∙ ap (λ (x : ℕ). (row_in (replicate i 2) s 8 ++ x ∷ []) ++ drop (suc i) before) e
    ∙ ap₂ (λ (a : List ℕ) (j : ℕ). a ++ drop j before) (sym (row_next s i)) (sym (add-one i))

pub loaded_all : (s before after : List ℕ) (i : ℕ) → LoadedTo i s before after → i ≤ length before → length before ≤ i → after ≡ row_in (replicate (length before) 2) s 8
loaded_all s before after i c a b =
    let e : i ≡ length before = omega arith in
    c ∙ ap₂ (λ (j : ℕ) (l : List ℕ). row_in (replicate j 2) s 8 ++ l) e (drop_of_length-le before b) ∙ append-nil (row_in (replicate (length before) 2) s 8)
