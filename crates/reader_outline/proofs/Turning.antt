-- Points turned round in place: the two ends of what is left are exchanged, until at most one point is left.
-- Assumes nothing.
use Prim.Native.Nat.{ℕ, suc, ◌+◌, ◌-◌, ◌/◌, ◌≤◌, ◌<◌}
use native.Mathlib.Omega.{arith}
use mathlib.Core.Path.{◌≡◌, refl, sym, ap, ap₂, ◌∙◌}
use mathlib.Core.Bool.{Bool, true, false}
use mathlib.Core.List.{List, [], ◌∷◌, ◌++◌, reverse, append_assoc, reverse-append, reverse-cons}
use lib.ListN.{length, take, drop, set, get_or, length-set, length-append, length-drop, length-reverse, take-append-drop}
use lib.Seq.{take_at, drop_at, set_at, split_at, append_snoc, length-take-le, get_or-drop}
use lib.Dec.{eqb}
use borrow.Author.Tests.{eqb-true, eqb-false}
use mathlib.Core.Logic.{◌≢◌}
use Rattle.plane.specs.declared.I32Point.{I32Point}
use Rattle.plane.specs.Lines.{origin}
use Rattle.reader_outline.specs.Steps.{turned_in}

abbrev P : Type 0
P = I32Point

-- what lies in front, what is turned, what lies behind
turned_parts : (a m c : List P) (i j : ℕ) → length a ≡ i → i + length m ≡ j → turned_in (a ++ (m ++ c)) i j ≡ a ++ (reverse m ++ c)
unfolding turned_in
turned_parts a m c i j f g =
    let h : length (a ++ m) ≡ j = omega (arith, f, g, length-append a m) in
    let e : a ++ (m ++ c) ≡ (a ++ m) ++ c = sym (append_assoc a m c) in
    ap₂ (λ (u v : List P). u ++ v) (take_at a (m ++ c) i f)
    (ap₂ (λ (u v : List P). reverse u ++ v) (ap (λ (l : List P). drop i (take j l)) e ∙ ap (drop i) (take_at (a ++ m) c j h) ∙ drop_at a m i f) (ap (drop j) e ∙ drop_at (a ++ m) c j h))

-- a list with its ends, turned round
ends_turned : (p : P) (m : List P) (q : P) → reverse (p ∷ (m ++ (q ∷ []))) ≡ q ∷ (reverse m ++ (p ∷ []))
ends_turned p m q = reverse-cons p (m ++ (q ∷ [])) ∙ ap (λ (l : List P). l ++ (p ∷ [])) (reverse-append m (q ∷ []))

-- the two ends exchanged
module _ (a : List P) (p : P) (m : List P) (q : P) (c : List P) (i j : ℕ) (f : length a ≡ i) (g : suc i + length m ≡ j) where
  exchanged : set (set (a ++ (p ∷ (m ++ (q ∷ c)))) i q) j p ≡ (a ++ (q ∷ [])) ++ (m ++ (p ∷ c))
  exchanged =
      let h : length ((a ++ (q ∷ [])) ++ m) ≡ j = omega (arith, f, g, length-append (a ++ (q ∷ [])) m, length-append a (q ∷ [])) in
      ap (λ (l : List P). set l j p) (set_at a p (m ++ (q ∷ c)) q i f ∙ sym (append_snoc a q (m ++ (q ∷ c))) ∙ sym (append_assoc (a ++ (q ∷ [])) m (q ∷ c)))
      ∙ set_at ((a ++ (q ∷ [])) ++ m) q c p j h
      ∙ append_assoc (a ++ (q ∷ [])) m (p ∷ c)

  whole : turned_in (a ++ (p ∷ (m ++ (q ∷ c)))) i (j + 1) ≡ a ++ (q ∷ (reverse m ++ (p ∷ c)))
  whole =
      let n : i + length (p ∷ (m ++ (q ∷ []))) ≡ j + 1 = omega (arith, g, length-append m (q ∷ [])) in
      ap (λ (l : List P). turned_in (a ++ (p ∷ l)) i (j + 1)) (sym (append_snoc m q c))
      ∙ turned_parts a (p ∷ (m ++ (q ∷ []))) c i (j + 1) f n
      ∙ ap (λ (l : List P). a ++ (l ++ c)) (ends_turned p m q)
      ∙ ap (λ (l : List P). a ++ (q ∷ l)) (append_snoc (reverse m) p c)

  inner : turned_in ((a ++ (q ∷ [])) ++ (m ++ (p ∷ c))) (i + 1) j ≡ a ++ (q ∷ (reverse m ++ (p ∷ c)))
  inner =
      turned_parts (a ++ (q ∷ [])) m (p ∷ c) (i + 1) j (omega (arith, f, length-append a (q ∷ []))) (omega (arith, g))
      ∙ append_snoc a q (reverse m ++ (p ∷ c))

  step : turned_in (set (set (a ++ (p ∷ (m ++ (q ∷ c)))) i q) j p) (i + 1) j ≡ turned_in (a ++ (p ∷ (m ++ (q ∷ c)))) i (j + 1)
  step = ap (λ (l : List P). turned_in l (i + 1) j) exchanged ∙ inner ∙ sym whole

-- places i and j of a list, and what lies around them
parted : (l : List P) (i j : ℕ) → i < j → j < length l
    → l ≡ take i l ++ (get_or l i origin ∷ (take (j - suc i) (drop (suc i) l) ++ (get_or l j origin ∷ drop (suc (j - suc i)) (drop (suc i) l))))
parted l i j h k =
    let n : suc i + (j - suc i) ≡ j = omega arith in
    split_at l i origin (omega arith)
    ∙ ap (λ (r : List P). take i l ++ (get_or l i origin ∷ r))
    (split_at (drop (suc i) l) (j - suc i) origin (omega (arith, length-drop (suc i) l))
    ∙ ap (λ (x : P). take (j - suc i) (drop (suc i) l) ++ (x ∷ drop (suc (j - suc i)) (drop (suc i) l))) (get_or-drop (suc i) l (j - suc i) origin ∙ ap (λ (t : ℕ). get_or l t origin) n))

-- one exchange
pub turn_on : (l : List P) (i j : ℕ) → i < j → j < length l → turned_in (set (set l i (get_or l j origin)) j (get_or l i origin)) (i + 1) j ≡ turned_in l i (j + 1)
turn_on l i j h k =
    let m = take (j - suc i) (drop (suc i) l) in
    let c = drop (suc (j - suc i)) (drop (suc i) l) in
    let e = parted l i j h k in
    let n : suc i + length m ≡ j = omega (arith, h, k, length-take-le (j - suc i) (drop (suc i) l) (omega (arith, length-drop (suc i) l)), length-drop (suc i) l) in
    ap (λ (x : List P). turned_in (set (set x i (get_or l j origin)) j (get_or l i origin)) (i + 1) j) e
    ∙ step (take i l) (get_or l i origin) m (get_or l j origin) c i j (length-take-le i l (omega arith)) n
    ∙ sym (ap (λ (x : List P). turned_in x i (j + 1)) e)

-- nothing left
pub turn_end : (l : List P) (i j : ℕ) → i ≤ j → j ≤ i + 1 → j ≤ length l → l ≡ turned_in l i j
turn_end l i j h k n = go (eqb i j) refl
  where
    none : i ≡ j → l ≡ turned_in l i j
    none e =
        let f : length (take i l) ≡ i = length-take-le i l (omega arith) in
        let g : i + length {A = P} [] ≡ j = omega arith in
        sym (take-append-drop i l) ∙ sym (turned_parts (take i l) [] (drop i l) i j f g) ∙ ap (λ (x : List P). turned_in x i j) (take-append-drop i l)

    one : j ≡ suc i → l ≡ turned_in l i j
    one e =
        let x = get_or l i origin in
        let s : l ≡ take i l ++ (x ∷ drop (suc i) l) = split_at l i origin (omega arith) in
        let f : length (take i l) ≡ i = length-take-le i l (omega arith) in
        let g : i + length (x ∷ []) ≡ j = omega arith in
        s ∙ sym (turned_parts (take i l) (x ∷ []) (drop (suc i) l) i j f g) ∙ ap (λ (y : List P). turned_in y i j) (sym s)

    go : (t : Bool) → eqb i j ≡ t → l ≡ turned_in l i j
    go true e = none (eqb-true i j e)
    go false e = let ne : i ≢ j = eqb-false i j e in one (omega arith)

-- ---- the loop
pub record Turning (l₀ l : List P) (from to i j : ℕ) : Type 0 where
  pub up : i ≤ j
  pub room : j ≤ length l
  pub all : turned_in l i j ≡ turned_in l₀ from to

pub turning_start : (l : List P) (from to : ℕ) → from ≤ to → to ≤ length l → Turning l l from to (from + 0) (to - 0)
turning_start l from to h k =
    let a : from + 0 ≡ from = omega arith in
    let b : to - 0 ≡ to = omega arith in
    rw (a, b) (record { up = h; room = k; all = refl })

module _ (l₀ l : List P) (from to i j : ℕ) (t : Turning l₀ l from to i j) where
  -- p at i and q at the last place are exchanged
  turning_on : i + 1 < j → (p q : P) → p ≡ get_or l i origin → q ≡ get_or l (j - 1) origin → (u v : List P) → u ≡ set l i q → v ≡ set u (j - 1) p → Turning l₀ v from to (i + 1) (j - 1)
  turning_on h p q e f u v g k =
      let m : j - 1 + 1 ≡ j = omega arith in
      let w : v ≡ set (set l i (get_or l (j - 1) origin)) (j - 1) (get_or l i origin) = k ∙ ap₂ (λ (x : List P) (y : P). set x (j - 1) y) (g ∙ ap (set l i) f) e in
      record {
        up = omega arith;
        room = omega (arith, ap length k, ap length g, length-set u (j - 1) p, length-set l i q, t.room);
        all =
            ap (λ (x : List P). turned_in x (i + 1) (j - 1)) w
            ∙ turn_on l i (j - 1) (omega arith) (omega (arith, t.room))
            ∙ ap (turned_in l i) m
            ∙ t.all;
      }

  turning_end : j ≤ i + 1 → l ≡ turned_in l₀ from to
  turning_end h = turn_end l i j t.up h t.room ∙ t.all

-- exchange after exchange
module _ (l₀ l : List P) (from to d : ℕ) (h : from ≤ to) (t : Turning l₀ l from to (from + d) (to - d)) where
  pub turning_next : d < (to - from) / 2 → (p q : P) → p ≡ get_or l (from + d) origin → q ≡ get_or l (to - d - 1) origin → (u v : List P) → u ≡ set l (from + d) q → v ≡ set u (to - d - 1) p → Turning l₀ v from to (from + (d + 1)) (to - (d + 1))
  turning_next k p q e f u v g m =
      let a : from + (d + 1) ≡ from + d + 1 = omega arith in
      let b : to - (d + 1) ≡ to - d - 1 = omega arith in
      rw (a, b) (turning_on l₀ l from to (from + d) (to - d) t (omega (arith, k, h)) p q e f u v g m)

  pub turning_done : (to - from) / 2 ≤ d → l ≡ turned_in l₀ from to
  turning_done k = turning_end l₀ l from to (from + d) (to - d) t (omega (arith, k, h))

-- ---- what was turned, by what lies in front of it
pub turned_behind : (l a m : List P) (i j : ℕ) → length a ≡ i → take j l ≡ a ++ m → i + length m ≡ j → j ≤ length l → take j (turned_in l i j) ≡ a ++ reverse m
turned_behind l a m i j f e g h =
    let r : length (a ++ reverse m) ≡ j = omega (arith, f, g, length-append a (reverse m), length-reverse m) in
    ap (λ (x : List P). take j (turned_in x i j)) (sym (take-append-drop j l) ∙ ap (λ (x : List P). x ++ drop j l) e ∙ append_assoc a m (drop j l))
    ∙ ap (take j) (turned_parts a m (drop j l) i j f g ∙ sym (append_assoc a (reverse m) (drop j l)))
    ∙ take_at (a ++ reverse m) (drop j l) j r
