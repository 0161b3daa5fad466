-- Legs strung together one after another, as the loop does it, are what the definition says; where a leg starts; and how a ring is closed.
-- Assumes nothing.
use Prim.Native.Nat.{ℕ, zero, suc, ◌+◌, ◌-◌, ◌*◌, ◌≤◌, ◌<◌}
use native.Mathlib.Omega.{arith}
use mathlib.Core.Path.{◌≡◌, refl, sym, ap, ap₂, ◌∙◌}
use mathlib.Core.Bool.{Bool, true, false, cond}
use mathlib.Core.List.{List, [], ◌∷◌, ◌++◌, append_assoc, append-nil}
use lib.ListN.{length, take, set, get_or, length-append}
use lib.Seq.{take-suc, take-suc-set, append_snoc}
use lib.IntN.{ℤ}
use Rattle.plane.specs.declared.I32Point.{I32Point}
use Rattle.plane.specs.Segment.{same_point}
use Rattle.plane.specs.Turns.{same_true}
use Rattle.plane.specs.Lines.{origin, first_of, last_from, last_of, last_append}
use Rattle.answer.specs.Answers.{ok, no}
use Rattle.shapes.specs.Outline.{after, legs_after, strung, closed}
use Rattle.reader_outline.specs.Held.{spots, points_in}
use Rattle.reader_outline.specs.Told.{few_enough, Keeps}
use Rattle.reader_outline.specs.Steps.{joined_on, legs_on, Starts}
use Rattle.reader_outline.proofs.Spots.{spots_room, points_length}
use Rattle.reader_outline.proofs.Filling.{fills, counted_over, keeps_none}

abbrev P : Type 0
P = I32Point

-- ---- the last position
last_after : (b : P) (l : List P) → last_from b (after b l) ≡ last_from b l
last_after b [] = refl
last_after b (c ∷ r) = go (same_point b c) refl
  where
    go : (t : Bool) → same_point b c ≡ t → last_from b (cond t r (c ∷ r)) ≡ last_from c r
    go true e = ap (λ (x : P). last_from x r) (same_true b c e)
    go false e = refl

last_on : (a : P) (r s : List P) → last_from a (r ++ s) ≡ last_from (last_from a r) s
last_on a [] s = refl
last_on a (b ∷ r) s = last_on b r s

-- ---- leg by leg
on_strung : (a : P) (r : List P) (ls : List (List P)) → legs_on (a ∷ r) ls ≡ (a ∷ r) ++ legs_after (last_from a r) ls
unfolding legs_on joined_on
on_strung a r [] = sym (append-nil (a ∷ r))
on_strung a r (l ∷ ls) =
    on_strung a (r ++ after (last_from a r) l) ls
    ∙ ap (λ (x : P). (a ∷ (r ++ after (last_from a r) l)) ++ legs_after x ls) (last_on a r (after (last_from a r) l) ∙ last_after (last_from a r) l)
    ∙ append_assoc (a ∷ r) (after (last_from a r) l) (legs_after (last_from (last_from a r) l) ls)

pub strung_is : (l : List P) (ls : List (List P)) → 0 < length l → legs_on [] (l ∷ ls) ≡ strung (l ∷ ls)
unfolding legs_on joined_on
strung_is [] ls h = absurd (omega arith)
strung_is (a ∷ r) ls h = on_strung a r ls

joined_longer : (p l : List P) → length p ≤ length (joined_on p l)
unfolding joined_on
joined_longer [] l = omega arith
joined_longer (a ∷ r) l = omega (arith, length-append (a ∷ r) (after (last_from a r) l))

pub legs_longer : (p : List P) (ls : List (List P)) → length p ≤ length (legs_on p ls)
unfolding legs_on
legs_longer p [] = omega arith
legs_longer p (l ∷ ls) = omega (arith, joined_longer p l, legs_longer (joined_on p l) ls)

-- ---- where a leg starts
joined_last : (a : List P) (q : P) (l : List P) → joined_on (a ++ (q ∷ [])) l ≡ a ++ (q ∷ []) ++ after q l
unfolding joined_on
joined_last [] q l = refl
joined_last (b ∷ a) q l = ap (λ (x : P). (b ∷ a) ++ (q ∷ []) ++ after x l) (last_append b a q [])

-- the first k points, and the last of them
last_of_law : (m : List ℤ) (k : ℕ) → 0 < k → 2 * k ≤ length m → points_in m k ≡ points_in m (k - 1) ++ (get_or (spots m) (k - 1) origin ∷ [])
unfolding points_in
last_of_law m k h n =
    let e : k ≡ suc (k - 1) = omega arith in
    ap (λ (i : ℕ). take i (spots m)) e ∙ take-suc (spots m) (k - 1) origin (omega (arith, spots_room k m n))

pub starts_none : (m : List ℤ) (k : ℕ) (e : P) → k ≡ 0 → Starts m k e 0
unfolding points_in joined_on
starts_none m k e z = record { within = omega arith; goes_on = λ t. rw z }

module _ (m : List ℤ) (k : ℕ) (h : 0 < k) (n : 2 * k ≤ length m) (q e : P) (f : q ≡ get_or (spots m) (k - 1) origin) where
  so_far : points_in m k ≡ points_in m (k - 1) ++ (q ∷ [])
  so_far = last_of_law m k h n ∙ ap (λ (x : P). points_in m (k - 1) ++ (x ∷ [])) (sym f)

  goes_on_by : (t r : List P) → after q (e ∷ t) ≡ r → points_in m (k - 1) ++ (q ∷ []) ++ r ≡ joined_on (points_in m k) (e ∷ t)
  goes_on_by t r g = sym (ap (λ (x : List P). joined_on x (e ∷ t)) so_far ∙ joined_last (points_in m (k - 1)) q (e ∷ t) ∙ ap (λ (x : List P). points_in m (k - 1) ++ (q ∷ []) ++ x) g)

  pub starts_same : same_point q e ≡ true → Starts m k e (k - 1)
  starts_same g = record {
    within = omega arith;
    goes_on = λ t.
        ap (λ (x : P). points_in m (k - 1) ++ (x ∷ t)) (sym (same_true q e g))
        ∙ sym (append_snoc (points_in m (k - 1)) q t)
        ∙ goes_on_by t t (ap (λ (b : Bool). cond b t (e ∷ t)) g);
  }

  pub starts_apart : same_point q e ≡ false → Starts m k e k
  starts_apart g = record {
    within = omega arith;
    goes_on = λ t.
        ap (λ (x : List P). x ++ (e ∷ t)) so_far
        ∙ goes_on_by t (e ∷ t) (ap (λ (b : Bool). cond b t (e ∷ t)) g);
  }

-- ---- the ring closed
first_of_law : (m : List ℤ) (k : ℕ) → 0 < k → first_of (points_in m k) ≡ get_or (spots m) 0 origin
unfolding points_in
first_of_law m k h = go k (spots m) h
  where
    go : (i : ℕ) (l : List P) → 0 < i → first_of (take i l) ≡ get_or l 0 origin
    go zero l h = absurd (omega arith)
    go (suc i) [] h = refl
    go (suc i) (a ∷ l) h = refl

last_is : (a : List P) (q : P) → last_of (a ++ (q ∷ [])) ≡ q
last_is [] q = refl
last_is (b ∷ a) q = last_append b a q []

closed_by : (l : List P) → 0 < length l → closed l ≡ cond (same_point (last_of l) (first_of l)) l (l ++ (first_of l ∷ []))
closed_by [] h = absurd (omega arith)
closed_by (a ∷ r) h = refl

pub closed_longer : (l : List P) → length l ≤ length (closed l)
closed_longer [] = omega arith
closed_longer (a ∷ r) = go (same_point (last_from a r) a)
  where
    go : (t : Bool) → length (a ∷ r) ≤ length (cond t (a ∷ r) (a ∷ r ++ (a ∷ [])))
    go true = omega arith
    go false = omega (arith, length-append (a ∷ r) (a ∷ []))

module _ (m : List ℤ) (k : ℕ) (h : 0 < k) (small : k ≤ 10_000) (size : length m ≡ 20_000) (a z : P) (f : a ≡ get_or (spots m) 0 origin) (g : z ≡ get_or (spots m) (k - 1) origin) where
  room : 2 * k ≤ length m
  room = omega (arith, small, size)

  closing : closed (points_in m k) ≡ cond (same_point z a) (points_in m k) (points_in m k ++ (a ∷ []))
  closing =
      let l = points_in m k in
      let e : first_of l ≡ a = first_of_law m k h ∙ sym f in
      let d : last_of l ≡ z = ap last_of (last_of_law m k h room) ∙ last_is (points_in m (k - 1)) (get_or (spots m) (k - 1) origin) ∙ sym g in
      closed_by l (omega (arith, h, points_length k m room))
      ∙ ap₂ (λ (x y : P). cond (same_point x y) l (l ++ (y ∷ []))) d e

  pub closed_already : same_point z a ≡ true → (ok k ≡ few_enough (closed (points_in m k))) × Keeps m (closed (points_in m k))
  closed_already s = fills m (closed (points_in m k)) k small size (sym (closing ∙ ap (λ (t : Bool). cond t (points_in m k) (points_in m k ++ (a ∷ []))) s))

  module _ (s : same_point z a ≡ false) where
    unclosed : closed (points_in m k) ≡ points_in m k ++ (a ∷ [])
    unclosed = closing ∙ ap (λ (t : Bool). cond t (points_in m k) (points_in m k ++ (a ∷ []))) s

    pub closed_over : k ≡ 10_000 → (w : List ℤ) → (no 48 ≡ few_enough (closed (points_in m k))) × Keeps w (closed (points_in m k))
    closed_over e w =
        let n : 10_000 < length (closed (points_in m k)) = omega (arith, e, ap length unclosed, length-append (points_in m k) (a ∷ []), points_length k m room) in
        (counted_over (closed (points_in m k)) n, keeps_none w (closed (points_in m k)) n)

    pub closed_now : k < 10_000 → (w : List ℤ) → length w ≡ length m → spots w ≡ set (spots m) k a → (ok (k + 1) ≡ few_enough (closed (points_in m k))) × Keeps w (closed (points_in m k))
    unfolding points_in
    closed_now l w n e =
        let p : k + 1 ≡ suc k = omega arith in
        let q : k < length (spots m) = omega (arith, spots_room (suc k) m (omega (arith, l, size))) in
        fills w (closed (points_in m k)) (k + 1) (omega (arith, l)) (n ∙ size)
        (ap₂ (λ (i : ℕ) (x : List P). take i x) p e ∙ take-suc-set (spots m) k a q ∙ sym unclosed)
