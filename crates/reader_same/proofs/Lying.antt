-- What lies in a list from a place on, and how it is read there. Nothing here need be believed.
-- Assumes nothing.
use Prim.Native.Nat.{ℕ, ◌+◌, ◌≤◌, ◌<◌}
use native.Mathlib.Omega.{arith}
use mathlib.Core.Path.{◌≡◌, refl, sym, ap, ap₂, ◌∙◌}
use mathlib.Core.List.{List, [], ◌∷◌, ◌++◌, append_assoc}
use lib.ListN.{length, get_or, take, drop, length-append, take-append-drop, get_or-append}
use lib.Seq.{get_or-append-add}

-- ys lies in xs from that place on
pub record Lies {A : Type 0} (xs : List A) (at : ℕ) (ys : List A) : Type 0 where
  pub before : List A
  pub after : List A
  pub is : xs ≡ before ++ (ys ++ after)
  pub place : length before ≡ at

module _ {A : Type 0} (xs : List A) where
  -- a list that another begins with
  pub begins : (n : ℕ) (ys : List A) → take n xs ≡ ys → Lies xs 0 ys
  begins n ys e = record { before = []; after = drop n xs; is = sym (take-append-drop n xs) ∙ ap (λ (l : List A). l ++ drop n xs) e; place = refl }

  module _ (at : ℕ) where
    -- of two parts the first, and the second
    pub lies_left : (ys zs : List A) → Lies xs at (ys ++ zs) → Lies xs at ys
    lies_left ys zs w = record { before = w.before; after = zs ++ w.after; is = w.is ∙ ap (λ (l : List A). w.before ++ l) (append_assoc ys zs w.after); place = w.place }

    pub lies_right : (ys zs : List A) → Lies xs at (ys ++ zs) → Lies xs (at + length ys) zs
    lies_right ys zs w =
        record {
          before = w.before ++ ys;
          after = w.after;
          is = w.is ∙ ap (λ (l : List A). w.before ++ l) (append_assoc ys zs w.after) ∙ sym (append_assoc w.before ys (zs ++ w.after));
          place = length-append w.before ys ∙ ap (λ (n : ℕ). n + length ys) w.place;
        }

    -- its elements
    pub lies_nth : (d : A) (ys : List A) → Lies xs at ys → (n to : ℕ) → n < length ys → at + n ≡ to → get_or xs to d ≡ get_or ys n d
    lies_nth d ys w n to h e =
        let f : to ≡ length w.before + n = omega (arith, w.place) in
        ap₂ (λ (l : List A) (j : ℕ). get_or l j d) w.is f ∙ get_or-append-add w.before (ys ++ w.after) n d ∙ get_or-append ys w.after d n h

    -- its first element, and the others
    pub lies_head : (d y : A) (ys : List A) → Lies xs at (y ∷ ys) → get_or xs at d ≡ y
    lies_head d y ys w = lies_nth d (y ∷ ys) w 0 at (omega arith) (omega arith)

    pub lies_tail : (y : A) (ys : List A) → Lies xs at (y ∷ ys) → Lies xs (at + 1) ys
    lies_tail y ys w = lies_right (y ∷ []) ys w

    -- all of it lies in the list
    pub lies_within : (ys : List A) → Lies xs at ys → at + length ys ≤ length xs
    lies_within ys w =
        let e : length xs ≡ length w.before + (length ys + length w.after) = ap length w.is ∙ length-append w.before (ys ++ w.after) ∙ ap (λ (n : ℕ). length w.before + n) (length-append ys w.after) in
        omega (arith, e, w.place)

  -- at a place that was worked out otherwise
  pub lies_to : (at to : ℕ) (ys : List A) → Lies xs at ys → at ≡ to → Lies xs to ys
  lies_to at to ys w e = record { before = w.before; after = w.after; is = w.is; place = w.place ∙ e }
