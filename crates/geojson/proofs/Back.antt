-- Reading gives back what the text was made of: every number, every position, every list, every map.
-- Assumes nothing.
use Prim.Native.Nat.{ℕ, zero, suc, ◌+◌, ◌-◌, ◌*◌, ◌<◌, ◌/◌, ◌%◌}
use native.Mathlib.Nat.{not-suc-le-zero}
use native.Mathlib.Omega.{arith}
use mathlib.Core.Path.{◌≡◌, refl, ap, ap₂, ◌∙◌}
use mathlib.Core.Bool.{Bool, true, false, cond, false≢true}
use mathlib.Core.List.{List, [], ◌∷◌, ◌++◌, append_assoc}
use mathlib.Core.Option.{Option, none, some}
use borrow.Author.Tests.{ltb-true, ltb-false, leb-true, le-leb, eq-eqb, ne_eqb}
use lib.Dec.{ltb, leb}
use lib.ListN.{length, length-append}
use lib.IntN.{ℤ, pos, negsuc, neg_ℤ}
use Rattle.basics.specs.Truth.{and_i, and_l}
use Rattle.plane.specs.declared.I32Point.{I32Point}
use Rattle.plane.specs.Places.{point}
use Rattle.geojson.specs.Ascii.{ascii}
use Rattle.geojson.specs.Decimals.{last_digit, digits_by, digits, places, hundred_thousandths, decimal}
use Rattle.geojson.specs.Text.{others, array, position_text, ring_text, polygon_text, head_text, tail_text, map_text}
use Rattle.geojson.specs.Reading.{
  Reader,
  ◌onto◌,
  passed,
  is_digit,
  begins_with_digit,
  all_digits,
  k_digits,
  read_point,
  read_size,
  read_signed,
  read_decimal,
  read_position,
  read_others,
  in_front,
  read_elements,
  closed_or,
  read_array,
  nothing_behind,
  read_map,
}

-- ---- bytes that are there
pub passed_back : (t s : List ℕ) → passed t (t ++ s) ≡ some s
unfolding passed
passed_back [] s = refl
passed_back (b ∷ t) s = rw (eq-eqb b b refl) (passed_back t s)

-- ---- digits
digit_is : (n : ℕ) → is_digit (48 + n % 10) ≡ true
digit_is n = and_i (leb 48 (48 + n % 10)) (leb (48 + n % 10) 57) (le-leb 48 (48 + n % 10) (omega arith)) (le-leb (48 + n % 10) 57 (omega arith))

-- a last digit is read behind the others
module _ (n : ℕ) (s : List ℕ) where
  all_last : (m : ℕ) → 10 * m + n % 10 ≡ n → all_digits m (last_digit n ++ s) ≡ all_digits n s
  unfolding all_digits
  all_last m e =
      let same : 10 * m + (48 + n % 10 - 48) ≡ n = omega arith in
      rw (digit_is n) (ap (λ (k : ℕ). all_digits k s) same)

  k_last : (k m r : ℕ) → 10 * m + n % 10 ≡ r → k_digits (suc k) m (last_digit n ++ s) ≡ k_digits k r s
  unfolding k_digits
  k_last k m r e =
      let same : 10 * m + (48 + n % 10 - 48) ≡ r = omega arith in
      rw (digit_is n) (ap (λ (j : ℕ). k_digits k j s) same)

all_back : (f n : ℕ) (s : List ℕ) → n < f → all_digits 0 (digits_by f n ++ s) ≡ all_digits n s
unfolding digits_by
all_back zero n s h = absurd (not-suc-le-zero h)
all_back (suc f) n s h = go (ltb n 10) refl (all_back f (n / 10) (last_digit n ++ s))
  where
    go : (t : Bool) → ltb n 10 ≡ t → (n / 10 < f → all_digits 0 (digits_by f (n / 10) ++ (last_digit n ++ s)) ≡ all_digits (n / 10) (last_digit n ++ s))
        → all_digits 0 (cond t (last_digit n) (digits_by f (n / 10) ++ last_digit n) ++ s) ≡ all_digits n s
    go true e before = all_last n s 0 (omega (arith, ltb-true n 10 e))
    go false e before =
        let low = ltb-false n 10 e in
        ap (all_digits 0) (append_assoc (digits_by f (n / 10)) (last_digit n) s)
        ∙ before (omega arith)
        ∙ all_last n s (n / 10) (omega arith)

begins : (f n : ℕ) (s : List ℕ) → n < f → begins_with_digit (digits_by f n ++ s) ≡ true
unfolding digits_by
begins zero n s h = absurd (not-suc-le-zero h)
begins (suc f) n s h = go (ltb n 10) refl (begins f (n / 10) (last_digit n ++ s))
  where
    go : (t : Bool) → ltb n 10 ≡ t → (n / 10 < f → begins_with_digit (digits_by f (n / 10) ++ (last_digit n ++ s)) ≡ true)
        → begins_with_digit (cond t (last_digit n) (digits_by f (n / 10) ++ last_digit n) ++ s) ≡ true
    go true e before = digit_is n
    go false e before =
        let low = ltb-false n 10 e in
        ap begins_with_digit (append_assoc (digits_by f (n / 10)) (last_digit n) s) ∙ before (omega arith)

-- 10 ^ k, by one factor after the other
abbrev pub unit : ℕ → ℕ
unit zero = 1
unit (suc k) = 10 * unit k

places_back : (k j n m : ℕ) (s : List ℕ) → n < unit k → k_digits (k + j) m (places k n ++ s) ≡ k_digits j (m * unit k + n) s
unfolding places
places_back zero j n m s h =
    let here : 0 + j ≡ j = omega arith in
    let same : m ≡ m * 1 + n = omega arith in
    ap₂ (λ (a b : ℕ). k_digits a b s) here same
places_back (suc k) j n m s h =
    let up : suc k + j ≡ k + suc j = omega arith in
    ap₂ (λ (a : ℕ) (l : List ℕ). k_digits a m l) up (append_assoc (places k (n / 10)) (last_digit n) s)
    ∙ places_back k (suc j) (n / 10) m (last_digit n ++ s) (omega arith)
    ∙ k_last n s j (m * unit k + n / 10) (m * unit (suc k) + n) (omega arith)

-- ---- a number of hundred-thousandths
point_ends : (n : ℕ) (s : List ℕ) → all_digits n (ascii "." ++ s) ≡ (n, ascii "." ++ s)
unfolding all_digits
point_ends n s = refl

joined : (n : ℕ) (s : List ℕ) → k_digits 5 (n / 100_000) (places 5 (n % 100_000) ++ s) ≡ some (n, s)
unfolding k_digits
joined n s =
    let small : n % 100_000 < 100_000 = omega arith in
    let same : n / 100_000 * 100_000 + n % 100_000 ≡ n = omega arith in
    places_back 5 0 (n % 100_000) (n / 100_000) s small ∙ ap (λ (k : ℕ). some (k, s)) same

-- the text, opened before what stands behind it
opened : (n : ℕ) (s : List ℕ) → hundred_thousandths n ++ s ≡ digits (n / 100_000) ++ (ascii "." ++ (places 5 (n % 100_000) ++ s))
unfolding hundred_thousandths
opened n s = append_assoc (digits (n / 100_000) ++ ascii ".") (places 5 (n % 100_000)) s ∙ append_assoc (digits (n / 100_000)) (ascii ".") (places 5 (n % 100_000) ++ s)

begins_size : (n : ℕ) (s : List ℕ) → begins_with_digit (hundred_thousandths n ++ s) ≡ true
unfolding digits
begins_size n s =
    ap begins_with_digit (opened n s) ∙ begins (suc (n / 100_000)) (n / 100_000) (ascii "." ++ (places 5 (n % 100_000) ++ s)) (omega arith)

whole_back : (n : ℕ) (s : List ℕ) → all_digits 0 (hundred_thousandths n ++ s) ≡ (n / 100_000, ascii "." ++ (places 5 (n % 100_000) ++ s))
unfolding digits
whole_back n s =
    let rest = ascii "." ++ (places 5 (n % 100_000) ++ s) in
    ap (all_digits 0) (opened n s)
    ∙ all_back (suc (n / 100_000)) (n / 100_000) rest (omega arith)
    ∙ point_ends (n / 100_000) (places 5 (n % 100_000) ++ s)

size_back : (n : ℕ) (s : List ℕ) → read_size (hundred_thousandths n ++ s) ≡ some (n, s)
unfolding read_size read_point
size_back n s =
    ap₂ (λ (t : Bool) (w : ℕ × List ℕ). cond t (read_point w) none) (begins_size n s) (whole_back n s)
    ∙ ap (λ o. o onto λ t. k_digits 5 (n / 100_000) t) (passed_back (ascii ".") (places 5 (n % 100_000) ++ s))
    ∙ joined n s

-- ---- a signed one
no_minus : (s : List ℕ) → begins_with_digit s ≡ true → passed (ascii "-") s ≡ none
unfolding passed
no_minus [] h = absurd (false≢true h)
no_minus (b ∷ s) h =
    let low = leb-true 48 b (and_l (leb 48 b) (leb b 57) h) in
    rw (ne_eqb b 45 (λ (e : b ≡ 45). omega arith))

pub decimal_back : (x : ℤ) (rest : List ℕ) → read_decimal (decimal x ++ rest) ≡ some (x, rest)
unfolding decimal read_decimal read_signed
decimal_back (pos n) rest =
    ap (λ o. read_signed o (hundred_thousandths n ++ rest)) (no_minus (hundred_thousandths n ++ rest) (begins_size n rest))
    ∙ ap (λ o. o onto λ k. some (pos k.0, k.1)) (size_back n rest)
decimal_back (negsuc n) rest =
    ap (λ o. read_signed o (ascii "-" ++ (hundred_thousandths (suc n) ++ rest))) (passed_back (ascii "-") (hundred_thousandths (suc n) ++ rest))
    ∙ ap (λ o. o onto λ k. some (neg_ℤ (pos k.0), k.1)) (size_back (suc n) rest)

-- ---- a position
abbrev after_y : ℤ → Option (ℤ × List ℕ) → Option (I32Point × List ℕ)
after_y x o = o onto λ y. passed (ascii "]") y.1 onto λ v. some (point x y.0, v)

abbrev after_x : Option (ℤ × List ℕ) → Option (I32Point × List ℕ)
after_x o = o onto λ x. passed (ascii ",") x.1 onto λ u. after_y x.0 (read_decimal u)

opened_position : (q : I32Point) (s : List ℕ)
    → position_text q ++ s ≡ ascii "[" ++ (decimal q.x ++ (ascii "," ++ (decimal q.y ++ (ascii "]" ++ s))))
unfolding position_text
opened_position q s = simp append_assoc

pub position_back : (q : I32Point) (rest : List ℕ) → read_position (position_text q ++ rest) ≡ some (q, rest)
unfolding read_position passed
position_back q rest =
    let last = ascii "]" ++ rest in
    let second = ascii "," ++ (decimal q.y ++ last) in
    ap read_position (opened_position q rest) ∙ ap after_x (decimal_back q.x second) ∙ ap (after_y q.x) (decimal_back q.y last)

-- ---- an array, where each element begins with a bracket and is read back in front of any text
abbrev pub Bracketed : {A : Type 0} → (A → List ℕ) → Type 0
Bracketed {A} f = (a : A) → (t : List ℕ) × (f a ≡ ascii "[" ++ t)

abbrev pub ReadsBack : {A : Type 0} → (A → List ℕ) → Reader A → Type 0
ReadsBack {A} f read = (a : A) (rest : List ℕ) → read (f a ++ rest) ≡ some (a, rest)

module _ {A : Type 0} (f : A → List ℕ) (read : Reader A) (back : ReadsBack f read) (opens : Bracketed f) where
  -- with a first element
  cons_back : (a : A) (more : List A) (n : ℕ) (s : List ℕ) → read_others read n (others f more ++ s) ≡ some (more, s)
      → (read (f a ++ (others f more ++ s)) onto λ b. in_front b.0 (read_others read n b.1)) ≡ some (a ∷ more, s)
  cons_back a more n s h =
      ap (λ o. o onto λ b. in_front b.0 (read_others read n b.1)) (back a (others f more ++ s))
      ∙ ap (in_front a) h

  others_back : (l : List A) (n : ℕ) (s : List ℕ) → length l < n → read_others read n (others f l ++ s) ≡ some (l, s)
  unfolding others read_others passed
  others_back l zero s h = absurd (not-suc-le-zero h)
  others_back [] (suc n) s h = refl
  others_back (a ∷ l) (suc n) s h =
      ap (λ t. read t onto λ b. in_front b.0 (read_others read n b.1)) (append_assoc (f a) (others f l) s)
      ∙ cons_back a l n s (others_back l n s (omega arith))

  -- each element takes a byte
  enough : (l : List A) (s : List ℕ) → length l < length (others f l ++ s)
  unfolding others
  enough [] s = omega arith
  enough (a ∷ l) s = omega (arith, enough l s, length-append (f a ++ others f l) s, length-append (f a) (others f l), length-append (others f l) s)

  elements_back : (a : A) (l : List A) (s : List ℕ) → read_elements read (f a ++ (others f l ++ s)) ≡ some (a ∷ l, s)
  unfolding read_elements
  elements_back a l s =
      ap (λ o. o onto λ b. in_front b.0 (read_others read (length b.1) b.1)) (back a (others f l ++ s))
      ∙ ap (in_front a) (others_back l (length (others f l ++ s)) s (enough l s))

  -- no bracket closes at once
  not_closed : (a : A) (s : List ℕ) → passed (ascii "]") (f a ++ s) ≡ none
  unfolding passed
  not_closed a s = ap (λ t. passed (ascii "]") (t ++ s)) (opens a).1

  pub array_back : ReadsBack (array f) (read_array read)
  unfolding array read_array passed
  array_back [] rest = refl
  array_back (a ∷ l) rest =
      let split = append_assoc (f a) (others f l) rest in
      ap (λ t. closed_or (passed (ascii "]") t) (read_elements read t)) split
      ∙ ap (λ o. closed_or o (read_elements read (f a ++ (others f l ++ rest)))) (not_closed a (others f l ++ rest))
      ∙ elements_back a l rest

  pub array_opens : Bracketed (array f)
  unfolding array
  array_opens [] = (ascii "]", refl)
  array_opens (a ∷ l) = (f a ++ others f l, refl)

position_opens : Bracketed position_text
unfolding position_text
position_opens q = (decimal q.x ++ ascii "," ++ decimal q.y ++ ascii "]", refl)

pub ring_back : ReadsBack ring_text (read_array read_position)
ring_back = array_back position_text read_position position_back position_opens

pub polygon_back : ReadsBack polygon_text (read_array (read_array read_position))
polygon_back = array_back ring_text (read_array read_position) ring_back (array_opens position_text read_position position_back position_opens)

-- ---- the map: every one
pub map_back : (z : List (List (List I32Point))) → read_map (map_text z) ≡ some z
unfolding read_map map_text
map_back z =
    let polygons = read_array (read_array (read_array read_position)) in
    let opens = array_opens ring_text (read_array read_position) ring_back (array_opens position_text read_position position_back position_opens) in
    ap (λ o. o onto λ t. polygons t onto λ m. passed tail_text m.1 onto λ u. nothing_behind (m.0, u))
    (ap (passed head_text) (append_assoc head_text (array polygon_text z) tail_text) ∙ passed_back head_text (array polygon_text z ++ tail_text))
    ∙ ap (λ o. o onto λ m. passed tail_text m.1 onto λ u. nothing_behind (m.0, u))
    (array_back polygon_text (read_array (read_array read_position)) polygon_back opens z tail_text)
    ∙ ap (λ o. o onto λ u. nothing_behind (z, u)) (passed_back tail_text [])

-- so two maps with the same text are one
pub one_map : (z z' : List (List (List I32Point))) → map_text z ≡ map_text z' → z ≡ z'
one_map z z' e = let h = map_back z in let h' = map_back z' in let k = ap read_map e in cc
