-- The text read: no code does this. Document 02: "Read by a definition of decimals (no new entry point), the text gives the same whole numbers."
-- A reader takes a value off the front of a text and says what stands behind it; `none` where the text has another form.
-- Assumes nothing.
use Rattle.std.specs.Prelude.{ℕ, zero, suc, ◌+◌, ◌-◌, ◌*◌, Bool, false, ◌&&◌, cond, List, [], ◌∷◌, leb, eqb, length, ℤ, pos, neg_ℤ}
use Rattle.std.proofs.Math.Option.{Option, none, some}
use Rattle.plane.specs.declared.I32Point.{I32Point}
use Rattle.plane.specs.Places.{point}
use Rattle.geojson.specs.Ascii.{ascii}
use Rattle.geojson.specs.Text.{head_text, tail_text}

abbrev pub Reader : Type 0 → Type 0
Reader A = List ℕ → Option (A × List ℕ)

-- one reader behind another
infixl 20 ◌onto◌
abbrev pub ◌onto◌ : {A B : Type 0} → Option A → (A → Option B) → Option B
none onto f = none
(some a) onto f = f a

-- what stands behind these bytes
unfoldable pub passed : List ℕ → List ℕ → Option (List ℕ)
passed [] s = some s
passed (b ∷ t) [] = none
passed (b ∷ t) (x ∷ s) = cond (eqb x b) (passed t s) none

-- ---- decimals
-- "0" is 48, "9" is 57
abbrev pub is_digit : ℕ → Bool
is_digit b = leb 48 b && leb b 57

abbrev pub begins_with_digit : List ℕ → Bool
begins_with_digit [] = false
begins_with_digit (b ∷ s) = is_digit b

-- n with one digit more
abbrev pub with_digit : ℕ → ℕ → ℕ
with_digit n b = 10 * n + (b - 48)

-- n with all the digits that stand in front
unfoldable pub all_digits : ℕ → List ℕ → ℕ × List ℕ
all_digits n [] = (n, [])
all_digits n (b ∷ s) = cond (is_digit b) (all_digits (with_digit n b) s) (n, b ∷ s)

-- n with k digits
unfoldable pub k_digits : ℕ → ℕ → Reader ℕ
k_digits zero n s = some (n, s)
k_digits (suc k) n [] = none
k_digits (suc k) n (b ∷ s) = cond (is_digit b) (k_digits k (with_digit n b) s) none

-- behind the digits of the whole part w: the point and five digits. Without the point they say how many hundred-thousandths it is
unfoldable pub read_point : ℕ × List ℕ → Option (ℕ × List ℕ)
read_point w = passed (ascii ".") w.1 onto λ s. k_digits 5 w.0 s

-- no sign, and at least one digit
unfoldable pub read_size : Reader ℕ
read_size s = cond (begins_with_digit s) (read_point (all_digits 0 s)) none

-- behind a minus, or without one
unfoldable pub read_signed : Option (List ℕ) → Reader ℤ
read_signed (some t) s = read_size t onto λ n. some (neg_ℤ (pos n.0), n.1)
read_signed none s = read_size s onto λ n. some (pos n.0, n.1)

unfoldable pub read_decimal : Reader ℤ
read_decimal s = read_signed (passed (ascii "-") s) s

-- ---- positions
unfoldable pub read_position : Reader I32Point
read_position s =
    passed (ascii "[") s
    onto (λ t. read_decimal t
    onto (λ x. passed (ascii ",") x.1
    onto (λ u. read_decimal u
    onto (λ y. passed (ascii "]") y.1
    onto (λ v. some (point x.0 y.0, v))))))

-- ---- arrays of what a reader reads
-- an element in front of the others
abbrev pub in_front : {A : Type 0} → A → Option (List A × List ℕ) → Option (List A × List ℕ)
in_front a none = none
in_front a (some r) = some (a ∷ r.0, r.1)

-- no element where the bracket closes, else what is read otherwise
abbrev pub closed_or : {A : Type 0} → Option (List ℕ) → Option (List A × List ℕ) → Option (List A × List ℕ)
closed_or (some t) r = some ([], t)
closed_or none r = r

module _ {A : Type 0} (read : Reader A) where
  -- behind an element: fewer than n others, each behind a comma
  unfoldable pub read_others : ℕ → Reader (List A)
  read_others zero s = none
  read_others (suc n) s =
      closed_or (passed (ascii "]") s)
      (passed (ascii ",") s onto λ t. read t onto λ a. in_front a.0 (read_others n a.1))

  -- there are fewer elements than bytes
  unfoldable pub read_elements : Reader (List A)
  read_elements s = read s onto λ a. in_front a.0 (read_others (length a.1) a.1)

  unfoldable pub read_array : Reader (List A)
  read_array s = passed (ascii "[") s onto λ t. closed_or (passed (ascii "]") t) (read_elements t)

-- ---- the whole text, and nothing behind it
abbrev pub nothing_behind : {A : Type 0} → A × List ℕ → Option A
nothing_behind (a, []) = some a
nothing_behind (a, b ∷ s) = none

unfoldable pub read_map : List ℕ → Option (List (List (List I32Point)))
read_map s =
    passed head_text s
    onto (λ t. read_array (read_array (read_array read_position)) t
    onto (λ z. passed tail_text z.1
    onto (λ u. nothing_behind (z.0, u))))
