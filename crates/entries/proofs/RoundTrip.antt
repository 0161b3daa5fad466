-- What the layout and the forms mean together: reading back gives what was written, writing what was read gives the same bytes, two entries of the same bytes are one, and bytes are an entry exactly where a formed entry has them. Nothing assumed.
-- Assumes nothing.
use Prim.Native.Nat.{ℕ, zero, suc, ◌+◌, ◌-◌, ◌≤◌, ◌<◌}
use native.Mathlib.Omega.{arith}
use mathlib.Core.Path.{◌≡◌, refl, sym, ap, ap₂, subst, ◌∙◌}
use mathlib.Core.Bool.{Bool, true, false, cond}
use mathlib.Core.List.{List, [], ◌∷◌, ◌++◌, append-nil}
use lib.ListN.{length, take, drop, get_or, replicate, length-drop, length-replicate, take-append-drop}
use lib.Seq.{take_at, take_all, drop_at, get_or_at, get_or-append-add, length-take-le}
use mir.Syntax.{w32}
use mir.Val.{to_z, of_z, SFits}
use mir.ValLaws.{to_z-of_z, of_z-to_z, of_z_fits, to_z-Fits}
use Rattle.basics.specs.Truth.{and_i, and_l, and_r}
use Rattle.plane.specs.declared.I32Point.{I32Point}
use Rattle.plane.specs.Places.{point}
use Rattle.fields.specs.Le.{le}
use Rattle.fields.specs.Stores.{unit}
use Rattle.fields.specs.Row.{row_wide, row_bytes, row_in, Held as InWidths, none, one}
use Rattle.fields.proofs.Join.{fits}
use Rattle.fields.proofs.Rows.{row_long, row_back, row_again}
use Rattle.answer.specs.Answers.{ok}
use Rattle.answer.specs.Checks.{at_most, below, same}
use Rattle.answer.proofs.CheckLaws.{eq_same, at_le, same_eq, below_lt}
use Rattle.answer.proofs.AnswersLaws.{need_met, need_inv, ok_inv}
use Rattle.entries.specs.Entry.{Entry, entry, unused, widths, entry_wide, places_of, numbers_of, bytes_of}
use Rattle.entries.specs.Forms.{all_below, all_different, placed, zones_form, refusal_form, formed}
use Rattle.entries.specs.Reading.{point_in, places_in, count_in, reason_in, entry_from, all_unused, of_forms, row_of_forms, entry_is, entry_of, Held}
use Rattle.entries.proofs.PlacesLaws.{in_long, places_long, place_at}
use Rattle.entries.proofs.ReadLaws.{entry_wide_law, row, halves, row_is, is_long, forms_all}

-- ---- what the forms tell of an entry's numbers
record Formed (places : ℕ) (e : Entry) : Type 0 where
  few : length e.zones ≤ places
  low : all_below e.zones ≡ true
  known : e.reason ≤ 46

none_low : (l : List ℕ) → length l ≡ 0 → all_below l ≡ true
unfolding all_below
none_low [] h = refl
none_low (z ∷ l) h = absurd (omega arith)

tells : (places : ℕ) (e : Entry) → formed places e ≡ true → Formed places e
unfolding formed zones_form refusal_form
tells places e h = go (same e.reason 0) (same_eq e.reason 0) h
  where
    go : (b : Bool) → (b ≡ true → e.reason ≡ 0) → cond b (zones_form places e.at e.zones) (refusal_form e.zones e.reason) ≡ true → Formed places e
    go true k h =
        let answer = k refl in
        let tests = and_r (placed e.at e.zones) _ (and_r (at_most (length e.zones) places) _ h) in
        record { few = at_le _ _ (and_l _ _ h); low = and_l _ (all_different e.zones) tests; known = omega arith }
    go false k h =
        let empty = same_eq (length e.zones) 0 (and_l _ _ h) in
        record { few = omega arith; low = none_low e.zones empty; known = at_le _ _ (and_r (same (length e.zones) 0) _ h) }

-- ---- places of two bytes: what a place may hold, and the places that are not used
each_low : (l : List ℕ) → all_below l ≡ true → (i : ℕ) → get_or l i unused < unit 2
unfolding all_below
each_low [] h i = omega arith
each_low (z ∷ l) h zero = let first = below_lt z unused (and_l _ _ h) in omega arith
each_low (z ∷ l) h (suc i) = each_low l (and_r (below z unused) _ h) i

in_front_law : (l ws ns : List ℕ) → ((i : ℕ) → i < length l → get_or l i 0 < unit 2) → InWidths ws ns → InWidths (replicate (length l) 2 ++ ws) (l ++ ns)
in_front_law [] ws ns f h = h
in_front_law (z ∷ l) ws ns f h = one (f 0 (omega arith)) (in_front_law l ws ns (λ i k. f (suc i) (omega arith)) h)

unused_all : (k : ℕ) → all_unused (replicate k unused) ≡ true
unfolding all_unused
unused_all zero = refl
unused_all (suc k) = and_i _ _ (eq_same unused unused refl) (unused_all k)

unused_are : (l : List ℕ) → all_unused l ≡ true → replicate (length l) unused ≡ l
unfolding all_unused
unused_are [] h = refl
unused_are (z ∷ l) h = ap₂ (λ (a : ℕ) (b : List ℕ). a ∷ b) (sym (same_eq z unused (and_l _ _ h))) (unused_are l (and_r (same z unused) _ h))

-- ---- a row of numbers: the entry that it is read as, and back
module _ (places x y : ℕ) (l : List ℕ) (c r : ℕ) (n : length l ≡ places) where
  abbrev numbers : List ℕ
  numbers = x ∷ y ∷ (l ++ c ∷ r ∷ [])

  in_places : places_in places numbers ≡ l
  in_places = take_at l (c ∷ r ∷ []) places n

  in_count : count_in places numbers ≡ c
  in_count =
      let at : places + 2 ≡ suc (suc places) = omega arith in
      ap (λ (k : ℕ). get_or numbers k 0) at ∙ get_or_at l c (r ∷ []) 0 places n

  in_reason : reason_in places numbers ≡ r
  in_reason =
      let at : places + 3 ≡ suc (suc (length l + 1)) = omega arith in
      ap (λ (k : ℕ). get_or numbers k 0) at ∙ get_or-append-add l (c ∷ r ∷ []) 1 0

  entry_in_law : entry_from places numbers ≡ entry (point (to_z w32 x) (to_z w32 y)) (take c l) r
  unfolding entry_from
  entry_in_law = ap₂ (entry (point_in numbers)) (ap₂ take in_count in_places) in_reason

  forms_in : row_of_forms places numbers ≡ of_forms places (point (to_z w32 x) (to_z w32 y)) l c r
  unfolding row_of_forms
  forms_in = ap₂ (λ (a : List ℕ) (k : ℕ). of_forms places (point_in numbers) a k (reason_in places numbers)) in_places in_count ∙ ap (of_forms places (point_in numbers) l c) in_reason

  -- the zones, and behind them what is not used, are all places
  places_again : c ≤ places → all_unused (drop c l) ≡ true → places_of places (take c l) ≡ l
  unfolding places_of
  places_again h u =
      let many : places - length (take c l) ≡ length (drop c l) = omega (arith, length-take-le c l (omega arith), length-drop c l) in
      ap (λ (k : ℕ). take c l ++ replicate k unused) many ∙ ap (λ (b : List ℕ). take c l ++ b) (unused_are (drop c l) u) ∙ take-append-drop c l

  entry_again : x < unit 4 → y < unit 4 → c ≤ places → all_unused (drop c l) ≡ true → numbers_of places (entry (point (to_z w32 x) (to_z w32 y)) (take c l) r) ≡ numbers
  unfolding numbers_of
  entry_again hx hy h u =
      ap₂ (λ (a b : ℕ). a ∷ b ∷ (places_of places (take c l) ++ length (take c l) ∷ r ∷ [])) (of_z-to_z w32 x (record { fits = hx })) (of_z-to_z w32 y (record { fits = hy }))
      ∙ ap₂ (λ (a : List ℕ) (k : ℕ). x ∷ y ∷ (a ++ k ∷ r ∷ [])) (places_again h u) (length-take-le c l (omega arith))

  numbers_again : x < unit 4 → y < unit 4 → row_of_forms places numbers ≡ true → numbers_of places (entry_from places numbers) ≡ numbers
  unfolding of_forms
  numbers_again hx hy f =
      let g = sym forms_in ∙ f in
      ap (numbers_of places) entry_in_law ∙ entry_again hx hy (at_le c places (and_l _ _ g)) (and_l _ _ (and_r (at_most c places) _ g))

-- ---- a formed entry: its numbers, its bytes, and what they are read as
module _ (places : ℕ) (e : Entry) (k : places < 256) (h : Held e) (g : formed places e ≡ true) where
  told : Formed places e
  told = tells places e g

  abbrev stand : List ℕ
  stand = places_of places e.zones

  abbrev over : List ℕ
  over = replicate (places - length e.zones) unused

  long : length stand ≡ places
  long = places_long places e.zones told.few

  each_place : (i : ℕ) → i < length stand → get_or stand i 0 < unit 2
  each_place i r = subst (λ (x : ℕ). x < unit 2) (place_at places e.zones i (omega (arith, long))) (each_low e.zones told.low i)

  numbers_held : InWidths (widths places) (numbers_of places e)
  unfolding numbers_of
  numbers_held =
      one (of_z_fits w32 e.at.x h.x).fits (one (of_z_fits w32 e.at.y h.y).fits
      (rw long at (in_front_law stand (1 ∷ 1 ∷ []) (length e.zones ∷ e.reason ∷ []) each_place
      (one (omega (arith, told.few)) (one (omega (arith, told.known)) none)))))

  entry_back : entry (point (to_z w32 (of_z w32 e.at.x)) (to_z w32 (of_z w32 e.at.y))) (take (length e.zones) stand) e.reason ≡ e
  unfolding places_of
  entry_back =
      ap₂ (λ (q : I32Point) (l : List ℕ). entry q l e.reason) (ap₂ point (to_z-of_z w32 e.at.x h.x) (to_z-of_z w32 e.at.y h.y)) (take_at e.zones over (length e.zones) refl)

  numbers_back : entry_from places (numbers_of places e) ≡ e
  unfolding numbers_of
  numbers_back = entry_in_law places _ _ stand (length e.zones) e.reason long ∙ entry_back

  left_over : all_unused (drop (length e.zones) stand) ≡ true
  unfolding places_of
  left_over = ap all_unused (drop_at e.zones over (length e.zones) refl) ∙ unused_all (places - length e.zones)

  numbers_formed : row_of_forms places (numbers_of places e) ≡ true
  unfolding numbers_of
  numbers_formed =
      forms_in places _ _ stand (length e.zones) e.reason long
      ∙ sym (forms_all places _ stand (length e.zones) e.reason told.few left_over true (sym (ap (formed places) entry_back ∙ g)))

  row_numbers : row places (bytes_of places e) ≡ numbers_of places e
  unfolding bytes_of
  row_numbers =
      ap (λ (s : List ℕ). row_in (widths places) s 0) (sym (append-nil (row_bytes (widths places) (numbers_of places e))))
      ∙ row_back (widths places) (numbers_of places e) [] [] numbers_held

  bytes_are : entry_is places (bytes_of places e) ≡ true
  unfolding entry_is bytes_of
  bytes_are = and_i _ _ (eq_same _ _ (row_long (widths places) (numbers_of places e) ∙ entry_wide_law places)) (ap (row_of_forms places) row_numbers ∙ numbers_formed)

  bytes_back : ok e ≡ entry_of places (bytes_of places e)
  unfolding entry_of
  bytes_back = ap ok (sym (ap (entry_from places) row_numbers ∙ numbers_back)) ∙ need_met 50 _ _ bytes_are

-- ---- bytes that are an entry: the entry that they are read as
module _ (places : ℕ) (s : List ℕ) (h : entry_is places s ≡ true) where
  abbrev found : Entry
  found = entry_from places (row places s)

  row_formed : row_of_forms places (row places s) ≡ true
  unfolding entry_is
  row_formed = and_r (same (length s) (entry_wide places)) _ h

  found_formed : formed places found ≡ true
  unfolding row_of_forms of_forms entry_from
  found_formed = and_r (all_unused (drop (count_in places (row places s)) (places_in places (row places s)))) _ (and_r (at_most (count_in places (row places s)) places) _ row_formed)

  module _ (byte : (i : ℕ) → get_or s i 0 < 256) where
    signed : (p : ℕ) → SFits w32 (to_z w32 (le 4 s p))
    signed p = to_z-Fits w32 (le 4 s p) (record { fits = fits 4 s p byte })

    found_held : Held found
    unfolding entry_from row_in
    found_held = record { x = signed 0; y = signed 4 }

    found_numbers : numbers_of places found ≡ row places s
    found_numbers =
        let long : length (halves places s) ≡ places = in_long (replicate places 2) s 8 ∙ length-replicate places 2 in
        let formed-too = sym (ap (row_of_forms places) (row_is places s)) ∙ row_formed in
        subst (λ (ns : List ℕ). numbers_of places (entry_from places ns) ≡ ns) (sym (row_is places s))
        (numbers_again places (le 4 s 0) (le 4 s 4) (halves places s) _ _ long (fits 4 s 0 byte) (fits 4 s 4 byte) formed-too)

    found_bytes : bytes_of places found ≡ s
    unfolding bytes_of
    found_bytes =
        let wide : row_wide (widths places) ≡ length s = entry_wide_law places ∙ sym (is_long places s h) in
        ap (row_bytes (widths places)) found_numbers ∙ row_again s byte (widths places) 0 (omega arith) ∙ take_all (row_wide (widths places)) s (omega arith)

-- what was read is that entry
module _ (places : ℕ) (s : List ℕ) (e : Entry) (r : ok e ≡ entry_of places s) where
  read_is : entry_is places s ≡ true
  unfolding entry_of
  read_is = (need_inv 50 (entry_is places s) (ok (entry_from places (row places s))) e r).0

  read_found : found places s read_is ≡ e
  unfolding entry_of
  read_found = sym (ok_inv _ _ (need_inv 50 (entry_is places s) (ok (entry_from places (row places s))) e r).1)

-- ---- reading back gives what was written
pub written_back : (places : ℕ) (e : Entry) → places < 256 → Held e → formed places e ≡ true → ok e ≡ entry_of places (bytes_of places e)
written_back = bytes_back

-- ---- writing what was read gives the same bytes
pub written_again : (places : ℕ) (s : List ℕ) → ((i : ℕ) → get_or s i 0 < 256) → (e : Entry) → ok e ≡ entry_of places s → bytes_of places e ≡ s
written_again places s byte e r = ap (bytes_of places) (sym (read_found places s e r)) ∙ found_bytes places s (read_is places s e r) byte

-- ---- what was read is formed, and its x and y are numbers of 32 bits
pub read_formed : (places : ℕ) (s : List ℕ) (e : Entry) → ok e ≡ entry_of places s → formed places e ≡ true
read_formed places s e r = ap (formed places) (sym (read_found places s e r)) ∙ found_formed places s (read_is places s e r)

pub read_held : (places : ℕ) (s : List ℕ) → ((i : ℕ) → get_or s i 0 < 256) → (e : Entry) → ok e ≡ entry_of places s → Held e
read_held places s byte e r = subst Held (read_found places s e r) (found_held places s (read_is places s e r) byte)

-- ---- two entries of the same bytes are one
pub one_entry : (places : ℕ) (e e' : Entry) → places < 256 → Held e → Held e' → formed places e ≡ true → formed places e' ≡ true → bytes_of places e ≡ bytes_of places e' → e ≡ e'
one_entry places e e' k h h' g g' b = ok_inv e e' (written_back places e k h g ∙ ap (entry_of places) b ∙ sym (written_back places e' k h' g'))

-- ---- bytes are an entry exactly where a formed entry has them
pub entry_made : (places : ℕ) (s : List ℕ) → places < 256 → (e : Entry) → Held e → formed places e ≡ true → bytes_of places e ≡ s → entry_is places s ≡ true
entry_made places s k e h g b = ap (entry_is places) (sym b) ∙ bytes_are places e k h g

pub entry_found : (places : ℕ) (s : List ℕ) → ((i : ℕ) → get_or s i 0 < 256) → entry_is places s ≡ true → (e : Entry) × (formed places e ≡ true) × (bytes_of places e ≡ s) × Held e
entry_found places s byte h = (found places s h, found_formed places s h, found_bytes places s h byte, found_held places s h byte)
