-- Laws of specs/Reading, and of an entry's bytes, as proofs cite them. Nothing here need be believed.
-- Assumes nothing.
use Prim.Native.Nat.{ℕ, zero, suc, ◌+◌, ◌*◌, ◌≤◌, ◌<◌}
use native.Mathlib.Omega.{arith}
use mathlib.Core.Path.{◌≡◌, refl, sym, ap, ap₂, subst, ◌∙◌}
use mathlib.Core.Bool.{Bool, true, false}
use mathlib.Core.List.{List, [], ◌∷◌, ◌++◌, append_assoc}
use lib.ListN.{length, take, drop, get_or, replicate, length-append, length-replicate}
use lib.Seq.{take_at, get_or_at, get_or-append-add}
use mir.Syntax.{w32}
use mir.Val.{to_z, of_z}
use Rattle.basics.specs.Picked.{and_yes, and_no}
use Rattle.basics.specs.Truth.{and_l, and_r}
use Rattle.plane.specs.declared.I32Point.{I32Point}
use Rattle.plane.specs.Places.{point}
use Rattle.fields.specs.Le.{le}
use Rattle.fields.specs.Stores.{laid, Laid}
use Rattle.fields.specs.Row.{row_wide, row_bytes, row_in}
use Rattle.fields.proofs.Rows.{row_long, in_parts, bytes_parts, wide_parts}
use Rattle.fields.proofs.StoresLaws.{behind}
use Rattle.answer.specs.Refusals.{refusal}
use Rattle.answer.specs.Answers.{Answer, ok, no, ◌then◌, need, fine, outcome, left}
use Rattle.answer.specs.Checks.{at_most, same, failed}
use Rattle.answer.proofs.CheckLaws.{le_at, gt_at, eq_same, ne_same, at_le, same_eq}
use Rattle.answer.proofs.AnswersLaws.{need_met, need_not, left_no, left_is}
use Rattle.entries.specs.Entry.{Entry, entry, widths, entry_wide, places_of, numbers_of, bytes_of}
use Rattle.entries.specs.Forms.{formed, laid_of, write_of}
use Rattle.entries.specs.Reading.{point_in, places_in, count_in, reason_in, entry_from, all_unused, of_forms, row_of_forms, entry_is, entry_of, read_of, head_of}
use Rattle.entries.proofs.PlacesLaws.{halves_wide, in_long, places_long}

-- ---- the widths of an entry add up
pub entry_wide_law : (places : ℕ) → row_wide (widths places) ≡ entry_wide places
entry_wide_law places = omega (arith, wide_parts (replicate places 2) (1 ∷ 1 ∷ []), halves_wide places)

-- ---- the numbers of an entry's bytes, one by one
pub byte_is : (s : List ℕ) (p : ℕ) → le 1 s p ≡ get_or s p 0
unfolding le
byte_is s p = omega arith

-- the count and the reason, where the places were counted as w
pub count_at_law : (s : List ℕ) {n w places : ℕ} → n ≡ get_or s (8 + 2 * w) 0 → w ≡ places → n ≡ get_or s (8 + 2 * places) 0
count_at_law s e f = e ∙ ap (λ (k : ℕ). get_or s (8 + 2 * k) 0) f

pub reason_at : (s : List ℕ) {n w places : ℕ} → n ≡ get_or s (8 + 2 * w + 1) 0 → w ≡ places → n ≡ get_or s (9 + 2 * places) 0
reason_at s {n} {w} {places} e f =
    let last : 8 + 2 * w + 1 ≡ 9 + 2 * places = omega arith in
    e ∙ ap (λ (k : ℕ). get_or s k 0) last

module _ (places : ℕ) (s : List ℕ) where
  abbrev pub row : List ℕ
  row = row_in (widths places) s 0

  abbrev pub halves : List ℕ
  halves = row_in (replicate places 2) s 8

  abbrev ends : List ℕ
  ends = get_or s (8 + 2 * places) 0 ∷ get_or s (9 + 2 * places) 0 ∷ []

  halves_long : length halves ≡ places
  halves_long = in_long (replicate places 2) s 8 ∙ length-replicate places 2

  pub row_is : row ≡ le 4 s 0 ∷ le 4 s 4 ∷ (halves ++ ends)
  unfolding row_in
  row_is =
      let last : 8 + row_wide (replicate places 2) ≡ 8 + 2 * places = omega (arith, halves_wide places) in
      let next : 8 + row_wide (replicate places 2) + 1 ≡ 9 + 2 * places = omega (arith, halves_wide places) in
      ap (λ (l : List ℕ). le 4 s 0 ∷ le 4 s 4 ∷ l)
      (in_parts (replicate places 2) (1 ∷ 1 ∷ []) s 8
      ∙ ap₂ (λ (x y : ℕ). halves ++ x ∷ y ∷ []) (byte_is s _ ∙ ap (λ (p : ℕ). get_or s p 0) last) (byte_is s _ ∙ ap (λ (p : ℕ). get_or s p 0) next))

  pub row_point : point_in row ≡ point (to_z w32 (le 4 s 0)) (to_z w32 (le 4 s 4))
  row_point = ap point_in row_is

  pub row_places : places_in places row ≡ halves
  row_places = ap (places_in places) row_is ∙ take_at halves ends places halves_long

  pub row_count : count_in places row ≡ get_or s (8 + 2 * places) 0
  row_count =
      let at : places + 2 ≡ suc (suc places) = omega arith in
      ap₂ (λ (l : List ℕ) (k : ℕ). get_or l k 0) row_is at ∙ get_or_at halves (get_or s (8 + 2 * places) 0) (get_or s (9 + 2 * places) 0 ∷ []) 0 places halves_long

  pub row_reason : reason_in places row ≡ get_or s (9 + 2 * places) 0
  row_reason =
      let at : places + 3 ≡ suc (suc (length halves + 1)) = omega (arith, halves_long) in
      ap₂ (λ (l : List ℕ) (k : ℕ). get_or l k 0) row_is at ∙ get_or-append-add halves ends 1 0

  -- ---- whether they are an entry
  pub is_other : (length s ≡ entry_wide places → ⊥) → false ≡ entry_is places s
  unfolding entry_is
  is_other h = and_no _ _ (ne_same _ _ h)

  pub is_by : length s ≡ entry_wide places → (b : Bool) → b ≡ of_forms places (point (to_z w32 (le 4 s 0)) (to_z w32 (le 4 s 4))) halves (get_or s (8 + 2 * places) 0) (get_or s (9 + 2 * places) 0) → b ≡ entry_is places s
  unfolding entry_is row_of_forms
  is_by h b e =
      and_yes _ _ _ (eq_same _ _ h)
      (e ∙ sym (ap₂ (λ (q : I32Point) (l : List ℕ). of_forms places q l (get_or s (8 + 2 * places) 0) (get_or s (9 + 2 * places) 0)) row_point row_places)
      ∙ sym (ap₂ (λ (c r : ℕ). of_forms places (point_in row) (places_in places row) c r) row_count row_reason))

  -- an entry's length, and that its zones stand in its places
  pub is_long : entry_is places s ≡ true → length s ≡ entry_wide places
  unfolding entry_is
  is_long h = same_eq _ _ (and_l _ _ h)

  is_few : entry_is places s ≡ true → count_in places row ≤ places
  unfolding entry_is row_of_forms of_forms
  is_few h = at_le _ _ (and_l _ _ (and_r (same (length s) (entry_wide places)) _ h))

  pub is_room : entry_is places s ≡ true → get_or s (8 + 2 * places) 0 ≤ places
  is_room h = omega (arith, is_few h, row_count)

-- the same of what was loaded, part by part
pub checked_by : (places n : ℕ) (s before held : List ℕ) (q : I32Point) (count reason : ℕ) (b : Bool) → n ≡ places → length before ≡ places → length s ≡ entry_wide places
    → held ≡ row_in (replicate (length before) 2) s 8 → q ≡ point (to_z w32 (le 4 s 0)) (to_z w32 (le 4 s 4)) → count ≡ get_or s (8 + 2 * n) 0 → reason ≡ get_or s (8 + 2 * n + 1) 0
    → b ≡ of_forms places q held count reason → b ≡ entry_is places s
checked_by places n s before held q count reason b en lb ls eh eq ec er e =
    let all : held ≡ halves places s = eh ∙ ap (λ (k : ℕ). row_in (replicate k 2) s 8) lb in
    is_by places s ls b
    (e ∙ ap₂ (λ (p : I32Point) (l : List ℕ). of_forms places p l count reason) eq all
    ∙ ap₂ (λ (c r : ℕ). of_forms places (point (to_z w32 (le 4 s 0)) (to_z w32 (le 4 s 4))) (halves places s) c r) (count_at_law s ec en) (reason_at s er en))

-- the first of a row
pub row_front : (s : List ℕ) (n k p : ℕ) → k ≤ n → row_in (replicate k 2) s p ≡ take k (row_in (replicate n 2) s p)
unfolding row_in
row_front s n zero p h = refl
row_front s zero (suc k) p h = absurd (omega arith)
row_front s (suc n) (suc k) p h = ap (λ (l : List ℕ). le 2 s p ∷ l) (row_front s n k (p + 2) (omega arith))

-- ---- whether numbers are of the forms, test by test
module _ (places : ℕ) (q : I32Point) (held : List ℕ) (count reason : ℕ) where
  pub forms_many : places < count → false ≡ of_forms places q held count reason
  unfolding of_forms
  forms_many h = and_no _ _ (gt_at _ _ h)

  pub forms_used : count ≤ places → all_unused (drop count held) ≡ false → false ≡ of_forms places q held count reason
  unfolding of_forms
  forms_used h e = and_yes _ _ _ (le_at _ _ h) (and_no _ _ e)

  pub forms_all : count ≤ places → all_unused (drop count held) ≡ true → (b : Bool) → b ≡ formed places (entry q (take count held) reason) → b ≡ of_forms places q held count reason
  unfolding of_forms
  forms_all h e b f = and_yes _ _ _ (le_at _ _ h) (and_yes _ _ _ e f)

-- ---- the reader
module _ (places : ℕ) (s : List ℕ) (room : ℕ) where
  pub read_other : entry_is places s ≡ false → no 50 ≡ read_of places s room
  unfolding read_of entry_of
  read_other h = ap (λ (x : Answer Entry). x then λ e. need 46 (at_most (length e.zones) room) (ok e)) (need_not 50 (entry_is places s) (ok (entry_from places (row_in (widths places) s 0))) h)

  module _ (h : entry_is places s ≡ true) where
    zones_are : (entry_from places (row places s)).zones ≡ row_in (replicate (get_or s (8 + 2 * places) 0) 2) s 8
    unfolding entry_from
    zones_are = ap₂ take (row_count places s) (row_places places s) ∙ sym (row_front s places (get_or s (8 + 2 * places) 0) 8 (is_room places s h))

    zones_long : length (entry_from places (row places s)).zones ≡ get_or s (8 + 2 * places) 0
    zones_long = ap length zones_are ∙ in_long (replicate (get_or s (8 + 2 * places) 0) 2) s 8 ∙ length-replicate (get_or s (8 + 2 * places) 0) 2

    read_on : need 46 (at_most (length (entry_from places (row places s)).zones) room) (ok (entry_from places (row places s))) ≡ read_of places s room
    unfolding read_of entry_of
    read_on = ap (λ (x : Answer Entry). x then λ e. need 46 (at_most (length e.zones) room) (ok e)) (need_met 50 (entry_is places s) (ok (entry_from places (row places s))) h)

    pub read_short : room < get_or s (8 + 2 * places) 0 → no 46 ≡ read_of places s room
    read_short r = need_not _ _ _ (gt_at _ _ (omega (arith, zones_long))) ∙ read_on

    -- what is told of it, and what is left in lent places
    module _ (r : get_or s (8 + 2 * places) 0 ≤ room) where
      read_ok : ok (entry_from places (row places s)) ≡ read_of places s room
      read_ok = need_met _ _ _ (le_at _ _ (omega (arith, zones_long))) ∙ read_on

      pub read_head : (q : I32Point) → q ≡ point (to_z w32 (le 4 s 0)) (to_z w32 (le 4 s 4)) → (c k : ℕ) → c ≡ get_or s (8 + 2 * places) 0 → k ≡ get_or s (9 + 2 * places) 0
          → ok (q, c, k) ≡ (read_of places s room then λ e. ok (head_of e))
      unfolding entry_from
      read_head q eq c k ec ek =
          ap₂ (λ (a : I32Point) (b : ℕ × ℕ). ok (a, b.0, b.1)) (eq ∙ sym (row_point places s)) (ap₂ (λ (x y : ℕ). (x, y)) (ec ∙ sym zones_long) (ek ∙ sym (row_reason places s)))
          ∙ ap (λ (x : Answer Entry). x then λ e. ok (head_of e)) read_ok

      pub read_left : (lent : List ℕ) → row_in (replicate (get_or s (8 + 2 * places) 0) 2) s 8 ++ drop (get_or s (8 + 2 * places) 0) lent ≡ left lent (read_of places s room then λ e. ok e.zones)
      read_left lent =
          ap₂ (λ (l : List ℕ) (k : ℕ). l ++ drop k lent) (sym zones_are) (sym zones_long)
          ∙ ap (λ (x : Answer Entry). left lent (x then λ e. ok e.zones)) read_ok

-- ---- the writer
module _ (places : ℕ) (e : Entry) (room : List ℕ) where
  pub lay_none : length room < entry_wide places → (failed 46 ≡ outcome (laid_of places e room)) × (room ≡ left room (laid_of places e room))
  unfolding laid_of
  lay_none h =
      let n = need_not 46 (at_most (entry_wide places) (length room)) (ok (bytes_of places e)) (gt_at _ _ h) in
      (ap outcome n, left_no (laid_of places e room) (refusal 46) n room)

  pub write_none : formed places e ≡ false → (failed 50 ≡ outcome (write_of places e room)) × (room ≡ left room (write_of places e room))
  unfolding write_of
  write_none h =
      let n = need_not 50 (formed places e) (laid_of places e room) h in
      (ap outcome n, left_no (write_of places e room) (refusal 50) n room)

  pub write_on : formed places e ≡ true → laid_of places e room ≡ write_of places e room
  unfolding write_of
  write_on h = need_met 50 (formed places e) (laid_of places e room) h

  -- its bytes in three parts, which were stored one behind the other
  module _ (h : length e.zones ≤ places) where
    abbrev middle : List ℕ
    middle = row_bytes (replicate places 2) (places_of places e.zones)

    bytes_are : row_bytes (4 ∷ 4 ∷ []) (of_z w32 e.at.x ∷ of_z w32 e.at.y ∷ []) ++ middle ++ row_bytes (1 ∷ 1 ∷ []) (length e.zones ∷ e.reason ∷ []) ≡ bytes_of places e
    unfolding bytes_of numbers_of
    bytes_are =
        let position = row_bytes (4 ∷ 4 ∷ []) (of_z w32 e.at.x ∷ of_z w32 e.at.y ∷ []) in
        append_assoc position middle (row_bytes (1 ∷ 1 ∷ []) (length e.zones ∷ e.reason ∷ []))
        ∙ ap (λ (l : List ℕ). position ++ l) (sym (bytes_parts (replicate places 2) (places_of places e.zones) (1 ∷ 1 ∷ []) (length e.zones ∷ e.reason ∷ []) (places_long places e.zones h ∙ sym (length-replicate places 2))))
        ∙ sym (bytes_parts (4 ∷ 4 ∷ []) (of_z w32 e.at.x ∷ of_z w32 e.at.y ∷ []) (replicate places 2 ++ 1 ∷ 1 ∷ []) (places_of places e.zones ++ length e.zones ∷ e.reason ∷ []) refl)

    module _ (r : entry_wide places ≤ length room) where
      lay_ok : ok (bytes_of places e) ≡ laid_of places e room
      unfolding laid_of
      lay_ok = need_met 46 (at_most (entry_wide places) (length room)) (ok (bytes_of places e)) (le_at _ _ r)

      pub lay_all : {a b after : List ℕ} {m end : ℕ} {ps ns : List ℕ} → ps ≡ of_z w32 e.at.x ∷ of_z w32 e.at.y ∷ [] → ns ≡ length e.zones ∷ e.reason ∷ [] → m ≡ places → end ≡ 8 + 2 * m
          → Laid room 0 (row_bytes (4 ∷ 4 ∷ []) ps) a → Laid a 8 (row_bytes (replicate m 2) (places_of m e.zones)) b → Laid b end (row_bytes (1 ∷ 1 ∷ []) ns) after
          → (fine ≡ outcome (laid_of places e room)) × (after ≡ left room (laid_of places e room))
      unfolding laid
      lay_all {a} {b} {after} {m} {end} {ps} {ns} ep en em ee f g' k =
          let g : Laid a 8 middle b = subst (λ (i : ℕ). Laid a 8 (row_bytes (replicate i 2) (places_of i e.zones)) b) em g' in
          let first = row_long (4 ∷ 4 ∷ []) ps in
          let two = behind f g (omega (arith, first)) in
          let second = row_long (replicate places 2) (places_of places e.zones) in
          let three = behind two k (omega (arith, first, second, halves_wide places, length-append (row_bytes (4 ∷ 4 ∷ []) ps) middle)) in
          let all : (row_bytes (4 ∷ 4 ∷ []) ps ++ middle) ++ row_bytes (1 ∷ 1 ∷ []) ns ≡ bytes_of places e
          = ap₂ (λ (x y : List ℕ). (row_bytes (4 ∷ 4 ∷ []) x ++ middle) ++ row_bytes (1 ∷ 1 ∷ []) y) ep en ∙ bytes_are in
          let start : 0 + length ((row_bytes (4 ∷ 4 ∷ []) ps ++ middle) ++ row_bytes (1 ∷ 1 ∷ []) ns) ≡ length ((row_bytes (4 ∷ 4 ∷ []) ps ++ middle) ++ row_bytes (1 ∷ 1 ∷ []) ns) = omega arith in (
            ap outcome lay_ok,
            three.is ∙ ap (λ (n : ℕ). ((row_bytes (4 ∷ 4 ∷ []) ps ++ middle) ++ row_bytes (1 ∷ 1 ∷ []) ns) ++ drop n room) start
                ∙ ap (λ (l : List ℕ). l ++ drop (length l) room) all ∙ left_is (laid_of places e room) (bytes_of places e) lay_ok room,
          )
