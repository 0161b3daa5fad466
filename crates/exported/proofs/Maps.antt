-- The exact answers on maps (specs/Maps), for every file, zone and memory; and that every refusal is from the table.
-- Assumes nothing.
use Prim.Native.Nat.{ℕ, ◌≤◌, ◌<◌, min}
use native.Mathlib.Omega.{arith}
use mathlib.Core.Path.{◌≡◌, refl, sym, ap, subst, ◌∙◌}
use mathlib.Core.Bool.{Bool, true, false}
use mathlib.Core.List.{List, ◌++◌}
use mathlib.Core.Logic.{◌⊎◌, inl, inr}
use mathlib.Core.Option.{some}
use lib.IntN.{ℤ, pos}
use lib.ListN.{length, take, drop}
use lib.Seq.{take_at}
use lib.Dec.{leb, ltb}
use borrow.Author.Tests.{leb-true, ltb-true, lt-ltb, le-ltb, le-leb, lt-leb}
use Rattle.answer.specs.declared.Refusal.{Refusal}
use Rattle.answer.specs.Refusals.{refusal}
use Rattle.answer.specs.Answers.{Answer, ok, refused, no, need, ◌then◌, left}
use Rattle.answer.proofs.AnswersLaws.{then_ok, then_no, then_inv, need_met, need_not, need_inv, ok_inv}
use Rattle.shapes.specs.Shapes.{Zone}
use Rattle.shapes.specs.Layout.{zone_at}
use Rattle.shapes.specs.Outline.{outlines, zone_drawable}
use Rattle.geojson.specs.Text.{map_text}
use Rattle.geojson.specs.Reading.{read_map}
use Rattle.geojson.proofs.Back.{map_back}
use Rattle.opened.specs.declared.Opened.{Opened}
use Rattle.directories.specs.Directories.{directories}
use Rattle.reader_map.specs.Map.{zone_text, in_room}
use Rattle.replies.specs.Replies.{Outcome, accepted, refused_by, broken_at, Drawn, drawn, undrawn, unsound}
use Rattle.tzb.specs.Opening.{open_of, opened_is}
use Rattle.tzb.specs.FullCheck.{full_check_of}
use Rattle.tzb.proofs.Given.{opened_is_law}
use Rattle.tzb_map.specs.Map.{upheld, map_of, map_in, how_long, as_answer}
use Rattle.tzb_map.proofs.MapLaws.{map_is, map_inv, in_is, in_inv}
use Rattle.tzb_codes.specs.Codes.{check_code, drawn_code}
use Rattle.tzb_codes.proofs.CodesLaws.{code_small, whole_short}
use Rattle.exported.specs.Calls.{TzbFullCheck, TzbMap, TzbMapLength}
use Rattle.exported.specs.Words.{last_number, refusing, Bytes, shape_of}
use Rattle.exported.specs.Demand1.{NumberOrRefusal, NumberOrAsItWas}
use Rattle.exported.specs.Maps.{text_of, Asked, MapAnswers, MapLengthAnswers}
use Rattle.exported.proofs.Meaning.{full_check_answer, map_answer, map_memory, map_length_answer}
use Rattle.exported.proofs.Tabled.{Numbered, raised}
use Rattle.exported.proofs.Checks.{Checks, refused_by_law, accepts, breaks, checks}
use Rattle.exported.proofs.Codes.{apart, refusal_below, same_number, same_refusing, code_is, refuses}
use Rattle.exported.proofs.Demand3 as Three
use Rattle.exported.proofs.Lengths.{text_most}
use Rattle.demands.proofs.Accepted.{accepted_with}

-- ---- every refusal has a property
abbrev pub RefusedBy : (Refusal → Type 0) → {A : Type 0} → Answer A → Type 0
RefusedBy P (ok a) = Unit {0}
RefusedBy P (refused k) = P k

abbrev UndrawnBy : (Refusal → Type 0) → {A : Type 0} → Drawn A → Type 0
UndrawnBy P (drawn a) = Unit {0}
UndrawnBy P (undrawn k) = P k
UndrawnBy P (unsound k rule) = P k

module _ (P : Refusal → Type 0) where
  need_by : {A : Type 0} (n : ℕ) (b : Bool) (x : Answer A) → P (refusal n) → RefusedBy P x → RefusedBy P (need n b x)
  need_by n true x p h = h
  need_by n false x p h = p

  text_by : P (refusal 45) → P (refusal 48) → (o : Opened) (s : List ℕ) (zone : ℕ) → RefusedBy P (zone_text o s zone)
  unfolding zone_text
  text_by p q o s zone =
      let z = zone_at (directories o s) zone in
      let t = ok (map_text (outlines z)) in
      need_by 45 (ltb zone o.zones.count) (need 48 (zone_drawable z) t) p (need_by 48 (zone_drawable z) t q tt)

  room_by : P (refusal 46) → (room : ℕ) (x : Answer (List ℕ)) → RefusedBy P x → RefusedBy P (in_room room x)
  unfolding in_room
  room_by p room (ok t) h = need_by 46 (leb (length t) room) (ok t) p tt
  room_by p room (refused k) h = h

  upheld_by : {A : Type 0} (x : Answer A) → RefusedBy P x → UndrawnBy P (upheld accepted x)
  upheld_by (ok a) h = tt
  upheld_by (refused k) h = h

  module _ (file : List ℕ) (opening : (k : Refusal) → Numbered 34 k → P k) (rule : P (refusal 47)) where
    module _ {A : Type 0} (ask : Opened → Answer A) (h : (o : Opened) → RefusedBy P (ask o)) where
      abbrev By : Outcome → Type 0
      By x = UndrawnBy P (upheld x (open_of file then ask))

      by : Checks file → By (full_check_of file)
      by (refused_by_law k g e f) = subst By f (opening k g)
      by (accepts e z f) =
          subst By f (subst (λ (y : Answer A). UndrawnBy P (upheld accepted y)) (then_ok (open_of file) ask (opened_is file) e) (upheld_by (ask (opened_is file)) (h (opened_is file))))
      by (breaks e z f) = subst By f rule

      asked_by : UndrawnBy P (upheld (full_check_of file) (open_of file then ask))
      asked_by = by (checks file)

-- from the table; and never 46
abbrev InTable : Refusal → Type 0
InTable k = Numbered last_number k

abbrev pub Roomless : Refusal → Type 0
Roomless k = Numbered last_number k × (k.number ≡ 46 → ⊥)

module _ (file : List ℕ) (zone : ℕ) where
  pub map_tabled : (room : ℕ) → UndrawnBy InTable (map_in file zone room)
  unfolding map_in
  map_tabled room =
      asked_by InTable file (λ k h. raised 34 last_number (omega arith) k h) (record { least = omega arith; greatest = omega arith })
      (λ o. in_room room (zone_text o file zone))
      (λ o. room_by InTable (record { least = omega arith; greatest = omega arith }) room (zone_text o file zone)
      (text_by InTable (record { least = omega arith; greatest = omega arith }) (record { least = omega arith; greatest = omega arith }) o file zone))

  pub length_tabled : UndrawnBy Roomless (map_of file zone)
  unfolding map_of
  length_tabled =
      asked_by Roomless file (λ k h. (raised 34 last_number (omega arith) k h, λ e. omega (arith, h.greatest))) (record { least = omega arith; greatest = omega arith }, λ e. omega arith)
      (λ o. zone_text o file zone)
      (λ o. text_by Roomless (record { least = omega arith; greatest = omega arith }, λ e. omega arith) (record { least = omega arith; greatest = omega arith }, λ e. omega arith) o file zone)

pub map_told : (memory : List ℕ) (d : Drawn (List ℕ)) → UndrawnBy InTable d → NumberOrAsItWas (drawn_code (how_long d)) memory (left memory (as_answer d))
map_told memory (drawn t) h = inl (min (length t) 0x7fff_ffff_ffff_ffff, refl)
map_told memory (undrawn k) h = inr (refuses k h, refl)
map_told memory (unsound k rule) h = inr (refuses k h, refl)

pub length_told : (d : Drawn (List ℕ)) → UndrawnBy Roomless d → NumberOrRefusal (drawn_code (how_long d)) × (drawn_code (how_long d) ≡ refusing 46 → ⊥)
length_told (drawn t) h = (inl (min (length t) 0x7fff_ffff_ffff_ffff, refl), λ e. apart _ _ e)
length_told (undrawn k) h = (inr (refuses k h.0), λ e. h.1 (same_refusing k.number 46 (sym (code_is k h.0) ∙ e)))
length_told (unsound k rule) h = (inr (refuses k h.0), λ e. h.1 (same_refusing k.number 46 (sym (code_is k h.0) ∙ e)))

-- ---- the text, and the text where there is room
module _ (o : Opened) (s : List ℕ) (zone : ℕ) where
  abbrev shape : Zone
  shape = zone_at (directories o s) zone

  text_over : o.zones.count ≤ zone → no 45 ≡ zone_text o s zone
  unfolding zone_text
  text_over h = need_not 45 (ltb zone o.zones.count) _ (le-ltb zone o.zones.count h)

  text_none : zone < o.zones.count → zone_drawable shape ≡ false → no 48 ≡ zone_text o s zone
  unfolding zone_text
  text_none h f = need_not 48 (zone_drawable shape) _ f ∙ need_met 45 (ltb zone o.zones.count) _ (lt-ltb zone o.zones.count h)

  text_is : zone < o.zones.count → zone_drawable shape ≡ true → ok (map_text (outlines shape)) ≡ zone_text o s zone
  unfolding zone_text
  text_is h f = need_met 48 (zone_drawable shape) _ f ∙ need_met 45 (ltb zone o.zones.count) _ (lt-ltb zone o.zones.count h)

  text_inv : (t : List ℕ) → ok t ≡ zone_text o s zone → (zone < o.zones.count) × (zone_drawable shape ≡ true) × (t ≡ map_text (outlines shape))
  unfolding zone_text
  text_inv t e =
      let a = need_inv 45 (ltb zone o.zones.count) _ t e in
      let b = need_inv 48 (zone_drawable shape) _ t a.1 in
      (ltb-true zone o.zones.count a.0, b.0, ok_inv t _ b.1)

module _ (room : ℕ) (x : Answer (List ℕ)) where
  abbrev fit : List ℕ → Answer (List ℕ)
  fit t = need 46 (leb (length t) room) (ok t)

  room_barred : (k : Refusal) → refused k ≡ x → refused k ≡ in_room room x
  unfolding in_room
  room_barred k e = then_no x fit k e

  room_none : (t : List ℕ) → ok t ≡ x → room < length t → no 46 ≡ in_room room x
  unfolding in_room
  room_none t e h = need_not 46 (leb (length t) room) (ok t) (lt-leb (length t) room h) ∙ then_ok x fit t e

  room_is : (t : List ℕ) → ok t ≡ x → length t ≤ room → ok t ≡ in_room room x
  unfolding in_room
  room_is t e h = need_met 46 (leb (length t) room) (ok t) (le-leb (length t) room h) ∙ then_ok x fit t e

  room_inv : (t : List ℕ) → ok t ≡ in_room room x → (ok t ≡ x) × (length t ≤ room)
  unfolding in_room
  room_inv t e =
      let a = then_inv x fit t e in
      let b = need_inv 46 (leb (length a.0) room) (ok a.0) t a.2 in
      (b.1 ∙ a.1, subst (λ (u : List ℕ). length u ≤ room) (ok_inv a.0 t (sym b.1)) (leb-true (length a.0) room b.0))

-- ---- as numbers
told_refused : (x : Outcome) (y : Answer (List ℕ)) → (check_code x ≡ pos 0 → ⊥) → drawn_code (how_long (upheld x y)) ≡ check_code x
told_refused accepted y h = absurd (h refl)
told_refused (refused_by k) y h = refl
told_refused (broken_at k rule) y h = refl

-- the number of what was drawn, or not
abbrev code : Drawn (List ℕ) → ℤ
code d = drawn_code (how_long d)

-- a length below 2 ^ 63 is told as it is
told_length : (n : ℕ) (t : List ℕ) → pos n ≡ code (drawn t) → length t < 0x8000_0000_0000_0000 → n ≡ length t
told_length n t e h = let z = same_number n (min (length t) 0x7fff_ffff_ffff_ffff) e in omega arith

module _ (file : List ℕ) (zone : ℕ) where
  abbrev o : Opened
  o = opened_is file

  -- a text that was drawn is the zone's
  text_of_law : (p : Opened) → ok p ≡ open_of file → (t : List ℕ) → ok t ≡ zone_text p file zone → t ≡ text_of file zone
  text_of_law p e t f = (text_inv p file zone t f).2 ∙ ap (λ (q : Opened). map_text (outlines (zone_at (directories q file) zone))) (opened_is_law file p e)

  -- and is short enough that its length is told
  text_short : Bytes file → (p : Opened) → ok p ≡ open_of file → full_check_of file ≡ accepted → (t : List ℕ) → ok t ≡ zone_text p file zone → length t < 0x8000_0000_0000_0000
  text_short byte p e c t f =
      let i = text_inv p file zone t f in
      omega (arith, ap length i.2, text_most file byte p (accepted_with file c p e) zone i.0 i.1)

  checked_in : (room : ℕ) (q : ℤ) → TzbFullCheck file q → (q ≡ pos 0 → ⊥) → code (map_in file zone room) ≡ q
  unfolding map_in
  checked_in room q c h = told_refused (full_check_of file) _ (λ e. h (full_check_answer c ∙ e)) ∙ sym (full_check_answer c)

  checked_of_law : (q : ℤ) → TzbFullCheck file q → (q ≡ pos 0 → ⊥) → code (map_of file zone) ≡ q
  unfolding map_of
  checked_of_law q c h = told_refused (full_check_of file) _ (λ e. h (full_check_answer c ∙ e)) ∙ sym (full_check_answer c)

  -- ---- of an accepted file
  module _ (c : TzbFullCheck file (pos 0)) where
    accepts_it : accepted ≡ full_check_of file
    accepts_it = sym (Three.accepted_by (full_check_of file) (full_check_answer c))

    opens_it : ok o ≡ open_of file
    opens_it = ((Three.accepts file (pos 0) c).0 refl).f1

    in_text : (room : ℕ) → upheld accepted (in_room room (zone_text o file zone)) ≡ map_in file zone room
    in_text room = in_is file zone room o opens_it accepts_it

    of_text : upheld accepted (zone_text o file zone) ≡ map_of file zone
    of_text = map_is file zone o opens_it accepts_it

    in_none : (room n : ℕ) → n < 1000 → no n ≡ in_room room (zone_text o file zone) → code (map_in file zone room) ≡ refusing n
    in_none room n l e = sym (ap (λ (x : Answer (List ℕ)). code (upheld accepted x)) e ∙ ap code (in_text room)) ∙ sym (code_small (refusal n) l)

    of_none : (n : ℕ) → n < 1000 → no n ≡ zone_text o file zone → code (map_of file zone) ≡ refusing n
    of_none n l e = sym (ap (λ (x : Answer (List ℕ)). code (upheld accepted x)) e ∙ ap code of_text) ∙ sym (code_small (refusal n) l)

    drawn_small : Bytes file → zone < o.zones.count → zone_drawable (shape_of file zone) ≡ true → length (text_of file zone) < 0x8000_0000_0000_0000
    drawn_small byte h d = text_short byte o opens_it (sym accepts_it) (text_of file zone) (text_is o file zone h d)

    in_drawn : (room : ℕ) (t : List ℕ) → ok t ≡ in_room room (zone_text o file zone) → drawn t ≡ map_in file zone room
    in_drawn room t e = ap (upheld accepted) e ∙ in_text room

  -- ---- tzb_map
  module _ (byte : Bytes file) (memory : List ℕ) (r : ℤ) (after : List ℕ) (c : TzbMap file zone memory r after) where
    abbrev text : List ℕ
    text = text_of file zone

    abbrev map : Drawn (List ℕ)
    map = map_in file zone (length memory)

    barred : (k : TzbFullCheck file (pos 0)) (n : ℕ) → n < 1000 → no n ≡ zone_text o file zone → r ≡ refusing n
    barred k n l e = map_answer c ∙ in_none k (length memory) n l (room_barred (length memory) (zone_text o file zone) (refusal n) e)

    stands : drawn text ≡ map → length text < 0x8000_0000_0000_0000 → (r ≡ pos (length text)) × (after ≡ text ++ drop (length text) memory)
    stands e h = (
      map_answer c ∙ ap code (sym e) ∙ sym (whole_short (length text) h),
      map_memory c ∙ ap (λ (d : Drawn (List ℕ)). left memory (as_answer d)) (sym e),
    )

    draws : Asked file zone → zone_drawable (shape_of file zone) ≡ true → length text ≤ length memory → (r ≡ pos (length text)) × (after ≡ text ++ drop (length text) memory)
    draws a d h = stands (in_drawn a.accepted (length memory) text (room_is (length memory) (zone_text o file zone) text (text_is o file zone a.its_own d) h)) (drawn_small a.accepted byte a.its_own d)

    reads : (n : ℕ) → r ≡ pos n → read_map (take n after) ≡ some (outlines (shape_of file zone))
    reads n e = go map refl
      where
        read_first : (m : ℕ) → m ≡ length text → after ≡ text ++ drop (length text) memory → read_map (take m after) ≡ some (outlines (shape_of file zone))
        read_first m f g = ap (λ (s : List ℕ). read_map (take m s)) g ∙ ap read_map (take_at text (drop (length text) memory) m (sym f)) ∙ map_back (outlines (shape_of file zone))

        go : (d : Drawn (List ℕ)) → d ≡ map → read_map (take n after) ≡ some (outlines (shape_of file zone))
        go (drawn t) f =
            let i = in_inv file zone (length memory) t f in
            let q = room_inv (length memory) (zone_text i.0 file zone) t i.3 in
            let same : t ≡ text = text_of_law i.0 i.1 t q.0 in
            let small : length text < 0x8000_0000_0000_0000 = subst (λ (u : List ℕ). length u < 0x8000_0000_0000_0000) same (text_short byte i.0 i.1 i.2 t q.0) in
            let all = stands (ap drawn (sym same) ∙ f) small in
            read_first n (same_number n (length text) (sym e ∙ all.0)) all.1
        go (undrawn k) f = absurd (refusal_below n k (sym e ∙ map_answer c ∙ ap code (sym f)))
        go (unsound k rule) f = absurd (refusal_below n k (sym e ∙ map_answer c ∙ ap code (sym f)))

    unchanged : ((n : ℕ) → r ≡ pos n → ⊥) → after ≡ memory
    unchanged h = go map refl
      where
        go : (d : Drawn (List ℕ)) → d ≡ map → after ≡ memory
        go (drawn t) f = absurd (h _ (map_answer c ∙ ap code (sym f)))
        go (undrawn k) f = map_memory c ∙ ap (λ (d : Drawn (List ℕ)). left memory (as_answer d)) (sym f)
        go (unsound k rule) f = map_memory c ∙ ap (λ (d : Drawn (List ℕ)). left memory (as_answer d)) (sym f)

    enough : (n : ℕ) → TzbMapLength file zone (pos n) → n ≤ length memory → r ≡ pos n
    enough n l h = go (map_of file zone) refl
      where
        go : (d : Drawn (List ℕ)) → d ≡ map_of file zone → r ≡ pos n
        go (drawn t) f =
            let i = map_inv file zone t f in
            let m : n ≡ length t = told_length n t (map_length_answer l ∙ ap code (sym f)) (text_short byte i.0 i.1 i.2 t i.3) in
            let fits : length t ≤ length memory = omega (arith, m, h) in
            let there : drawn t ≡ map = ap (upheld accepted) (room_is (length memory) (zone_text i.0 file zone) t i.3 fits) ∙ in_is file zone (length memory) i.0 i.1 (sym i.2) in
            map_answer c ∙ ap code (sym there) ∙ ap code f ∙ sym (map_length_answer l)
        go (undrawn k) f = absurd (refusal_below n k (map_length_answer l ∙ ap code (sym f)))
        go (unsound k rule) f = absurd (refusal_below n k (map_length_answer l ∙ ap code (sym f)))

    no_outline : Asked file zone → zone_drawable (shape_of file zone) ≡ false → r ≡ refusing 48
    no_outline a d = barred a.accepted 48 (omega arith) (text_none o file zone a.its_own d)

    pub map_answers : MapAnswers file zone memory r after
    map_answers =
        record {
          refused = λ q k h. map_answer c ∙ checked_in (length memory) q k h;
          no_zone = λ k h. barred k 45 (omega arith) (text_over o file zone h);
          no_outline = no_outline;
          no_room = λ a d h. map_answer c ∙ in_none a.accepted (length memory) 46 (omega arith) (room_none (length memory) (zone_text o file zone) text (text_is o file zone a.its_own d) h);
          draws = draws;
          reads = reads;
          unchanged = unchanged;
          enough = enough;
          either = λ a h. either a h (zone_drawable (shape_of file zone)) refl;
        }
      where
        either : Asked file zone → length text ≤ length memory → (b : Bool) → zone_drawable (shape_of file zone) ≡ b → (r ≡ refusing 48) ⊎ ((n : ℕ) × (r ≡ pos n) × (read_map (take n after) ≡ some (outlines (shape_of file zone))))
        either a h true d = let w = draws a d h in inr (length text, w.0, reads (length text) w.0)
        either a h false d = inl (no_outline a d)

  -- ---- tzb_map_length
  module _ (byte : Bytes file) (r : ℤ) (c : TzbMapLength file zone r) where
    pub map_length_answers : MapLengthAnswers file zone r
    map_length_answers =
        record {
          refused = λ q k h. map_length_answer c ∙ checked_of_law q k h;
          no_zone = λ k h. map_length_answer c ∙ of_none k 45 (omega arith) (text_over o file zone h);
          no_outline = λ a d. map_length_answer c ∙ of_none a.accepted 48 (omega arith) (text_none o file zone a.its_own d);
          tells = tells;
        }
      where
        tells : Asked file zone → zone_drawable (shape_of file zone) ≡ true → r ≡ pos (length (text_of file zone))
        tells a d =
            map_length_answer c
            ∙ sym (ap (λ (x : Answer (List ℕ)). code (upheld accepted x)) (text_is o file zone a.its_own d) ∙ ap code (of_text a.accepted))
            ∙ sym (whole_short (length (text_of file zone)) (drawn_small a.accepted byte a.its_own d))
