-- Demand 1 on the exports (specs/Demand1), of every file.
-- Assumes nothing.
use Prim.Native.Nat.{ℕ, ◌≤◌, ◌<◌}
use native.Mathlib.Omega.{arith}
use mathlib.Core.Path.{◌≡◌, refl, sym, ap, subst, ◌∙◌}
use mathlib.Core.Bool.{Bool, true, false, ◌&&◌}
use mathlib.Core.List.{List}
use mathlib.Core.Logic.{◌⊎◌, inl, inr}
use lib.IntN.{ℤ, pos}
use lib.Ieee.{Float}
use lib.ListN.{length}
use Rattle.plane.specs.declared.I32Point.{I32Point}
use Rattle.answer.specs.declared.Refusal.{Refusal}
use Rattle.answer.specs.Refusals.{refusal}
use Rattle.answer.specs.Answers.{Answer, ok, refused, ◌then◌, left, how_many}
use Rattle.answer.specs.Checks.{at_most}
use Rattle.chunks.specs.Decode.{filled}
use Rattle.opened.specs.declared.Opened.{Opened}
use Rattle.reader_lookup.specs.Asking.{lookup_by}
use Rattle.reader_check.specs.FullCheck as Rules
use Rattle.reader_check.specs.FullCheck.{rule, lowest_broken}
use Rattle.tzb_record.specs.Layout.{record_of}
use Rattle.tzb_asked.specs.Asked.{zones_asked, name_asked, ends_asked, ends_after, choice_asked, candidate_asked, contains_asked, decode_asked, lookup_asked, list_asked, contains_asked_by, lookup_asked_by, list_asked_by, need_asked, stripes_asked}
use Rattle.reader_ways.specs.Ways.{Way, plain, striped}
use Rattle.tzb_asked.proofs.Zones.{found_below}
use Rattle.tzb.specs.Opening.{opened_is}
use Rattle.tzb.specs.FullCheck.{full_check_of}
use Rattle.tzb_codes.specs.Codes.{refusal_code, done_code, zone_code, check_code, rule_of, number_code}
use Rattle.tzb_c.specs.Opens.{open_into, lookup_once}
use Rattle.tzb_c.proofs.Kept.{once_small}
use Rattle.exported.specs.Words.{last_number, refusing, Refuses}
use Rattle.exported.specs.Demand1.{NumberOrRefusal, NumberOrAsItWas, DoneOrAsItWas, ZoneNoneOrRefusal, Demand1}
use Rattle.exported.proofs.Meaning.{open_answer, open_memory, full_check_answer, rule_answer, lookup_answer, contains_answer, ask_answer, choice_answer, all_answer, all_memory, decode_answer, decode_memory, name_answer, name_memory, start_answer, end_answer, candidate_answer, zone_count_answer, map_answer, map_memory, map_length_answer, need_answer, stripes_answer, stripes_memory, contains_striped_answer, ask_striped_answer, all_striped_answer, all_striped_memory, journal_ask_answer, journal_ask_memory, journal_write_answer, journal_write_memory, journal_read_answer, journal_read_position, journal_read_zones}
use Rattle.exported.proofs.Tabled.{Tabled, given, need_t, then_t, raised, higher}
use Rattle.exported.proofs.Opening.{open_tabled}
use Rattle.exported.proofs.Questions.{record_q, bounds_q, candidates_q, candidate_q, decode_q, lookup_q, contains_by_q, lookup_by_q, list_by_q}
use Rattle.exported.proofs.Room.{into_tabled}
use Rattle.exported.proofs.Checks.{Checks, refused_by_law, accepts, breaks, checks}
use Rattle.exported.proofs.Codes.{apart, refusal_below, same_number, refuses, number_told, start_told, end_told, kind_told, inside_told, zone_told}
use Rattle.exported.proofs.Built.{stripes_tabled, need_roomless, lent_told, need_told}
use Rattle.exported.proofs.Maps.{map_tabled, length_tabled, map_told, length_told}
use Rattle.tzb_map.specs.Map.{map_of, map_in}
use Rattle.plane.specs.Places.{point}
use Rattle.replies.specs.Replies.{in_zone, Outcome}
use Rattle.answer.proofs.AnswersLaws.{then_inv, ok_inv}
use Rattle.entries.specs.Entry.{Entry, entry, entry_wide}
use Rattle.entries.specs.Forms.{formed, laid_of, write_of}
use Rattle.entries.specs.Reading.{entry_is, entry_of}
use Rattle.tzb_journal.specs.Journal.{offered, journal_asked, journal_written, journal_read, position_of, count_and_reason}

-- ---- every refusal is from the table
pub once_tabled : (file : List ℕ) (lng lat : Float) → Tabled 46 (lookup_once file lng lat)
unfolding lookup_once
once_tabled file lng lat = then_t _ _ (higher 34 46 (omega arith) _ (open_tabled file)) (λ o. lookup_q o file lng lat)

-- of a question with the record as bytes
asked : {A : Type 0} (held : List ℕ) (f : Opened → Answer A) → ((o : Opened) → Tabled 46 (f o)) → Tabled last_number (record_of held then f)
asked held f h = higher 46 last_number (omega arith) _ (then_t (record_of held) f (record_q held) h)

module _ (held file : List ℕ) where
  zones_tabled : Tabled last_number (zones_asked held)
  unfolding zones_asked
  zones_tabled = asked held (λ o. ok o.zones.count) (λ o. given _)

  -- by either way
  pub contains_tabled : (w : Way) (zone : ℕ) (q : I32Point) → Tabled last_number (contains_asked_by w held file zone q)
  unfolding contains_asked_by
  contains_tabled w zone q = asked held _ (λ o. contains_by_q o file w zone q)

  pub ask_tabled : (w : Way) (lng lat : Float) → Tabled last_number (lookup_asked_by w held file lng lat)
  unfolding lookup_asked_by
  ask_tabled w lng lat = asked held _ (λ o. lookup_by_q o file w lng lat)

  list_tabled : (w : Way) (lng lat : Float) (places : ℕ) → Tabled last_number (list_asked_by w held file lng lat places)
  unfolding list_asked_by
  list_tabled w lng lat places = asked held _ (λ o. list_by_q o file w lng lat places)

  decode_tabled : (chunk : ℕ) (out : List ℤ) → Tabled last_number (decode_asked held file chunk out)
  unfolding decode_asked
  decode_tabled chunk out = asked held _ (λ o. decode_q o file chunk out)

  name_tabled : (zone : ℕ) → Tabled last_number (name_asked held file zone)
  unfolding name_asked
  name_tabled zone = asked held _ (λ o. bounds_q file _ _ zone)

  ends_tabled : (zone room : ℕ) → Tabled last_number (ends_asked held file zone room)
  unfolding ends_asked
  ends_tabled zone room = then_t _ _ (name_tabled zone) (λ e. need_t 46 (at_most 2 room) _ refl (given _))

  choice_tabled : (lng lat : Float) → Tabled last_number (choice_asked held file lng lat)
  unfolding choice_asked
  choice_tabled lng lat = asked held _ (λ o. candidates_q o file lng lat)

  candidate_tabled : (place : ℕ) → Tabled last_number (candidate_asked held file place)
  unfolding candidate_asked
  candidate_tabled place = asked held _ (λ o. candidate_q o file place)

-- the journal's calls: 44, 50 and 46
laid_tabled : (places : ℕ) (e : Entry) (room : List ℕ) → Tabled last_number (laid_of places e room)
unfolding laid_of
laid_tabled places e room = need_t 46 (at_most (entry_wide places) (length room)) _ refl (given _)

journal_ask_tabled : (held file : List ℕ) (places : ℕ) (q : I32Point) (room : List ℕ) → Tabled last_number (journal_asked held file places q room)
unfolding journal_asked
journal_ask_tabled held file places q room = then_t _ _ (higher 46 last_number (omega arith) _ (record_q held)) (λ o. need_t 50 (offered places) _ refl (laid_tabled places _ room))

journal_write_tabled : (places : ℕ) (e : Entry) (room : List ℕ) → Tabled last_number (journal_written places e room)
unfolding journal_written write_of
journal_write_tabled places e room = need_t 50 (offered places) _ refl (need_t 50 (formed places e) _ refl (laid_tabled places e room))

journal_read_tabled : (places : ℕ) (s : List ℕ) (numbers room : ℕ) → Tabled last_number (journal_read places s numbers room)
unfolding journal_read entry_of
journal_read_tabled places s numbers room =
    need_t 50 (offered places) _ refl (then_t _ _ (need_t 50 (entry_is places s) _ refl (given _)) (λ e. need_t 46 (at_most 2 numbers && at_most (length e.zones) room) _ refl (given e)))

-- ---- a refusal leaves lent memory as it was
kept_told : (memory : List ℕ) (x : Answer (List ℕ)) → Tabled last_number x → DoneOrAsItWas (done_code x) memory (left memory x)
kept_told memory (ok l) h = inl refl
kept_told memory (refused k) h = inr (refuses k h.by, refl)

ends_told : (ends : List ℕ) (x : Answer (ℕ × ℕ)) → Tabled last_number x → DoneOrAsItWas (done_code x) ends (ends_after ends x)
ends_told ends (ok e) h = inl refl
ends_told ends (refused k) h = inr (refuses k h.by, refl)

places_told : (places : List ℕ) (x : Answer (List ℕ)) → Tabled last_number x → NumberOrAsItWas (number_code (how_many x)) places (left places x)
places_told places (ok l) h = inl (length l, refl)
places_told places (refused k) h = inr (refuses k h.by, refl)

numbers_told : (numbers : List ℤ) (x : Answer (List I32Point)) → Tabled last_number x → NumberOrAsItWas (number_code (how_many x)) numbers (filled numbers x)
numbers_told numbers (ok l) h = inl (length l, refl)
numbers_told numbers (refused k) h = inr (refuses k h.by, refl)

entry_told_law : (position : List ℤ) (zones : List ℕ) (x : Answer Entry) → Tabled last_number x
    → ((n : ℕ) × (number_code (x then λ e. ok (count_and_reason e)) ≡ pos n))
    ⊎ (Refuses (number_code (x then λ e. ok (count_and_reason e))) × (left position (x then λ e. ok (position_of e)) ≡ position) × (left zones (x then λ e. ok e.zones) ≡ zones))
entry_told_law position zones (ok e) h = inl (count_and_reason e, refl)
entry_told_law position zones (refused k) h = inr (refuses k h.by, refl, refl)

-- an answer and memory that are equal to such
module _ {A : Type 0} {r s : ℤ} {before after left : List A} where
  done_as : r ≡ s → after ≡ left → DoneOrAsItWas s before left → DoneOrAsItWas r before after
  done_as e f (inl z) = inl (e ∙ z)
  done_as e f (inr t) = inr (subst Refuses (sym e) t.0, f ∙ t.1)

  number_as : r ≡ s → after ≡ left → NumberOrAsItWas s before left → NumberOrAsItWas r before after
  number_as e f (inl t) = inl (t.0, e ∙ t.1)
  number_as e f (inr t) = inr (subst Refuses (sym e) t.0, f ∙ t.1)

read_as : {A B : Type 0} {r s : ℤ} {before after left : List A} {before' after' left' : List B} → r ≡ s → after ≡ left → after' ≡ left'
    → ((n : ℕ) × (s ≡ pos n)) ⊎ (Refuses s × (left ≡ before) × (left' ≡ before')) → ((n : ℕ) × (r ≡ pos n)) ⊎ (Refuses r × (after ≡ before) × (after' ≡ before'))
read_as e f g (inl t) = inl (t.0, e ∙ t.1)
read_as e f g (inr t) = inr (subst Refuses (sym e) t.0, f ∙ t.1, g ∙ t.2)

-- ---- the full check
abbrev Rule : ℕ → Type 0
Rule r = (r ≡ 0) ⊎ ((2 ≤ r) × (r ≤ 6))

pub lowest_rule : (o : Opened) (s : List ℕ) → Rule (lowest_broken o s)
unfolding lowest_broken rule
lowest_rule o s =
    on 2 (omega arith) (omega arith) (Rules.records_hold o s) _
    (on 3 (omega arith) (omega arith) (Rules.chunks_decode o s) _
    (on 2 (omega arith) (omega arith) (Rules.rings_have_room o s) _
    (on 4 (omega arith) (omega arith) (Rules.chunk_boxes_cover o s) _
    (on 5 (omega arith) (omega arith) (Rules.groups_cover o s) _
    (on 6 (omega arith) (omega arith) (Rules.boxes_cover o s) 0 (inl refl))))))
  where
    on : (n : ℕ) → 2 ≤ n → n ≤ 6 → (b : Bool) (after : ℕ) → Rule after → Rule (rule n b after)
    on n l g true after h = h
    on n l g false after h = inr (l, g)

module _ (file : List ℕ) where
  abbrev Check : Outcome → Type 0
  Check x = (check_code x ≡ pos 0) ⊎ Refuses (check_code x)

  check_of_law : Checks file → Check (full_check_of file)
  check_of_law (refused_by_law k h e f) = subst Check f (inr (refuses k (raised 34 last_number (omega arith) k h)))
  check_of_law (accepts e z f) = subst Check f (inl refl)
  check_of_law (breaks e z f) = subst Check f (inr (refuses (refusal 47) (record { least = omega arith; greatest = omega arith })))

  rule_of_law : Checks file → Rule (rule_of (full_check_of file))
  rule_of_law (refused_by_law k h e f) = subst (λ (x : Outcome). Rule (rule_of x)) f (inl refl)
  rule_of_law (accepts e z f) = subst (λ (x : Outcome). Rule (rule_of x)) f (inl refl)
  rule_of_law (breaks e z f) = subst (λ (x : Outcome). Rule (rule_of x)) f (lowest_rule (opened_is file) file)

-- ---- a zone
ask_below : (w : Way) (held file : List ℕ) (lng lat : Float) (zones : ℕ) → ok zones ≡ zones_asked held → (zone : ℕ) → ok (in_zone zone) ≡ lookup_asked_by w held file lng lat → zone < zones
unfolding zones_asked lookup_asked_by
ask_below w held file lng lat zones e zone f =
    let t = then_inv (record_of held) (λ o. ok o.zones.count) zones e in
    let u = then_inv (record_of held) (λ o. lookup_by w o file lng lat) (in_zone zone) f in
    let same : t.0 ≡ u.0 = ok_inv t.0 u.0 (t.1 ∙ sym u.1) in
    let count : zones ≡ t.0.zones.count = ok_inv zones t.0.zones.count t.2 in
    let here : t.0.zones.count ≡ u.0.zones.count = ap (λ (o : Opened). o.zones.count) same in
    omega (arith, found_below w zone u.0 file lng lat u.2)

given_number : (x : Answer ℕ) (n : ℕ) → pos n ≡ number_code x → ok n ≡ x
given_number (ok m) n e = ap ok (same_number n m e)
given_number (refused k) n e = absurd (refusal_below n k e)

-- a record of which the number of zones is refused is refused first of all
barred_told : {A : Type 0} (x : Answer Opened) (f : Opened → Answer A) (code : Answer A → ℤ) → ((k : Refusal) → code (refused k) ≡ refusal_code k) → Tabled 46 x
    → Refuses (number_code (x then λ o. ok o.zones.count)) → Refuses (code (x then f))
barred_told (ok o) f code h t w = absurd (apart o.zones.count _ w.tells)
barred_told (refused k) f code h t w = subst Refuses (sym (h k)) (refuses k (raised 46 last_number (omega arith) k t.by))

ask_barred : (w : Way) (held file : List ℕ) (lng lat : Float) → Refuses (number_code (zones_asked held)) → Refuses (zone_code (lookup_asked_by w held file lng lat))
unfolding zones_asked lookup_asked_by
ask_barred w held file lng lat f = barred_told (record_of held) (λ o. lookup_by w o file lng lat) zone_code (λ k. refl) (record_q held) f

pub demand_1 : (file : List ℕ) → Demand1 file
demand_1 file =
    record {
      opening = λ memory r after c. done_as (open_answer c) (open_memory c) (kept_told memory (open_into file memory) (into_tabled file memory));
      full_check = λ r c. subst (λ (z : ℤ). (z ≡ pos 0) ⊎ Refuses z) (sym (full_check_answer c)) (check_of_law file (checks file));
      rule = λ r c. subst Rule (sym (rule_answer c)) (rule_of_law file (checks file));
      lookup = λ lng lat r c. subst (ZoneNoneOrRefusal 65_535) (sym (lookup_answer c)) (zone_told 65_535 (lookup_once file lng lat) (higher 46 last_number (omega arith) _ (once_tabled file lng lat)) (once_small file lng lat));
      ask = λ held zones n lng lat r c.
          subst (ZoneNoneOrRefusal zones) (sym (ask_answer c)) (zone_told zones (lookup_asked held file lng lat) (ask_tabled held file plain lng lat) (ask_below plain held file lng lat zones (given_number (zones_asked held) zones (zone_count_answer n))));
      ask_barred = λ held q n w lng lat r c. subst Refuses (sym (ask_answer c)) (ask_barred plain held file lng lat (subst Refuses (zone_count_answer n) w));
      contains = λ held zone x y r c.
          subst (λ (z : ℤ). ((z ≡ pos 1) ⊎ (z ≡ pos 0)) ⊎ Refuses z) (sym (contains_answer c)) (inside_told (contains_asked held file zone (point x y)) (contains_tabled held file plain zone (point x y)));
      zone_count = λ held r c. subst NumberOrRefusal (sym (zone_count_answer c)) (number_told (zones_asked held) (zones_tabled held file));
      ask_all = λ held lng lat places r after c. number_as (all_answer c) (all_memory c) (places_told places (list_asked held file lng lat (length places)) (list_tabled held file plain lng lat (length places)));
      decode = λ held chunk numbers r after c. number_as (decode_answer c) (decode_memory c) (numbers_told numbers (decode_asked held file chunk numbers) (decode_tabled held file chunk numbers));
      name = λ held zone ends r after c. done_as (name_answer c) (name_memory c) (ends_told ends (ends_asked held file zone (length ends)) (ends_tabled held file zone (length ends)));
      name_start = λ held zone r c. subst NumberOrRefusal (sym (start_answer c)) (start_told (name_asked held file zone) (name_tabled held file zone));
      name_end = λ held zone r c. subst NumberOrRefusal (sym (end_answer c)) (end_told (name_asked held file zone) (name_tabled held file zone));
      choice = λ held lng lat r c. subst NumberOrRefusal (sym (choice_answer c)) (kind_told (choice_asked held file lng lat) (choice_tabled held file lng lat));
      candidate = λ held place r c. subst NumberOrRefusal (sym (candidate_answer c)) (number_told (candidate_asked held file place) (candidate_tabled held file place));
      map = λ zone memory r after c. number_as (map_answer c) (map_memory c) (map_told memory (map_in file zone (length memory)) (map_tabled file zone (length memory)));
      map_length = λ zone r c. subst (λ (z : ℤ). NumberOrRefusal z × (z ≡ refusing 46 → ⊥)) (sym (map_length_answer c)) (length_told (map_of file zone) (length_tabled file zone));
      stripes = λ held lent r after c. number_as (stripes_answer c) (stripes_memory c) (lent_told lent (stripes_asked held file (length lent)) (stripes_tabled held file (length lent)));
      stripes_need_law = λ held r c. subst (λ (z : ℤ). NumberOrRefusal z × (z ≡ refusing 46 → ⊥)) (sym (need_answer c)) (need_told (need_asked held file) (need_roomless held file));
      contains_striped = λ held numbers zone x y r c.
          subst (λ (z : ℤ). ((z ≡ pos 1) ⊎ (z ≡ pos 0)) ⊎ Refuses z) (sym (contains_striped_answer c))
          (inside_told (contains_asked_by (striped numbers) held file zone (point x y)) (contains_tabled held file (striped numbers) zone (point x y)));
      ask_striped = λ held numbers zones n lng lat r c.
          subst (ZoneNoneOrRefusal zones) (sym (ask_striped_answer c))
          (zone_told zones (lookup_asked_by (striped numbers) held file lng lat) (ask_tabled held file (striped numbers) lng lat) (ask_below (striped numbers) held file lng lat zones (given_number (zones_asked held) zones (zone_count_answer n))));
      ask_striped_barred = λ held numbers q n w lng lat r c. subst Refuses (sym (ask_striped_answer c)) (ask_barred (striped numbers) held file lng lat (subst Refuses (zone_count_answer n) w));
      ask_all_striped = λ held numbers lng lat places r after c.
          number_as (all_striped_answer c) (all_striped_memory c) (places_told places (list_asked_by (striped numbers) held file lng lat (length places)) (list_tabled held file (striped numbers) lng lat (length places)));
      journal_ask = λ held places x y memory r after c.
          done_as (journal_ask_answer c) (journal_ask_memory c) (kept_told memory (journal_asked held file places (point x y) memory) (journal_ask_tabled held file places (point x y) memory));
      journal_write = λ places x y zones reason memory r after c.
          done_as (journal_write_answer c) (journal_write_memory c) (kept_told memory (journal_written places (entry (point x y) zones reason) memory) (journal_write_tabled places (entry (point x y) zones reason) memory));
      journal_read_law = λ places bytes position zones r position' zones' c.
          read_as (journal_read_answer c) (journal_read_position c) (journal_read_zones c)
          (entry_told_law position zones (journal_read places bytes (length position) (length zones)) (journal_read_tabled places bytes (length position) (length zones)));
    }
