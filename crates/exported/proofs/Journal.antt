-- The exact answers of the journal's calls (specs/Journal), for every record, file, position and memory.
-- Assumes nothing.
use Prim.Native.Nat.{ℕ, ◌+◌, ◌*◌, ◌≤◌, ◌<◌}
use native.Mathlib.Omega.{arith}
use mathlib.Core.Path.{◌≡◌, refl, sym, ap, ap₂, subst, ◌∙◌}
use mathlib.Core.Bool.{Bool, true, false, ◌&&◌, cond, false≢true}
use mathlib.Core.List.{List, [], ◌∷◌, ◌++◌}
use mathlib.Core.Logic.{◌⊎◌, inl, inr}
use lib.IntN.{ℤ, pos}
use lib.Dec.{leb}
use lib.ListN.{length, take, drop, get_or}
use lib.Seq.{take_at}
use mir.Syntax.{w32}
use mir.Val.{SFits}
use borrow.Author.Tests.{leb-true, leb-false}
use Rattle.basics.specs.Truth.{and_i, and_r}
use Rattle.basics.specs.Picked.{and_no}
use Rattle.plane.specs.declared.I32Point.{I32Point}
use Rattle.plane.specs.Places.{point}
use Rattle.fields.proofs.Rows.{row_long}
use Rattle.answer.specs.Refusals.{refusal}
use Rattle.answer.specs.Answers.{Answer, ok, no, refused, need, ◌then◌, left}
use Rattle.answer.specs.Checks.{at_most, same}
use Rattle.answer.proofs.CheckLaws.{le_at, gt_at, eq_same, at_le, same_eq}
use Rattle.answer.proofs.AnswersLaws.{then_ok, need_met, need_not, left_no, left_is}
use Rattle.opened.specs.declared.Opened.{Opened}
use Rattle.entries.specs.Entry.{Entry, entry, widths, entry_wide, numbers_of, bytes_of}
use Rattle.entries.specs.Forms.{zones_form, refusal_form, formed, laid_of, write_of}
use Rattle.entries.specs.Reading.{entry_is, entry_of, Held}
use Rattle.entries.proofs.FormsLaws.{formed_few}
use Rattle.entries.proofs.ReadLaws.{entry_wide_law, write_on}
use Rattle.entries.proofs.RoundTrip.{written_back, written_again, read_formed}
use Rattle.tzb_record.specs.Layout.{opened_in, record_of}
use Rattle.tzb_record.proofs.LayoutLaws.{record_none, record_is}
use Rattle.tzb_journal.specs.Journal.{offered, answer_of, noted, entry_for, journal_asked, journal_written, journal_read, position_of, count_and_reason}
use Rattle.tzb_journal.proofs.JournalLaws.{note_refused, ask_no, ask_other, ask_is, written_other, written_is, read_no, read_on}
use Rattle.tzb_codes.specs.Codes.{done_code, number_code}
use Rattle.tzb_codes.proofs.CodesLaws.{code_small}
use Rattle.tzb.specs.Opening.{open_of}
use Rattle.exported.specs.Calls.{TzbJournalAsk, TzbJournalWrite, TzbJournalRead}
use Rattle.exported.specs.Words.{refusing, Bytes}
use Rattle.exported.specs.Journal.{asked_entry, entry_in, Stands, ReadBack, JournalAskAnswers, JournalWriteAnswers, JournalReadAnswers}
use Rattle.exported.proofs.Meaning.{journal_ask_answer, journal_ask_memory, journal_write_answer, journal_write_memory, journal_read_answer, journal_read_position, journal_read_zones}
use Rattle.exported.proofs.Tabled.{given, higher}
use Rattle.exported.proofs.Opening.{open_tabled}
use Rattle.exported.proofs.Codes.{apart, same_number, same_refusing}
use Rattle.exported.proofs.Noted.{always_formed, outside_noted}

-- ---- opening and asking at once: the entry is of the forms, and opening's refusal stands in it
module _ (places : ℕ) (file : List ℕ) (q : I32Point) where
  pub opening_noted : formed places (entry_for places (open_of file) file q) ≡ true
  opening_noted = always_formed places (open_of file) (higher 34 46 (omega arith) _ (open_tabled file)) file q

  pub opening_stands : (n : ℕ) → no n ≡ open_of file → entry q [] n ≡ entry_for places (open_of file) file q
  opening_stands n h = note_refused places file q (open_of file) (refusal n) h

-- ---- this or that
same_or_not : (n m : ℕ) → (n ≡ m) ⊎ (n ≡ m → ⊥)
same_or_not n m = go (same n m) refl
  where
    go : (b : Bool) → same n m ≡ b → (n ≡ m) ⊎ (n ≡ m → ⊥)
    go true e = inl (same_eq n m e)
    go false e = inr (λ f. false≢true (sym e ∙ eq_same n m f))

room_or_not : (m n : ℕ) → (m ≤ n) ⊎ (n < m)
room_or_not m n = go (leb m n) refl
  where
    go : (b : Bool) → leb m n ≡ b → (m ≤ n) ⊎ (n < m)
    go true e = inl (leb-true m n e)
    go false e = inr (leb-false m n e)

so_or_not : (b : Bool) → (b ≡ true) ⊎ (b ≡ false)
so_or_not true = inl refl
so_or_not false = inr refl

-- ---- what a call tells and leaves, where its answer is refused, and where it is bytes
told_no : (x : Answer (List ℕ)) (memory : List ℕ) (n : ℕ) → n < 1000 → no n ≡ x → (done_code x ≡ refusing n) × (left memory x ≡ memory)
told_no x memory n l e = (sym (ap done_code e) ∙ sym (code_small (refusal n) l), sym (left_no x (refusal n) e memory))

module _ (places : ℕ) where
  -- how many bytes an entry has
  bytes_long : (e : Entry) → length (bytes_of places e) ≡ entry_wide places
  unfolding bytes_of
  bytes_long e = row_long (widths places) (numbers_of places e) ∙ entry_wide_law places

  told_ok : (x : Answer (List ℕ)) (memory : List ℕ) (e : Entry) → ok (bytes_of places e) ≡ x → (done_code x ≡ pos 0) × (left memory x ≡ bytes_of places e ++ drop (entry_wide places) memory)
  told_ok x memory e h = (sym (ap done_code h), sym (left_is x (bytes_of places e) h memory) ∙ ap (λ (k : ℕ). bytes_of places e ++ drop k memory) (bytes_long e))

  first_bytes : (e : Entry) (memory after : List ℕ) → after ≡ bytes_of places e ++ drop (entry_wide places) memory → take (entry_wide places) after ≡ bytes_of places e
  first_bytes e memory after h = ap (take (entry_wide places)) h ∙ take_at (bytes_of places e) (drop (entry_wide places) memory) (entry_wide places) (bytes_long e)

  -- ---- an entry into lent memory
  laid_none : (e : Entry) (room : List ℕ) → length room < entry_wide places → no 46 ≡ laid_of places e room
  unfolding laid_of
  laid_none e room h = need_not 46 (at_most (entry_wide places) (length room)) (ok (bytes_of places e)) (gt_at (entry_wide places) (length room) h)

  laid_is : (e : Entry) (room : List ℕ) → entry_wide places ≤ length room → ok (bytes_of places e) ≡ laid_of places e room
  unfolding laid_of
  laid_is e room h = need_met 46 (at_most (entry_wide places) (length room)) (ok (bytes_of places e)) (le_at (entry_wide places) (length room) h)

  -- ---- reading
  entry_is_law : (s : List ℕ) → entry_is places s ≡ true → ok (entry_in places s) ≡ entry_of places s
  unfolding entry_of
  entry_is_law s h = need_met 50 (entry_is places s) (ok (entry_in places s)) h

  entry_not : (s : List ℕ) → entry_is places s ≡ false → no 50 ≡ entry_of places s
  unfolding entry_of
  entry_not s h = need_not 50 (entry_is places s) (ok (entry_in places s)) h

module _ (places : ℕ) (s : List ℕ) (numbers room : ℕ) (g : offered places ≡ true) where
  abbrev lent : Entry → Bool
  lent e = at_most 2 numbers && at_most (length e.zones) room

  read_other : no 50 ≡ entry_of places s → no 50 ≡ journal_read places s numbers room
  read_other h = ap (λ (x : Answer Entry). x then λ e. need 46 (lent e) (ok e)) h ∙ read_on places s numbers room g

  module _ (e : Entry) (h : ok e ≡ entry_of places s) where
    read_by_law : need 46 (lent e) (ok e) ≡ journal_read places s numbers room
    read_by_law = then_ok (entry_of places s) (λ e. need 46 (lent e) (ok e)) e h ∙ read_on places s numbers room g

    read_none : (numbers < 2) ⊎ (room < length e.zones) → no 46 ≡ journal_read places s numbers room
    read_none k = need_not 46 (lent e) (ok e) (barred k) ∙ read_by_law
      where
        barred : (numbers < 2) ⊎ (room < length e.zones) → lent e ≡ false
        barred (inl a) = sym (and_no _ _ (gt_at 2 numbers a))
        barred (inr a) = go (at_most 2 numbers)
          where
            go : (b : Bool) → b && at_most (length e.zones) room ≡ false
            go true = gt_at (length e.zones) room a
            go false = refl

    read_is : 2 ≤ numbers → length e.zones ≤ room → ok e ≡ journal_read places s numbers room
    read_is a b = need_met 46 (lent e) (ok e) (and_i _ _ (le_at 2 numbers a) (le_at (length e.zones) room b)) ∙ read_by_law

-- what a call tells and leaves
module _ (x : Answer Entry) where
  abbrev number : ℤ
  number = number_code (x then λ e. ok (count_and_reason e))

  entry_refused : (n : ℕ) → n < 1000 → no n ≡ x → number ≡ refusing n
  entry_refused n l h = sym (ap (λ (y : Answer Entry). number_code (y then λ e. ok (count_and_reason e))) h) ∙ sym (code_small (refusal n) l)

  entry_stands : (position : List ℤ) (zones : List ℕ) (e : Entry) → ok e ≡ x
      → Stands e position zones number (left position (x then λ e. ok (position_of e))) (left zones (x then λ e. ok e.zones))
  entry_stands position zones e h =
      record {
        tells = sym (ap (λ (y : Answer Entry). number_code (y then λ e. ok (count_and_reason e))) h);
        at = sym (ap (λ (y : Answer Entry). left position (y then λ e. ok (position_of e))) h);
        in_zones = sym (ap (λ (y : Answer Entry). left zones (y then λ e. ok e.zones)) h);
      }

stands_as : {e : Entry} {position : List ℤ} {zones : List ℕ} {r r' : ℤ} {p p' : List ℤ} {z z' : List ℕ} → r' ≡ r → p' ≡ p → z' ≡ z → Stands e position zones r p z → Stands e position zones r' p' z'
stands_as a b c h = record { tells = a ∙ h.tells; at = b ∙ h.at; in_zones = c ∙ h.in_zones }

-- ---- a call of tzb_journal_read, of places that are offered
module _ (places : ℕ) (g : offered places ≡ true) (s : List ℕ) where
  told_entry_law : (position : List ℤ) (zones : List ℕ) (r : ℤ) (position' : List ℤ) (zones' : List ℕ) → TzbJournalRead places s position zones r position' zones'
      → (e : Entry) → ok e ≡ entry_of places s → 2 ≤ length position → length e.zones ≤ length zones → Stands e position zones r position' zones'
  told_entry_law position zones r position' zones' c e h a b =
      stands_as (journal_read_answer c) (journal_read_position c) (journal_read_zones c)
      (entry_stands (journal_read places s (length position) (length zones)) position zones e (read_is places s (length position) (length zones) g e h a b))

  -- reading back gives what was written
  back : (e : Entry) → s ≡ bytes_of places e → formed places e ≡ true → Held e → ReadBack places s e
  back e b f h position zones r position' zones' c l m =
      told_entry_law position zones r position' zones' c e (written_back places e (omega (arith, same_eq places 3 g)) h f ∙ ap (entry_of places) (sym b)) l (omega (arith, formed_few places e f))

-- an entry of a position whose x and y are numbers of 32 bits
held_by : (e : Entry) (q : I32Point) → e.at ≡ q → SFits w32 q.x → SFits w32 q.y → Held e
held_by e q h fx fy = record { x = subst (λ (p : I32Point). SFits w32 p.x) (sym h) fx; y = subst (λ (p : I32Point). SFits w32 p.y) (sym h) fy }

-- what is noted of a position is of that position
noted_at : (places : ℕ) (x : Answer Opened) (s : List ℕ) (q : I32Point) → (entry_for places x s q).at ≡ q
unfolding entry_for
noted_at places x s q = go (x then λ o. answer_of places o s q)
  where
    go : (a : Answer (List ℕ)) → (noted q a).at ≡ q
    go (ok l) = refl
    go (refused k) = refl

-- ---- tzb_journal_ask
data Asked (held file : List ℕ) (places : ℕ) (x y : ℤ) (memory : List ℕ) (r : ℤ) (after : List ℕ) : Type 0 where
  refused_by_law : (n : ℕ) → r ≡ refusing n → after ≡ memory → Asked held file places x y memory r after
  noted_as : offered places ≡ true → r ≡ pos 0 → after ≡ bytes_of places (asked_entry held file places x y) ++ drop (entry_wide places) memory → Asked held file places x y memory r after

module _ (held file : List ℕ) (places : ℕ) (x y : ℤ) (memory : List ℕ) (r : ℤ) (after : List ℕ) (c : TzbJournalAsk held file places x y memory r after) where
  abbrev asked : Answer (List ℕ)
  asked = journal_asked held file places (point x y) memory

  ask_barred : (n : ℕ) → n < 1000 → no n ≡ asked → (r ≡ refusing n) × (after ≡ memory)
  ask_barred n l h = let t = told_no asked memory n l h in (journal_ask_answer c ∙ t.0, journal_ask_memory c ∙ t.1)

  ask_44 : (length held ≡ 84 → ⊥) → (r ≡ refusing 44) × (after ≡ memory)
  ask_44 h = ask_barred 44 (omega arith) (ask_no held file places (point x y) memory (refusal 44) (record_none held h))

  module _ (h : length held ≡ 84) where
    opened_record : ok (opened_in held) ≡ record_of held
    opened_record = record_is held (opened_in held) h refl

    ask_50 : offered places ≡ false → (r ≡ refusing 50) × (after ≡ memory)
    ask_50 g = ask_barred 50 (omega arith) (ask_other held file places (point x y) memory (opened_in held) opened_record g)

    module _ (g : offered places ≡ true) where
      ask_laid : laid_of places (asked_entry held file places x y) memory ≡ asked
      ask_laid = ask_is held file places (point x y) memory (opened_in held) opened_record g

      ask_46 : length memory < entry_wide places → (r ≡ refusing 46) × (after ≡ memory)
      ask_46 l = ask_barred 46 (omega arith) (laid_none places (asked_entry held file places x y) memory l ∙ ask_laid)

      ask_0 : entry_wide places ≤ length memory → (r ≡ pos 0) × (after ≡ bytes_of places (asked_entry held file places x y) ++ drop (entry_wide places) memory)
      ask_0 l =
          let t = told_ok places asked memory (asked_entry held file places x y) (laid_is places (asked_entry held file places x y) memory l ∙ ask_laid) in
          (journal_ask_answer c ∙ t.0, journal_ask_memory c ∙ t.1)

  abbrev A : Type 0
  A = Asked held file places x y memory r after

  ask_kinds : A
  ask_kinds = by_record (same_or_not (length held) 84)
    where
      barred : (n : ℕ) → (r ≡ refusing n) × (after ≡ memory) → A
      barred n t = refused_by_law n t.0 t.1

      by_room : length held ≡ 84 → offered places ≡ true → (entry_wide places ≤ length memory) ⊎ (length memory < entry_wide places) → A
      by_room h g (inl l) = let t = ask_0 h g l in noted_as g t.0 t.1
      by_room h g (inr l) = barred 46 (ask_46 h g l)

      by_places : length held ≡ 84 → (offered places ≡ true) ⊎ (offered places ≡ false) → A
      by_places h (inl g) = by_room h g (room_or_not (entry_wide places) (length memory))
      by_places h (inr g) = barred 50 (ask_50 h g)

      by_record : (length held ≡ 84) ⊎ (length held ≡ 84 → ⊥) → A
      by_record (inl h) = by_places h (so_or_not (offered places))
      by_record (inr h) = barred 44 (ask_44 h)

  of_forms_law : formed places (asked_entry held file places x y) ≡ true
  of_forms_law = always_formed places (ok (opened_in held)) (given (opened_in held)) file (point x y)

  -- its position is the one that was asked
  asked_held : SFits w32 x → SFits w32 y → Held (asked_entry held file places x y)
  asked_held = held_by (asked_entry held file places x y) (point x y) (noted_at places (ok (opened_in held)) file (point x y))

  pub journal_ask_answers : JournalAskAnswers held file places x y memory r after
  journal_ask_answers =
      record {
        no_record = λ h. (ask_44 h).0;
        no_places = λ h g. (ask_50 h g).0;
        no_room = λ h g l. (ask_46 h g l).0;
        writes = ask_0;
        unchanged = unchanged ask_kinds;
        of_forms_law = of_forms_law;
        outside = outside_noted places (opened_in held) file (point x y);
        read_back_law = read_back_law ask_kinds;
      }
    where
      unchanged : A → (r ≡ pos 0 → ⊥) → after ≡ memory
      unchanged (refused_by_law n e f) h = f
      unchanged (noted_as g e f) h = absurd (h e)

      read_back_law : A → r ≡ pos 0 → SFits w32 x → SFits w32 y → ReadBack places (take (entry_wide places) after) (asked_entry held file places x y)
      read_back_law (refused_by_law n e f) h = absurd (apart 0 _ (sym h ∙ e))
      read_back_law (noted_as g e f) h = λ fx fy. back places g (take (entry_wide places) after) (asked_entry held file places x y) (first_bytes places (asked_entry held file places x y) memory after f) of_forms_law (asked_held fx fy)

-- ---- tzb_journal_write
data Written (places : ℕ) (e : Entry) (memory : List ℕ) (r : ℤ) (after : List ℕ) : Type 0 where
  formless : (offered places ≡ false) ⊎ (formed places e ≡ false) → r ≡ refusing 50 → after ≡ memory → Written places e memory r after
  roomless : offered places ≡ true → formed places e ≡ true → length memory < entry_wide places → r ≡ refusing 46 → after ≡ memory → Written places e memory r after
  written_as : offered places ≡ true → formed places e ≡ true → entry_wide places ≤ length memory → r ≡ pos 0 → after ≡ bytes_of places e ++ drop (entry_wide places) memory → Written places e memory r after

write_no : (places : ℕ) (e : Entry) (room : List ℕ) → formed places e ≡ false → no 50 ≡ write_of places e room
unfolding write_of
write_no places e room h = need_not 50 (formed places e) (laid_of places e room) h

module _ (places : ℕ) (x y : ℤ) (zones : List ℕ) (reason : ℕ) (memory : List ℕ) (r : ℤ) (after : List ℕ) (c : TzbJournalWrite places x y zones reason memory r after) where
  abbrev given_entry : Entry
  given_entry = entry (point x y) zones reason

  abbrev answer : Answer (List ℕ)
  answer = journal_written places given_entry memory

  write_barred : (n : ℕ) → n < 1000 → no n ≡ answer → (r ≡ refusing n) × (after ≡ memory)
  write_barred n l h = let t = told_no answer memory n l h in (journal_write_answer c ∙ t.0, journal_write_memory c ∙ t.1)

  write_other : offered places ≡ false → (r ≡ refusing 50) × (after ≡ memory)
  write_other g = write_barred 50 (omega arith) (written_other places given_entry memory g)

  module _ (g : offered places ≡ true) where
    write_at : write_of places given_entry memory ≡ answer
    write_at = written_is places given_entry memory g

    write_50 : formed places given_entry ≡ false → (r ≡ refusing 50) × (after ≡ memory)
    write_50 f = write_barred 50 (omega arith) (write_no places given_entry memory f ∙ write_at)

    module _ (f : formed places given_entry ≡ true) where
      write_46 : length memory < entry_wide places → (r ≡ refusing 46) × (after ≡ memory)
      write_46 l = write_barred 46 (omega arith) (laid_none places given_entry memory l ∙ write_on places given_entry memory f ∙ write_at)

      write_0 : entry_wide places ≤ length memory → (r ≡ pos 0) × (after ≡ bytes_of places given_entry ++ drop (entry_wide places) memory)
      write_0 l =
          let t = told_ok places answer memory given_entry (laid_is places given_entry memory l ∙ write_on places given_entry memory f ∙ write_at) in
          (journal_write_answer c ∙ t.0, journal_write_memory c ∙ t.1)

  abbrev W : Type 0
  W = Written places given_entry memory r after

  write_kinds : W
  write_kinds = by_places (so_or_not (offered places))
    where
      by_room : (g : offered places ≡ true) → (f : formed places given_entry ≡ true) → (entry_wide places ≤ length memory) ⊎ (length memory < entry_wide places) → W
      by_room g f (inl l) = let t = write_0 g f l in written_as g f l t.0 t.1
      by_room g f (inr l) = let t = write_46 g f l in roomless g f l t.0 t.1

      by_form : offered places ≡ true → (formed places given_entry ≡ true) ⊎ (formed places given_entry ≡ false) → W
      by_form g (inl f) = by_room g f (room_or_not (entry_wide places) (length memory))
      by_form g (inr f) = let t = write_50 g f in formless (inr f) t.0 t.1

      by_places : (offered places ≡ true) ⊎ (offered places ≡ false) → W
      by_places (inl g) = by_form g (so_or_not (formed places given_entry))
      by_places (inr g) = let t = write_other g in formless (inl g) t.0 t.1

  pub journal_write_answers : JournalWriteAnswers places x y zones reason memory r after
  journal_write_answers =
      record {
        no_form = (form_go write_kinds, form_back);
        no_room = (room_go write_kinds, λ t. (write_46 t.0 t.1 t.2).0);
        writes = (writes_go write_kinds, λ t. (write_0 t.0 t.1 t.2).0);
        written = written write_kinds;
        unchanged = unchanged write_kinds;
        read_back_law = read_back_law write_kinds;
      }
    where
      form_go : W → r ≡ refusing 50 → (offered places ≡ false) ⊎ (formed places given_entry ≡ false)
      form_go (formless f e m) h = f
      form_go (roomless g f l e m) h = let z = same_refusing 46 50 (sym e ∙ h) in absurd (omega arith)
      form_go (written_as g f l e m) h = absurd (apart 0 _ (sym e ∙ h))

      -- places that are not offered are 50 whatever the form, and so is an entry of no form whatever the places
      form_back : (offered places ≡ false) ⊎ (formed places given_entry ≡ false) → r ≡ refusing 50
      form_back (inl g) = (write_other g).0
      form_back (inr f) = by (so_or_not (offered places))
        where
          by : (offered places ≡ true) ⊎ (offered places ≡ false) → r ≡ refusing 50
          by (inl g) = (write_50 g f).0
          by (inr g) = (write_other g).0

      room_go : W → r ≡ refusing 46 → (offered places ≡ true) × (formed places given_entry ≡ true) × (length memory < entry_wide places)
      room_go (formless f e m) h = let z = same_refusing 50 46 (sym e ∙ h) in absurd (omega arith)
      room_go (roomless g f l e m) h = (g, f, l)
      room_go (written_as g f l e m) h = absurd (apart 0 _ (sym e ∙ h))

      writes_go : W → r ≡ pos 0 → (offered places ≡ true) × (formed places given_entry ≡ true) × (entry_wide places ≤ length memory)
      writes_go (formless f e m) h = absurd (apart 0 _ (sym h ∙ e))
      writes_go (roomless g f l e m) h = absurd (apart 0 _ (sym h ∙ e))
      writes_go (written_as g f l e m) h = (g, f, l)

      written : W → r ≡ pos 0 → after ≡ bytes_of places given_entry ++ drop (entry_wide places) memory
      written (formless f e m) h = absurd (apart 0 _ (sym h ∙ e))
      written (roomless g f l e m) h = absurd (apart 0 _ (sym h ∙ e))
      written (written_as g f l e m) h = m

      unchanged : W → (r ≡ pos 0 → ⊥) → after ≡ memory
      unchanged (formless f e m) h = m
      unchanged (roomless g f l e m) h = m
      unchanged (written_as g f l e m) h = absurd (h e)

      read_back_law : W → r ≡ pos 0 → SFits w32 x → SFits w32 y → ReadBack places (take (entry_wide places) after) given_entry
      read_back_law (formless f e m) h = absurd (apart 0 _ (sym h ∙ e))
      read_back_law (roomless g f l e m) h = absurd (apart 0 _ (sym h ∙ e))
      read_back_law (written_as g f l e m) h = λ fx fy. back places g (take (entry_wide places) after) given_entry (first_bytes places given_entry memory after m) f (record { x = fx; y = fy })

-- ---- tzb_journal_read
data Read (places : ℕ) (bytes : List ℕ) (position : List ℤ) (zones : List ℕ) (r : ℤ) (position' : List ℤ) (zones' : List ℕ) : Type 0 where
  unread : (n : ℕ) → r ≡ refusing n → position' ≡ position → zones' ≡ zones → Read places bytes position zones r position' zones'
  read_to : offered places ≡ true → (e : Entry) → ok e ≡ entry_of places bytes → Stands e position zones r position' zones' → Read places bytes position zones r position' zones'

-- a reason is 46 at most, so that the count and the reason are told apart
reason_most : (places : ℕ) (e : Entry) → formed places e ≡ true → e.reason ≤ 46
unfolding formed zones_form refusal_form
reason_most places e h = go (same e.reason 0) refl h
  where
    go : (b : Bool) → same e.reason 0 ≡ b → cond b (zones_form places e.at e.zones) (refusal_form e.zones e.reason) ≡ true → e.reason ≤ 46
    go true k g = omega (arith, same_eq e.reason 0 k)
    go false k g = at_le e.reason 46 (and_r (same (length e.zones) 0) _ g)

apart_count : (a b c d : ℕ) → b < 256 → d < 256 → 256 * a + b ≡ 256 * c + d → (a ≡ c) × (b ≡ d)
apart_count a b c d h k e = (omega arith, omega arith)

-- the entry, of what was read
entry_of_law : (e : Entry) (position position' : List ℤ) (zones zones' : List ℕ) (count reason : ℕ) → position' ≡ e.at.x ∷ e.at.y ∷ drop 2 position → zones' ≡ e.zones ++ drop (length e.zones) zones
    → length e.zones ≡ count → e.reason ≡ reason → entry (point (get_or position' 0 (pos 0)) (get_or position' 1 (pos 0))) (take count zones') reason ≡ e
entry_of_law e position position' zones zones' count reason p z n k =
    ap₂ (λ (q : I32Point) (l : List ℕ). entry q l reason) (ap (λ (l : List ℤ). point (get_or l 0 (pos 0)) (get_or l 1 (pos 0))) p) (ap (take count) z ∙ take_at e.zones (drop (length e.zones) zones) count n)
    ∙ ap (entry e.at e.zones) (sym k)

module _ (places : ℕ) (bytes : List ℕ) (position : List ℤ) (zones : List ℕ) (r : ℤ) (position' : List ℤ) (zones' : List ℕ) (c : TzbJournalRead places bytes position zones r position' zones') where
  abbrev all : Answer Entry
  all = journal_read places bytes (length position) (length zones)

  read_barred : (n : ℕ) → n < 1000 → no n ≡ all → (r ≡ refusing n) × (position' ≡ position) × (zones' ≡ zones)
  read_barred n l h = (
    journal_read_answer c ∙ entry_refused all n l h,
    journal_read_position c ∙ sym (ap (λ (y : Answer Entry). left position (y then λ e. ok (position_of e))) h),
    journal_read_zones c ∙ sym (ap (λ (y : Answer Entry). left zones (y then λ e. ok e.zones)) h),
  )

  read_other_places : offered places ≡ false → (r ≡ refusing 50) × (position' ≡ position) × (zones' ≡ zones)
  read_other_places g = read_barred 50 (omega arith) (read_no places bytes (length position) (length zones) g)

  module _ (g : offered places ≡ true) where
    read_50 : entry_is places bytes ≡ false → (r ≡ refusing 50) × (position' ≡ position) × (zones' ≡ zones)
    read_50 h = read_barred 50 (omega arith) (read_other places bytes (length position) (length zones) g (entry_not places bytes h))

    module _ (h : entry_is places bytes ≡ true) where
      read_46 : (length position < 2) ⊎ (length zones < length (entry_in places bytes).zones) → (r ≡ refusing 46) × (position' ≡ position) × (zones' ≡ zones)
      read_46 l = read_barred 46 (omega arith) (read_none places bytes (length position) (length zones) g (entry_in places bytes) (entry_is_law places bytes h) l)

      read_all : 2 ≤ length position → length (entry_in places bytes).zones ≤ length zones → Stands (entry_in places bytes) position zones r position' zones'
      read_all l m = told_entry_law places g bytes position zones r position' zones' c (entry_in places bytes) (entry_is_law places bytes h) l m

  abbrev R : Type 0
  R = Read places bytes position zones r position' zones'

  read_kinds : R
  read_kinds = by_places (so_or_not (offered places))
    where
      barred : (n : ℕ) → (r ≡ refusing n) × (position' ≡ position) × (zones' ≡ zones) → R
      barred n t = unread n t.0 t.1 t.2

      by_zones : offered places ≡ true → entry_is places bytes ≡ true → 2 ≤ length position → (length (entry_in places bytes).zones ≤ length zones) ⊎ (length zones < length (entry_in places bytes).zones) → R
      by_zones g h l (inl m) = read_to g (entry_in places bytes) (entry_is_law places bytes h) (read_all g h l m)
      by_zones g h l (inr m) = barred 46 (read_46 g h (inr m))

      by_position : offered places ≡ true → entry_is places bytes ≡ true → (2 ≤ length position) ⊎ (length position < 2) → R
      by_position g h (inl l) = by_zones g h l (room_or_not (length (entry_in places bytes).zones) (length zones))
      by_position g h (inr l) = barred 46 (read_46 g h (inl l))

      by_entry : offered places ≡ true → (entry_is places bytes ≡ true) ⊎ (entry_is places bytes ≡ false) → R
      by_entry g (inl h) = by_position g h (room_or_not 2 (length position))
      by_entry g (inr h) = barred 50 (read_50 g h)

      by_places : (offered places ≡ true) ⊎ (offered places ≡ false) → R
      by_places (inl g) = by_entry g (so_or_not (entry_is places bytes))
      by_places (inr g) = barred 50 (read_other_places g)

  again : (count reason : ℕ) → reason < 256 → r ≡ pos (256 * count + reason) → Bytes bytes → (memory : List ℕ) (q : ℤ) (after : List ℕ)
      → TzbJournalWrite places (get_or position' 0 (pos 0)) (get_or position' 1 (pos 0)) (take count zones') reason memory q after → entry_wide places ≤ length memory → (q ≡ pos 0) × (after ≡ bytes ++ drop (entry_wide places) memory)
  again count reason k t byte memory q after w l = by read_kinds
    where
      by : R → (q ≡ pos 0) × (after ≡ bytes ++ drop (entry_wide places) memory)
      by (unread n e f g) = absurd (apart (256 * count + reason) _ (sym t ∙ e))
      by (read_to g e h s) =
          let form = read_formed places bytes e h in
          let told : 256 * length e.zones + e.reason ≡ 256 * count + reason = same_number _ _ (sym s.tells ∙ t) in
          let parts = apart_count (length e.zones) e.reason count reason (omega (arith, reason_most places e form)) k told in
          let same = entry_of_law e position position' zones zones' count reason s.at s.in_zones parts.0 parts.1 in
          let done = write_0 places _ _ _ reason memory q after w g (ap (formed places) same ∙ form) l in
          (done.0, done.1 ∙ ap (λ (b : List ℕ). b ++ drop (entry_wide places) memory) (ap (bytes_of places) same ∙ written_again places bytes byte e h))

  pub journal_read_answers : JournalReadAnswers places bytes position zones r position' zones'
  journal_read_answers =
      record {
        no_places = λ g. (read_other_places g).0;
        no_entry = λ g h. (read_50 g h).0;
        no_room = λ g h l. (read_46 g h l).0;
        reads = read_all;
        unchanged = unchanged read_kinds;
        write_again = again;
      }
    where
      unchanged : R → ((n : ℕ) → r ≡ pos n → ⊥) → (position' ≡ position) × (zones' ≡ zones)
      unchanged (unread n e f g) h = (f, g)
      unchanged (read_to g e k s) h = absurd (h _ s.tells)
