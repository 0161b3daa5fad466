-- Laws of specs/Journal, as proofs cite them. Nothing here need be believed.
-- Assumes nothing.
use Prim.Native.Nat.{ℕ, ◌≤◌, ◌<◌}
use native.Mathlib.Omega.{arith}
use mathlib.Core.Path.{◌≡◌, refl, sym, ap, ◌∙◌}
use mathlib.Core.Bool.{Bool, true, false, ◌&&◌}
use mathlib.Core.List.{List, [], ◌∷◌, ◌++◌}
use lib.IntN.{ℤ}
use lib.ListN.{length, take, drop, length-append}
use lib.Seq.{take_at, length-take-le}
use Rattle.basics.specs.Picked.{and_yes, and_no}
use Rattle.plane.specs.declared.I32Point.{I32Point}
use Rattle.answer.specs.declared.Refusal.{Refusal}
use Rattle.answer.specs.Refusals.{refusal}
use Rattle.answer.specs.Answers.{Answer, ok, no, refused, need, ◌then◌, Check, fine, outcome, how_many, left}
use Rattle.answer.specs.Checks.{at_most, failed, claim}
use Rattle.answer.proofs.CheckLaws.{le_at, gt_at, same_eq, fine_claim}
use Rattle.answer.proofs.AnswersLaws.{zero_one, then_ok, then_no, then_inv, ok_inv, need_met, need_not, left_no, left_is}
use Rattle.opened.specs.declared.Opened.{Opened}
use Rattle.entries.specs.Entry.{Entry, entry}
use Rattle.entries.specs.Forms.{all_below, laid_of, write_of}
use Rattle.entries.specs.Reading.{entry_is, entry_of, read_of, head_of}
use Rattle.reader_whole.specs.Whole.{whole_list}
use Rattle.reader_whole.proofs.Meaning.{list_fits}
use Rattle.tzb_record.specs.Layout.{record_of}
use Rattle.tzb_journal.specs.Steps.{unread}
use Rattle.tzb_journal.specs.Journal.{fitting, answer_of, noted, entry_for, offered, journal_asked, journal_written, journal_read, position_of}

-- ---- a list in lent memory, as it was told
many_inv : (x : Answer (List ℕ)) (k : ℕ) → ok k ≡ how_many x → (l : List ℕ) × (ok l ≡ x) × (k ≡ length l)
many_inv x k h = let t = then_inv x (λ l. ok (length l)) k h in (t.0, t.1, ok_inv _ _ t.2)

many_no : (x : Answer (List ℕ)) (k : Refusal) → refused k ≡ how_many x → refused k ≡ x
many_no (ok l) k h = let z : ◌≡◌ {A = ℕ} 0 1 = cc in absurd (omega arith)
many_no (refused r) k h = let e : k ≡ r = cc in ap refused e

-- ---- the entry of an opened file, with n places lent for its zones
module _ (places n : ℕ) (o : Opened) (s : List ℕ) (q : I32Point) (en : n ≡ places) where
  pub note_no : (k : Refusal) → refused k ≡ how_many (whole_list o s q n) → entry q [] k.number ≡ entry_for places (ok o) s q
  unfolding entry_for answer_of
  note_no k h =
      ap (noted q) (then_no (whole_list o s q n) fitting k (many_no (whole_list o s q n) k h))
      ∙ ap (λ (m : ℕ). noted q (whole_list o s q m then fitting)) en

  module _ (k : ℕ) (h : ok k ≡ how_many (whole_list o s q n)) (before held : List ℕ) (e : held ≡ left before (whole_list o s q n)) where
    told : (l : List ℕ) × (ok l ≡ whole_list o s q n) × (k ≡ length l)
    told = many_inv (whole_list o s q n) k h

    stands : held ≡ told.0 ++ drop (length told.0) before
    stands = e ∙ sym (left_is (whole_list o s q n) told.0 told.1 before)

    zones_are : take k held ≡ told.0
    zones_are = ap (take k) stands ∙ take_at told.0 (drop (length told.0) before) k (sym told.2)

    pub note_held : k ≤ length held
    note_held = omega (arith, told.2, ap length stands, length-append told.0 (drop (length told.0) before))

    pub note_few : length (take k held) ≤ places
    note_few = omega (arith, told.2, list_fits o s q n told.0 told.1, length-take-le k held note_held)

    pub note_is : noted q (fitting (take k held)) ≡ entry_for places (ok o) s q
    unfolding entry_for answer_of
    note_is =
        ap (λ (l : List ℕ). noted q (fitting l)) zones_are
        ∙ ap (noted q) (then_ok (whole_list o s q n) fitting told.0 told.1)
        ∙ ap (λ (j : ℕ). noted q (whole_list o s q j then fitting)) en

-- zones that fit their places, and others
module _ (q : I32Point) (zones : List ℕ) where
  pub fit_all : all_below zones ≡ true → entry q zones 0 ≡ noted q (fitting zones)
  unfolding fitting
  fit_all b = ap (noted q) (need_met 45 (all_below zones) (ok zones) b)

  pub fit_none : all_below zones ≡ false → (r : Refusal) → r ≡ refusal 45 → entry q [] r.number ≡ noted q (fitting zones)
  unfolding fitting
  fit_none b r e = ap (λ (x : Refusal). entry q [] x.number) e ∙ ap (noted q) (need_not 45 (all_below zones) (ok zones) b)

-- by what opening answered
module _ (places : ℕ) (s : List ℕ) (q : I32Point) (x : Answer Opened) where
  pub note_refused : (k : Refusal) → refused k ≡ x → entry q [] k.number ≡ entry_for places x s q
  unfolding entry_for
  note_refused k h = ap (noted q) (then_no x (λ o. answer_of places o s q) k h)

  pub note_opened : (o : Opened) → ok o ≡ x → entry_for places (ok o) s q ≡ entry_for places x s q
  note_opened o h = ap (λ (y : Answer Opened). entry_for places y s q) h

-- the same entry laid
pub laid_as : (places : ℕ) (room : List ℕ) (e e' : Entry) → e ≡ e' → laid_of places e room ≡ laid_of places e' room
laid_as places room e e' h = ap (λ (x : Entry). laid_of places x room) h

-- ---- a number of places that is offered, where b is the test of it, fits a byte, as the count does
module _ (places : ℕ) (b : Bool) (t : b ≡ offered places) where
  pub offered_yes : fine ≡ claim 50 b → offered places ≡ true
  offered_yes e = sym t ∙ fine_claim 50 b (sym e)

  pub offered_fits : fine ≡ claim 50 b → places < 256
  offered_fits e = omega (arith, same_eq places 3 (offered_yes e))

  pub offered_no : (r : Refusal) → ◌≡◌ {A = Check} (refused r) (claim 50 b) → (offered places ≡ false) × (r ≡ refusal 50)
  unfolding claim
  offered_no r e = go b t e
    where
      go : (c : Bool) → c ≡ offered places → ◌≡◌ {A = Check} (refused r) (claim 50 c) → (offered places ≡ false) × (r ≡ refusal 50)
      go true h e = let z : ◌≡◌ {A = ℕ} 0 1 = cc in absurd (zero_one z)
      go false h e = (sym h, inside e)
        where
          inside : ◌≡◌ {A = Check} (refused r) (refused (refusal 50)) → r ≡ refusal 50
          inside e = cc

-- ---- the question
module _ (b s : List ℕ) (places : ℕ) (q : I32Point) (room : List ℕ) where
  pub ask_no : (k : Refusal) → refused k ≡ record_of b → refused k ≡ journal_asked b s places q room
  unfolding journal_asked
  ask_no k h = then_no (record_of b) (λ o. need 50 (offered places) (laid_of places (entry_for places (ok o) s q) room)) k h

  module _ (o : Opened) (h : ok o ≡ record_of b) where
    ask_on : need 50 (offered places) (laid_of places (entry_for places (ok o) s q) room) ≡ journal_asked b s places q room
    unfolding journal_asked
    ask_on = then_ok (record_of b) (λ o. need 50 (offered places) (laid_of places (entry_for places (ok o) s q) room)) o h

    pub ask_other : offered places ≡ false → no 50 ≡ journal_asked b s places q room
    ask_other g = need_not 50 (offered places) (laid_of places (entry_for places (ok o) s q) room) g ∙ ask_on

    pub ask_is : offered places ≡ true → laid_of places (entry_for places (ok o) s q) room ≡ journal_asked b s places q room
    ask_is g = need_met 50 (offered places) (laid_of places (entry_for places (ok o) s q) room) g ∙ ask_on

-- ---- the writer
module _ (places : ℕ) (e : Entry) (room : List ℕ) where
  pub written_other : offered places ≡ false → no 50 ≡ journal_written places e room
  unfolding journal_written
  written_other g = need_not 50 (offered places) (write_of places e room) g

  pub written_is : offered places ≡ true → write_of places e room ≡ journal_written places e room
  unfolding journal_written
  written_is g = need_met 50 (offered places) (write_of places e room) g

-- what a call tells and leaves, where its answer is refused, and where it is another's
pub call_no : {A : Type 0} (x : Answer (List A)) (room : List A) (n : ℕ) → no n ≡ x → (failed n ≡ outcome x) × (room ≡ left room x)
call_no x room n h = (ap outcome h, left_no x (refusal n) h room)

-- ---- the reader
module _ (places : ℕ) (s : List ℕ) where
  pub unread_other : entry_is places s ≡ false → no 50 ≡ unread (entry_of places s)
  unfolding entry_of
  unread_other h = ap unread (need_not 50 (entry_is places s) _ h)

  pub unread_is : entry_is places s ≡ true → no 46 ≡ unread (entry_of places s)
  unfolding entry_of
  unread_is h = ap unread (need_met 50 (entry_is places s) _ h)

  module _ (numbers room : ℕ) where
    pub read_no : offered places ≡ false → no 50 ≡ journal_read places s numbers room
    unfolding journal_read
    read_no g = need_not _ _ _ g

    module _ (g : offered places ≡ true) where
      pub read_on : (entry_of places s then λ e. need 46 (at_most 2 numbers && at_most (length e.zones) room) (ok e)) ≡ journal_read places s numbers room
      unfolding journal_read
      read_on = need_met _ _ _ g

      -- no room for the position
      pub read_short : numbers < 2 → (k : Refusal) → refused k ≡ unread (entry_of places s) → refused k ≡ journal_read places s numbers room
      read_short h k e = e ∙ go (entry_of places s) ∙ read_on
        where
          go : (x : Answer Entry) → unread x ≡ (x then λ e. need 46 (at_most 2 numbers && at_most (length e.zones) room) (ok e))
          go (ok e) = need_not 46 (at_most 2 numbers && at_most (length e.zones) room) (ok e) (sym (and_no _ _ (gt_at _ _ h)))
          go (refused k) = refl

      -- else as the entry is read
      pub read_as : 2 ≤ numbers → read_of places s room ≡ journal_read places s numbers room
      unfolding read_of
      read_as h = go (entry_of places s) ∙ read_on
        where
          go : (x : Answer Entry) → (x then λ e. need 46 (at_most (length e.zones) room) (ok e)) ≡ (x then λ e. need 46 (at_most 2 numbers && at_most (length e.zones) room) (ok e))
          go (ok e) = ap (λ (b : Bool). need 46 b (ok e)) (and_yes (at_most 2 numbers) (at_most (length e.zones) room) (at_most (length e.zones) room) (le_at _ _ h) refl)
          go (refused k) = refl

-- what is left in the numbers lent for the position
module _ (x : Answer Entry) (lent : List ℤ) where
  pub position_set : (q : I32Point) (c k : ℕ) → ok (q, c, k) ≡ (x then λ e. ok (head_of e)) → q.x ∷ q.y ∷ drop 2 lent ≡ left lent (x then λ e. ok (position_of e))
  position_set q c k h =
      let t = then_inv x (λ e. ok (head_of e)) (q, c, k) h in
      let at : q ≡ t.0.at = ap (λ (a : I32Point × ℕ × ℕ). a.0) (ok_inv _ _ t.2) in
      ap (λ (p : I32Point). p.x ∷ p.y ∷ drop 2 lent) at
      ∙ ap (λ (y : Answer Entry). left lent (y then λ e. ok (position_of e))) t.1

  pub position_kept : (k : Refusal) → refused k ≡ (x then λ e. ok (head_of e)) → lent ≡ left lent (x then λ e. ok (position_of e))
  position_kept k h = go x h
    where
      go : (y : Answer Entry) → refused k ≡ (y then λ e. ok (head_of e)) → lent ≡ left lent (y then λ e. ok (position_of e))
      go (ok e) g = let z : ◌≡◌ {A = ℕ} 0 1 = cc in absurd (zero_one z)
      go (refused r) g = refl
