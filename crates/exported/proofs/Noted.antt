-- What the answer rule makes of a question is always of the forms: for any record, bytes, position and number of places, and for any refusal of opening.
-- Assumes nothing.
use Prim.Native.Nat.{ℕ, ◌+◌, ◌≤◌}
use native.Mathlib.Omega.{arith}
use mathlib.Core.Path.{◌≡◌, refl, sym, ap, ◌∙◌}
use mathlib.Core.Bool.{Bool, true, false, ◌||◌, cond, false≢true}
use mathlib.Core.List.{List, [], ◌∷◌}
use lib.Dec.{eqb}
use lib.ListN.{length}
use borrow.Author.Tests.{eq-eqb, ne_eqb, eqb-true, eqb-false, le-leb}
use Rattle.basics.specs.Truth.{and_i}
use Rattle.plane.specs.declared.I32Point.{I32Point}
use Rattle.plane.specs.Domain.{in_domain}
use Rattle.answer.specs.declared.Refusal.{Refusal}
use Rattle.answer.specs.Answers.{Answer, ok, refused, ◌then◌}
use Rattle.answer.specs.Checks.{same}
use Rattle.answer.proofs.CheckLaws.{not_yes}
use Rattle.answer.proofs.AnswersLaws.{then_inv, need_inv, ok_inv}
use Rattle.opened.specs.declared.Opened.{Opened}
use Rattle.entries.specs.Entry.{entry}
use Rattle.entries.specs.Forms.{all_below, among, all_different, placed, formed}
use Rattle.entries.proofs.FormsLaws.{placed_none, placed_some, zones_all, formed_answer, formed_none}
use Rattle.reader_order.specs.Order.{times}
use Rattle.reader_whole.specs.Whole.{whole_list}
use Rattle.reader_whole.proofs.Meaning.{outside, list_different, list_fits}
use Rattle.tzb_journal.specs.Journal.{fitting, answer_of, noted, entry_for}
use Rattle.exported.proofs.Tabled.{Numbered, Tabled}
use Rattle.exported.proofs.Questions.{answer_q}

-- ---- zones of which each is listed at most once are different
or_none : (b : Bool) (n : ℕ) (m : Bool) → cond b 1 0 + n ≡ 0 → (n ≡ 0 → m ≡ false) → b || m ≡ false
or_none true n m h k = absurd (omega arith)
or_none false n m h k = k (omega arith)

-- the test of a list asks in the other order
turned : (z t : ℕ) → eqb t z ≡ eqb z t
turned z t = go (eqb z t) refl
  where
    go : (b : Bool) → eqb z t ≡ b → eqb t z ≡ eqb z t
    go true e = eq-eqb t z (sym (eqb-true z t e)) ∙ sym e
    go false e = ne_eqb t z (λ h. eqb-false z t e (sym h)) ∙ sym e

not_among : (z : ℕ) (l : List ℕ) → times z l ≡ 0 → among z l ≡ false
unfolding among times same
not_among z [] h = refl
not_among z (t ∷ l) h = ap (λ (b : Bool). b || among z l) (turned z t) ∙ or_none (eqb z t) (times z l) (among z l) h (not_among z l)

no_more : (b : Bool) (n : ℕ) → b ≡ true → cond b 1 0 + n ≤ 1 → n ≡ 0
no_more true n e h = omega arith
no_more false n e h = absurd (false≢true e)

fewer : (b : Bool) (n : ℕ) → cond b 1 0 + n ≤ 1 → n ≤ 1
fewer true n h = omega arith
fewer false n h = omega arith

pub different : (l : List ℕ) → ((z : ℕ) → times z l ≤ 1) → all_different l ≡ true
unfolding all_different times
different [] h = refl
different (z ∷ l) h =
    and_i _ _
    (not_yes (among z l) (not_among z l (no_more (eqb z z) (times z l) (eq-eqb z z refl) (h z))))
    (different l (λ y. fewer (eqb y z) (times y l) (h y)))

-- ---- a position that has zones only in the domain
placed_by : (q : I32Point) (l : List ℕ) → (in_domain q ≡ false → [] ≡ l) → placed q l ≡ true
placed_by q [] h = sym (placed_none q [] refl)
placed_by q (z ∷ l) h = go (in_domain q) refl
  where
    go : (b : Bool) → in_domain q ≡ b → placed q (z ∷ l) ≡ true
    go true e = sym (placed_some q (z ∷ l) (λ n. omega arith) true (sym e))
    go false e = absurd (omega (arith, ap length (h e)))

-- ---- a refusal, and zones
refusal_formed : (places : ℕ) (q : I32Point) (k : Refusal) → Numbered 46 k → formed places (entry q [] k.number) ≡ true
refusal_formed places q k h =
    sym (formed_none places (entry q [] k.number) (λ e. omega (arith, h.least)) true refl refl) ∙ le-leb k.number 46 h.greatest

module _ (places : ℕ) (o : Opened) (s : List ℕ) (q : I32Point) where
  -- zones that the rule answers are the list's, and fit their places
  listed : (l : List ℕ) → ok l ≡ answer_of places o s q → (ok l ≡ whole_list o s q places) × (all_below l ≡ true)
  unfolding answer_of fitting
  listed l e =
      let t = then_inv (whole_list o s q places) fitting l e in
      let n = need_inv 45 (all_below t.0) (ok t.0) l t.2 in
      (n.1 ∙ t.1, ap all_below (ok_inv l t.0 n.1) ∙ n.0)

  zones_formed : (l : List ℕ) → ok l ≡ answer_of places o s q → formed places (entry q l 0) ≡ true
  zones_formed l e =
      let t = listed l e in
      sym (formed_answer places (entry q l 0) refl true
      (zones_all q l places (list_fits o s q places l t.0) (placed_by q l (λ d. ok_inv [] l (outside o s q places d ∙ sym t.0))) t.1 true (sym (different l (list_different o s q places l t.0)))))

  noted_formed : (x : Answer (List ℕ)) → x ≡ answer_of places o s q → Tabled 46 x → formed places (noted q x) ≡ true
  noted_formed (ok l) e t = zones_formed l e
  noted_formed (refused k) e t = refusal_formed places q k t.by

pub always_formed : (places : ℕ) (x : Answer Opened) → Tabled 46 x → (file : List ℕ) (q : I32Point) → formed places (entry_for places x file q) ≡ true
unfolding entry_for
always_formed places (ok o) t file q = noted_formed places o file q (answer_of places o file q) refl (answer_q o file places q)
always_formed places (refused k) t file q = refusal_formed places q k t.by

-- outside the domain: no zones and reason 0, for any record and bytes
pub outside_noted : (places : ℕ) (o : Opened) (file : List ℕ) (q : I32Point) → in_domain q ≡ false → entry q [] 0 ≡ entry_for places (ok o) file q
unfolding entry_for answer_of fitting all_below
outside_noted places o file q h = ap (λ (x : Answer (List ℕ)). noted q (x then fitting)) (outside o file q places h)
