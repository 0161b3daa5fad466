-- The exact answers of the exports (specs/Answers), for every file, record and numbers.
-- Assumes nothing.
use Prim.Native.Nat.{ℕ, ◌≤◌, ◌<◌}
use native.Mathlib.Omega.{arith}
use mathlib.Core.Path.{◌≡◌, refl, sym, ap, subst, ◌∙◌}
use mathlib.Core.Bool.{Bool, true, false}
use mathlib.Core.List.{List, ◌++◌}
use mathlib.Core.Logic.{◌↔◌, ◌⊎◌, inl, inr}
use lib.IntN.{ℤ, pos}
use lib.Ieee.{Float}
use lib.ListN.{length, drop, take}
use lib.Dec.{leb}
use borrow.Author.Tests.{leb-true, leb-false}
use Rattle.plane.specs.Domain.{in_domain}
use Rattle.answer.specs.Refusals.{refusal}
use Rattle.answer.specs.Answers.{Answer, ok, refused, no}
use Rattle.opened.specs.declared.Opened.{Opened}
use Rattle.reader_zones.specs.Zones.{zone_of, contains_at}
use Rattle.reader_lookup.specs.Asking.{lookup_of}
use Rattle.reader_check.specs.FullCheck.{lowest_broken}
use Rattle.tzb_record.specs.Layout.{bytes_of, opened_in, record_of}
use Rattle.tzb_asked.specs.Asked.{contains_asked, lookup_asked, contains_asked_by, lookup_asked_by}
use Rattle.tzb.specs.Opening.{open_of, opened_is}
use Rattle.tzb_codes.specs.Codes.{done_code, inside_code, zone_code, check_code, rule_of}
use Rattle.tzb_c.specs.Opens.{open_into, lookup_once}
use Rattle.exported.specs.Calls.{TzbOpen, TzbFullCheck, TzbFullCheckRule, TzbContains, TzbLookup, TzbAsk}
use Rattle.exported.specs.Words.{last_number, refusing, Bytes}
use Rattle.exported.specs.Answers.{Tells, yes_no, zone_number, FullCheckAnswers, OpenAnswers, ContainsAnswers, LookupAnswers, AskAnswers}
use Rattle.exported.proofs.Meaning.{open_answer, open_memory, full_check_answer, rule_answer, lookup_answer, contains_answer, ask_answer}
use Rattle.exported.proofs.Tabled.{higher}
use Rattle.exported.proofs.Checks as K
use Rattle.exported.proofs.Checks.{Opens, opened, barred, opens, Checks, checks}
use Rattle.exported.proofs.Opening.{open_plain}
use Rattle.exported.proofs.Questions.{contains_q, lookup_q}
use Rattle.exported.proofs.Room.{room_in, room_short}
use Rattle.exported.proofs.Codes.{apart, same_refusing, inside_tells, zone_tells}
use Rattle.exported.proofs.Demand1.{once_tabled}
use Rattle.exported.proofs.Demand3 as Three
use Rattle.plane.specs.Places.{point, point_of}
use Rattle.answer.proofs.AnswersLaws.{then_ok, then_no, zero_one, left_no, left_is}
use Rattle.reader_ways.specs.Ways.{plain}
use Rattle.reader_zones.proofs.ZonesLaws.{whole_over, whole_off, whole_is}
use Rattle.tzb_record.proofs.LayoutLaws.{record_none, record_is, record_long}
use Rattle.tzb_codes.proofs.CodesLaws.{code_small}
use Rattle.tzb_c.proofs.OpensLaws.{open_barred, once_barred, once_asked}

never_both : {B : Type 0} (x : Answer Opened) (o : Opened) (n : ℕ) → ok o ≡ x → no n ≡ x → B
never_both x o n e f = let z : ◌≡◌ {A = ℕ} 0 1 = cc in absurd (zero_one z)

abbrev number_in : Answer Opened → ℕ
number_in (ok o) = 0
number_in (refused k) = k.number

same_barred : (x : Answer Opened) (n m : ℕ) → no n ≡ x → no m ≡ x → n ≡ m
same_barred x n m e f = ap number_in (e ∙ sym f)

-- ---- the full check
data Ways (file : List ℕ) (r : ℤ) (rule : ℕ) : Type 0 where
  refused_by_law : (n : ℕ) → n ≤ 34 → no n ≡ open_of file → r ≡ refusing n → rule ≡ 0 → Ways file r rule
  accepted_by : ok (opened_is file) ≡ open_of file → lowest_broken (opened_is file) file ≡ 0 → r ≡ pos 0 → rule ≡ 0 → Ways file r rule
  broken_by : ok (opened_is file) ≡ open_of file → 0 < lowest_broken (opened_is file) file → r ≡ refusing 47 → rule ≡ lowest_broken (opened_is file) file → Ways file r rule

module _ (file : List ℕ) (r : ℤ) (rule : ℕ) (c : TzbFullCheck file r) (d : TzbFullCheckRule file rule) where
  abbrev W : Type 0
  W = Ways file r rule

  ways : W
  ways = go (checks file)
    where
      go : Checks file → W
      go (K.refused_by_law k h e f) =
          refused_by_law k.number h.greatest (open_plain file k e) (full_check_answer c ∙ sym (ap check_code f) ∙ sym (code_small k (omega (arith, h.greatest)))) (rule_answer d ∙ sym (ap rule_of f))
      go (K.accepts e z f) = accepted_by e z (full_check_answer c ∙ sym (ap check_code f)) (rule_answer d ∙ sym (ap rule_of f))
      go (K.breaks e z f) = broken_by e z (full_check_answer c ∙ sym (ap check_code f) ∙ sym (code_small (refusal 47) (omega arith))) (rule_answer d ∙ sym (ap rule_of f))

  pub full_check_answers : FullCheckAnswers file r rule
  full_check_answers = record { accepts = Three.accepts file r c; refuses = refuses; broken = broken; rule_told = rule_told ways; rule_none = rule_none ways }
    where
      refuses_go : (n : ℕ) → n < 47 → W → r ≡ refusing n → no n ≡ open_of file
      refuses_go n l (refused_by_law m k e f g) h = subst (λ (j : ℕ). no j ≡ open_of file) (same_refusing m n (sym f ∙ h)) e
      refuses_go n l (accepted_by e k f g) h = absurd (apart 0 _ (sym f ∙ h))
      refuses_go n l (broken_by e k f g) h = let z = same_refusing 47 n (sym f ∙ h) in absurd (omega arith)

      refuses_back : (n : ℕ) → W → no n ≡ open_of file → r ≡ refusing n
      refuses_back n (refused_by_law m k e f g) h = f ∙ ap refusing (same_barred (open_of file) m n e h)
      refuses_back n (accepted_by e k f g) h = never_both (open_of file) _ n e h
      refuses_back n (broken_by e k f g) h = never_both (open_of file) _ n e h

      refuses : (n : ℕ) → n < 47 → (r ≡ refusing n) ↔ (no n ≡ open_of file)
      refuses n l = (refuses_go n l ways, refuses_back n ways)

      broken_go : W → r ≡ refusing 47 → (ok (opened_is file) ≡ open_of file) × (0 < lowest_broken (opened_is file) file)
      broken_go (refused_by_law m k e f g) h = let z = same_refusing m 47 (sym f ∙ h) in absurd (omega arith)
      broken_go (accepted_by e k f g) h = absurd (apart 0 _ (sym f ∙ h))
      broken_go (broken_by e k f g) h = (e, k)

      broken_back : W → (ok (opened_is file) ≡ open_of file) × (0 < lowest_broken (opened_is file) file) → r ≡ refusing 47
      broken_back (refused_by_law m k e f g) h = never_both (open_of file) _ m h.0 e
      broken_back (accepted_by e k f g) h = absurd (omega (arith, h.1))
      broken_back (broken_by e k f g) h = f

      broken : (r ≡ refusing 47) ↔ ((ok (opened_is file) ≡ open_of file) × (0 < lowest_broken (opened_is file) file))
      broken = (broken_go ways, broken_back ways)

      rule_told : W → r ≡ refusing 47 → rule ≡ lowest_broken (opened_is file) file
      rule_told (refused_by_law m k e f g) h = let z = same_refusing m 47 (sym f ∙ h) in absurd (omega arith)
      rule_told (accepted_by e k f g) h = absurd (apart 0 _ (sym f ∙ h))
      rule_told (broken_by e k f g) h = g

      rule_none : W → (r ≡ refusing 47 → ⊥) → rule ≡ 0
      rule_none (refused_by_law m k e f g) h = g
      rule_none (accepted_by e k f g) h = g
      rule_none (broken_by e k f g) h = absurd (h f)

-- ---- opening
data Kept (file memory : List ℕ) (r : ℤ) (after : List ℕ) : Type 0 where
  kept : ok (opened_is file) ≡ open_of file → 84 ≤ length memory → r ≡ pos 0 → after ≡ bytes_of (opened_is file) ++ drop 84 memory → Kept file memory r after
  short : ok (opened_is file) ≡ open_of file → length memory < 84 → r ≡ refusing 46 → after ≡ memory → Kept file memory r after
  not_opened : (n : ℕ) → n ≤ 34 → no n ≡ open_of file → r ≡ refusing n → after ≡ memory → Kept file memory r after

room_or_not : (n : ℕ) → (84 ≤ n) ⊎ (n < 84)
room_or_not n = go (leb 84 n) refl
  where
    go : (b : Bool) → leb 84 n ≡ b → (84 ≤ n) ⊎ (n < 84)
    go true e = inl (omega (arith, leb-true 84 n e))
    go false e = inr (omega (arith, leb-false 84 n e))

module _ (file memory : List ℕ) (r : ℤ) (after : List ℕ) (c : TzbOpen file memory r after) where
  by_refusal : (n : ℕ) → n < 1000 → no n ≡ open_into file memory → (r ≡ refusing n) × (after ≡ memory)
  by_refusal n l e =
      (open_answer c ∙ sym (ap done_code e) ∙ sym (code_small (refusal n) l), open_memory c ∙ sym (left_no (open_into file memory) (refusal n) e memory))

  -- the bytes that were kept, and what lies behind them
  in_room_law : (o : Opened) → bytes_of o ++ drop (length (bytes_of o)) memory ≡ bytes_of o ++ drop 84 memory
  in_room_law o = ap (λ (k : ℕ). bytes_of o ++ drop k memory) (record_long o)

  abbrev M : Type 0
  M = Kept file memory r after

  kinds : M
  kinds = go (opens file)
    where
      by : ok (opened_is file) ≡ open_of file → (84 ≤ length memory) ⊎ (length memory < 84) → M
      by e (inl h) =
          let f = room_in file memory (opened_is file) e h in
          kept e h (open_answer c ∙ sym (ap done_code f)) (open_memory c ∙ sym (left_is (open_into file memory) (bytes_of (opened_is file)) f memory) ∙ in_room_law (opened_is file))
      by e (inr h) =
          let t = by_refusal 46 (omega arith) (room_short file memory (opened_is file) e h) in
          short e h t.0 t.1

      go : Opens file → M
      go (opened e) = by e (room_or_not (length memory))
      go (barred k h e) = let t = by_refusal k.number (omega (arith, h.greatest)) (open_barred file memory (refusal k.number) (open_plain file k e)) in not_opened k.number h.greatest (open_plain file k e) t.0 t.1

  pub open_answers : OpenAnswers file memory r after
  open_answers = record { opens = (opens_go kinds, opens_back kinds); kept = kept_told kinds; refuses = λ n l. (refuses_go n l kinds, refuses_back n kinds); no_room = (short_go kinds, short_back kinds); unchanged = unchanged kinds }
    where
      opens_go : M → r ≡ pos 0 → (ok (opened_is file) ≡ open_of file) × (84 ≤ length memory)
      opens_go (kept e h f g) z = (e, h)
      opens_go (short e h f g) z = absurd (apart 0 _ (sym z ∙ f))
      opens_go (not_opened n l e f g) z = absurd (apart 0 _ (sym z ∙ f))

      opens_back : M → (ok (opened_is file) ≡ open_of file) × (84 ≤ length memory) → r ≡ pos 0
      opens_back (kept e h f g) z = f
      opens_back (short e h f g) z = absurd (omega (arith, z.1))
      opens_back (not_opened n l e f g) z = never_both (open_of file) _ n z.0 e

      kept_told : M → r ≡ pos 0 → after ≡ bytes_of (opened_is file) ++ drop 84 memory
      kept_told (kept e h f g) z = g
      kept_told (short e h f g) z = absurd (apart 0 _ (sym z ∙ f))
      kept_told (not_opened n l e f g) z = absurd (apart 0 _ (sym z ∙ f))

      refuses_go : (n : ℕ) → n < 46 → M → r ≡ refusing n → no n ≡ open_of file
      refuses_go n l (kept e h f g) z = absurd (apart 0 _ (sym f ∙ z))
      refuses_go n l (short e h f g) z = let w = same_refusing 46 n (sym f ∙ z) in absurd (omega arith)
      refuses_go n l (not_opened m k e f g) z = subst (λ (j : ℕ). no j ≡ open_of file) (same_refusing m n (sym f ∙ z)) e

      refuses_back : (n : ℕ) → M → no n ≡ open_of file → r ≡ refusing n
      refuses_back n (kept e h f g) z = never_both (open_of file) _ n e z
      refuses_back n (short e h f g) z = never_both (open_of file) _ n e z
      refuses_back n (not_opened m k e f g) z = f ∙ ap refusing (same_barred (open_of file) m n e z)

      short_go : M → r ≡ refusing 46 → (ok (opened_is file) ≡ open_of file) × (length memory < 84)
      short_go (kept e h f g) z = absurd (apart 0 _ (sym f ∙ z))
      short_go (short e h f g) z = (e, h)
      short_go (not_opened m k e f g) z = let w = same_refusing m 46 (sym f ∙ z) in absurd (omega arith)

      short_back : M → (ok (opened_is file) ≡ open_of file) × (length memory < 84) → r ≡ refusing 46
      short_back (kept e h f g) z = absurd (omega (arith, z.1))
      short_back (short e h f g) z = f
      short_back (not_opened m k e f g) z = never_both (open_of file) _ m z.0 e

      unchanged : M → (r ≡ pos 0 → ⊥) → after ≡ memory
      unchanged (kept e h f g) z = absurd (z f)
      unchanged (short e h f g) z = g
      unchanged (not_opened m k e f g) z = g

-- ---- with the record as bytes
module _ (held : List ℕ) where
  no_84 : (length held ≡ 84 → ⊥) → no 44 ≡ record_of held
  no_84 h = record_none held h

  is_84 : length held ≡ 84 → ok (opened_in held) ≡ record_of held
  is_84 h = record_is held (opened_in held) h refl

module _ (held file : List ℕ) (zone : ℕ) (x y r : ℤ) (c : TzbContains held file zone x y r) where
  contains_at_law : length held ≡ 84 → r ≡ inside_code (contains_at (opened_in held) file zone (point x y))
  unfolding contains_asked_by
  contains_at_law h = contains_answer c ∙ ap inside_code (sym (then_ok (record_of held) (λ o. contains_at o file zone (point x y)) (opened_in held) (is_84 held h)))

  contains_none : (length held ≡ 84 → ⊥) → r ≡ refusing 44
  unfolding contains_asked_by
  contains_none h = contains_answer c ∙ ap inside_code (sym (then_no (record_of held) (λ o. contains_at o file zone (point x y)) (refusal 44) (no_84 held h))) ∙ sym (code_small (refusal 44) (omega arith))

  pub contains_answers : ContainsAnswers held file zone x y r
  contains_answers =
      record {
        no_record = contains_none;
        no_zone = λ h l. contains_at_law h ∙ ap inside_code (sym (whole_over plain (opened_in held) file zone (point x y) l)) ∙ sym (code_small (refusal 45) (omega arith));
        outside = λ h l d. contains_at_law h ∙ ap inside_code (sym (whole_off plain (opened_in held) file zone (point x y) l d));
        walked = λ h l d. walked h l d;
      }
    where
      walked : length held ≡ 84 → zone < (opened_in held).zones.count → in_domain (point x y) ≡ true → Tells yes_no (zone_of (opened_in held) file (point_of (point x y)) zone) r
      walked h l d =
          let e = whole_is plain (opened_in held) file zone (point x y) l d in
          let t = higher 46 last_number (omega arith) _ (contains_q (opened_in held) file zone (point x y)) in
          let w = inside_tells (contains_at (opened_in held) file zone (point x y)) t in
          record { value = λ b f. contains_at_law h ∙ w.value b (f ∙ e); refusal = λ n f. contains_at_law h ∙ w.refusal n (f ∙ e) }

module _ (held file : List ℕ) (lng lat : Float) (r : ℤ) (c : TzbAsk held file lng lat r) where
  ask_at : length held ≡ 84 → r ≡ zone_code (lookup_of (opened_in held) file lng lat)
  unfolding lookup_asked_by
  ask_at h = ask_answer c ∙ ap zone_code (sym (then_ok (record_of held) (λ o. lookup_of o file lng lat) (opened_in held) (is_84 held h)))

  ask_none : (length held ≡ 84 → ⊥) → r ≡ refusing 44
  unfolding lookup_asked_by
  ask_none h = ask_answer c ∙ ap zone_code (sym (then_no (record_of held) (λ o. lookup_of o file lng lat) (refusal 44) (no_84 held h))) ∙ sym (code_small (refusal 44) (omega arith))

  pub ask_answers : AskAnswers held file lng lat r
  ask_answers = record { no_record = ask_none; found = found }
    where
      found : length held ≡ 84 → Tells zone_number (lookup_of (opened_in held) file lng lat) r
      found h =
          let w = zone_tells (lookup_of (opened_in held) file lng lat) (higher 46 last_number (omega arith) _ (lookup_q (opened_in held) file lng lat)) in
          record { value = λ z f. ask_at h ∙ w.value z f; refusal = λ n f. ask_at h ∙ w.refusal n f }

-- ---- opening and asking at once
module _ (file : List ℕ) (lng lat : Float) (r : ℤ) (c : TzbLookup file lng lat r) where
  once : Tells zone_number (lookup_once file lng lat) (zone_code (lookup_once file lng lat))
  once = zone_tells (lookup_once file lng lat) (higher 46 last_number (omega arith) _ (once_tabled file lng lat))

  pub lookup_answers : LookupAnswers file lng lat r
  lookup_answers = record { refuses = λ n e. lookup_answer c ∙ once.refusal (refusal n) (once_barred file lng lat (refusal n) e); found = found }
    where
      found : ok (opened_is file) ≡ open_of file → Tells zone_number (lookup_of (opened_is file) file lng lat) r
      found e =
          let f = once_asked file lng lat (opened_is file) (lookup_of (opened_is file) file lng lat) e refl in
          record { value = λ z g. lookup_answer c ∙ once.value z (g ∙ f); refusal = λ n g. lookup_answer c ∙ once.refusal n (g ∙ f) }

-- ---- with the record that opening left in memory `tzb_ask` answers as `tzb_lookup` does
pub ask_is_lookup : (file : List ℕ) → Bytes file → (memory after : List ℕ) → TzbOpen file memory (pos 0) after → (lng lat : Float) (r s : ℤ) → TzbAsk (take 84 after) file lng lat r → TzbLookup file lng lat s → r ≡ s
unfolding lookup_asked_by lookup_once
ask_is_lookup file byte memory after c lng lat r s a l =
    ask_answer a
    ∙ ap zone_code (sym (then_ok (record_of (take 84 after)) (λ o. lookup_of o file lng lat) (opened_is file) (Three.held file byte memory after c)))
    ∙ ap zone_code (then_ok (open_of file) (λ o. lookup_of o file lng lat) (opened_is file) (Three.opens file byte memory after c))
    ∙ sym (lookup_answer l)
