-- Demand 3 on the exports (specs/Demand3), of every list of bytes.
-- Assumes nothing.
use Prim.Native.Nat.{ℕ, ◌≤◌, ◌<◌}
use native.Mathlib.Omega.{arith}
use mathlib.Core.Path.{◌≡◌, refl, sym, ap, subst, ◌∙◌}
use mathlib.Core.Bool.{Bool, true, false, false≢true}
use mathlib.Core.List.{List}
use mathlib.Core.Logic.{◌↔◌, ◌⊎◌, inl, inr}
use lib.IntN.{ℤ, pos}
use lib.ListN.{length, take}
use Rattle.plane.specs.Segment.{seg}
use Rattle.answer.specs.Refusals.{refusal}
use Rattle.answer.specs.Answers.{Answer, ok, refused}
use Rattle.shapes.specs.Shapes.{zone_in}
use Rattle.opened.specs.declared.Opened.{Opened}
use Rattle.reader_zones.specs.Zones.{contains_at}
use Rattle.tzb_record.specs.Layout.{record_of}
use Rattle.tzb_asked.specs.Asked.{zones_asked, contains_asked_by}
use Rattle.tzb.specs.Opening.{open_of, opened_is}
use Rattle.tzb.specs.FullCheck.{full_check_of}
use Rattle.tzb.proofs.Given.{opened_is_law}
use Rattle.demands.specs.Accepted.{Accepted}
use Rattle.demands.specs.Words.{InZone}
use Rattle.demands.proofs.Accepted.{accepts_exactly}
use Rattle.demands.proofs.Demand3.{contains_is}
use Rattle.demands.proofs.Words.{zone_in_words}
use Rattle.tzb_codes.specs.Codes.{done_code, inside_code, check_code, number_code}
use Rattle.tzb_c.specs.Opens.{open_into}
use Rattle.tzb_c.proofs.Kept.{record_kept}
use Rattle.exported.specs.Calls.{TzbOpen, TzbFullCheck, TzbZoneCount, TzbContains}
use Rattle.exported.specs.Words.{refusing, Bytes, shape_of}
use Rattle.exported.specs.Demand3.{OneOrZero, Demand3}
use Rattle.tzb_c.proofs.OpensLaws.{into_inv}
use Rattle.exported.proofs.Codes.{refusal_below, same_number}
use Rattle.exported.proofs.Meaning.{open_answer, open_memory, full_check_answer, zone_count_answer, contains_answer}
use Rattle.plane.specs.Places.{point}
use Rattle.replies.specs.Replies.{Outcome, accepted, refused_by, broken_at}
use Rattle.answer.proofs.AnswersLaws.{then_ok}
use Rattle.reader_ways.specs.Ways.{plain}
use Rattle.reader_zones.proofs.ZonesLaws.{whole_over}
use Rattle.tzb_codes.proofs.CodesLaws.{code_small}

-- ---- what 0 tells
pub accepted_by : (x : Outcome) → pos 0 ≡ check_code x → x ≡ accepted
accepted_by accepted e = refl
accepted_by (refused_by k) e = absurd (refusal_below 0 k e)
accepted_by (broken_at k rule) e = absurd (refusal_below 0 k e)

done_by : {A : Type 0} (x : Answer A) → pos 0 ≡ done_code x → (a : A) × (ok a ≡ x)
done_by (ok a) e = (a, refl)
done_by (refused k) e = absurd (refusal_below 0 k e)

module _ (file : List ℕ) where
  pub accepts : (r : ℤ) → TzbFullCheck file r → (r ≡ pos 0) ↔ Accepted file (opened_is file)
  accepts r c = (go, back)
    where
      go : r ≡ pos 0 → Accepted file (opened_is file)
      go e =
          let t = (accepts_exactly file).0 (accepted_by (full_check_of file) (sym e ∙ full_check_answer c)) in
          subst (Accepted file) (opened_is_law file t.0 t.1.f1) t.1

      back : Accepted file (opened_is file) → r ≡ pos 0
      back a = full_check_answer c ∙ ap check_code ((accepts_exactly file).1 (opened_is file, a))

  -- the file was opened into memory
  module _ (byte : Bytes file) (memory after : List ℕ) (opened : TzbOpen file memory (pos 0) after) where
    abbrev o : Opened
    o = opened_is file

    -- it opens, and there was room
    into : (p : Opened) × (ok p ≡ open_of file) × (84 ≤ length memory)
    into =
        let t = done_by (open_into file memory) (open_answer opened) in
        into_inv file memory t.0 t.1

    pub opens : ok o ≡ open_of file
    opens = sym (ap ok (opened_is_law file into.0 into.1)) ∙ into.1

    -- its record is read back from there
    pub held : ok o ≡ record_of (take 84 after)
    held = record_kept file memory byte o opens into.2 ∙ ap (λ (m : List ℕ). record_of (take 84 m)) (sym (open_memory opened))

    -- as many zones as it has
    pub count : (zones : ℕ) → TzbZoneCount (take 84 after) (pos zones) → zones ≡ o.zones.count
    unfolding zones_asked
    count zones c = same_number zones o.zones.count (zone_count_answer c ∙ ap number_code (sym (then_ok (record_of (take 84 after)) (λ p. ok p.zones.count) o held)))

    asked : (zone : ℕ) (x y r : ℤ) → TzbContains (take 84 after) file zone x y r → r ≡ inside_code (contains_at o file zone (point x y))
    unfolding contains_asked_by
    asked zone x y r c = contains_answer c ∙ ap inside_code (sym (then_ok (record_of (take 84 after)) (λ p. contains_at p file zone (point x y)) o held))

    no_zone : (zones : ℕ) → TzbZoneCount (take 84 after) (pos zones) → (zone : ℕ) → zones ≤ zone → (x y r : ℤ) → TzbContains (take 84 after) file zone x y r → r ≡ refusing 45
    no_zone zones n zone h x y r c =
        asked zone x y r c
        ∙ ap inside_code (sym (whole_over plain o file zone (point x y) (omega (arith, count zones n))))
        ∙ sym (code_small (refusal 45) (omega arith))

    -- and the full check accepted it
    module _ (checked : TzbFullCheck file (pos 0)) (zones : ℕ) (n : TzbZoneCount (take 84 after) (pos zones)) (zone : ℕ) (h : zone < zones) (x y r : ℤ) (e : r ≡ inside_code (contains_at o file zone (point x y))) where
      abbrev says : Bool
      says = zone_in (seg (point x y)) (shape_of file zone)

      answered : r ≡ inside_code (ok says)
      answered =
          e
          ∙ ap inside_code (contains_is file (accepted_by (full_check_of file) (full_check_answer checked)) o opens zone (omega (arith, count zones n, h)) (point x y))

      in_words : (says ≡ true) ↔ InZone (point x y) (shape_of file zone)
      in_words = zone_in_words (point x y) (shape_of file zone)

      yes : (b : Bool) → inside_code (ok b) ≡ pos 1 → b ≡ true
      yes true e = refl
      yes false e = let z : ◌≡◌ {A = ℕ} 0 1 = cc in absurd (omega arith)

      not_yes : (b : Bool) → inside_code (ok b) ≡ pos 0 → b ≡ true → ⊥
      not_yes true e f = let z : ◌≡◌ {A = ℕ} 1 0 = cc in omega arith
      not_yes false e f = false≢true f

      neither : (b : Bool) → (b ≡ true → ⊥) → inside_code (ok b) ≡ pos 0
      neither true f = absurd (f refl)
      neither false f = refl

      which : (b : Bool) → r ≡ inside_code (ok b) → (r ≡ pos 1) ⊎ (r ≡ pos 0)
      which true e = inl e
      which false e = inr e

      pub exactly : OneOrZero r (InZone (point x y) (shape_of file zone))
      exactly =
          record {
            either = which says answered;
            one = (λ e. in_words.0 (yes says (sym answered ∙ e)), λ z. answered ∙ ap (λ (b : Bool). inside_code (ok b)) (in_words.1 z));
            zero = (λ e z. not_yes says (sym answered ∙ e) (in_words.1 z), λ f. answered ∙ neither says (λ t. f (in_words.0 t)));
          }

  pub demand_3 : Bytes file → Demand3 file
  demand_3 byte =
      record {
        accepts = accepts;
        contains = λ checked memory after opened zones n zone h x y r c. exactly byte memory after opened checked zones n zone h x y r (asked byte memory after opened zone x y r c);
        no_zone = λ memory after opened zones n zone h x y r c. no_zone byte memory after opened zones n zone h x y r c;
      }
