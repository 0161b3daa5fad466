-- Building: which refusals it gives, the need never 46; and what it answers, in both cases.
-- Assumes nothing.
use Prim.Native.Nat.{ℕ, zero, suc, ◌+◌, ◌≤◌, ◌<◌, min}
use native.Mathlib.Omega.{arith}
use mathlib.Core.Path.{◌≡◌, refl, sym, ap, ◌∙◌}
use mathlib.Core.Bool.{Bool, true, false, ◌||◌}
use mathlib.Core.List.{List, [], ◌∷◌}
use mathlib.Core.Logic.{inl, inr}
use lib.Dec.{leb, ltb}
use lib.ListN.{length}
use Rattle.answer.specs.declared.Refusal.{Refusal}
use Rattle.answer.specs.Refusals.{refusal}
use Rattle.answer.specs.Answers.{Answer, ok, refused, ◌then◌, need, left, how_many}
use Rattle.answer.specs.Checks.{same}
use Rattle.fields.specs.Loads.{inside}
use Rattle.opened.specs.declared.Directory.{Directory}
use Rattle.opened.specs.declared.Opened.{Opened}
use Rattle.opened.specs.Widths.{group_wide, chunk_wide}
use Rattle.reader_records.specs.declared.GroupRecord.{GroupRecord}
use Rattle.reader_records.specs.Records.{place, record_at, ruled, group_at, chunk_at}
use Rattle.stripes.specs.Stripes.{within_height}
use Rattle.stripes.specs.Numbers.{need_of}
use Rattle.reader_stripes.specs.Building.{boxes_from, boxed_at, boxed_from, boxed_groups, stripes_need, stripes_of}
use Rattle.tzb_record.specs.Layout.{record_of}
use Rattle.tzb_asked.specs.Asked.{need_asked, stripes_asked}
use Rattle.tzb_codes.specs.Codes.{needed_code}
use Rattle.exported.specs.Words.{last_number, refusing}
use Rattle.exported.specs.Demand1.{NumberOrRefusal, NumberOrAsItWas}
use Rattle.exported.proofs.Tabled.{Numbered, Only, Tabled, given, need_o, then_t}
use Rattle.exported.proofs.Codes.{apart, same_refusing, code_is, refuses}
use Rattle.exported.proofs.Maps.{Roomless}

-- ---- what holds of 34, 44 and 49 holds of every refusal
module _ (P : Refusal → Type 0) (at-34 : P (refusal 34)) (at-44 : P (refusal 44)) (at-49 : P (refusal 49)) where
  ruled_p : {A : Type 0} (s : List ℕ) (d : Directory) (w i : ℕ) (read : ℕ → A) (rule : A → Bool) → Only P (ruled (record_at s d w i) read rule 34)
  unfolding ruled record_at
  ruled_p s d w i read rule =
      then_t _ _
      (need_o 34 (ltb i d.count) _ at-34 (need_o 44 (inside w s (place d w i)) _ at-44 (given _)))
      (λ p. need_o 34 (rule (read p)) _ at-34 (given _))

  module _ (o : Opened) (s : List ℕ) where
    group_p : (i : ℕ) → Only P (group_at o s i)
    unfolding group_at
    group_p i = ruled_p s o.groups group_wide i _ _

    chunk_p : (i : ℕ) → Only P (chunk_at o s i)
    unfolding chunk_at
    chunk_p i = ruled_p s o.chunks chunk_wide i _ _

    boxes_p : (g : GroupRecord) (n c : ℕ) → Only P (boxes_from o s g n c)
    unfolding boxes_from
    boxes_p g zero c = given _
    boxes_p g (suc n) c =
        then_t _ _ (chunk_p (g.first + c)) (λ v.
        need_o 49 (ltb g.count 2 || within_height g.bbox v.bbox) _ at-49
        (then_t _ _ (boxes_p g n (c + 1)) (λ l. given _)))

    boxed_p : (i : ℕ) → Only P (boxed_at o s i)
    unfolding boxed_at
    boxed_p i = then_t _ _ (group_p i) (λ g. then_t _ _ (boxes_p g g.count 0) (λ l. given _))

    from_p : (n i : ℕ) → Only P (boxed_from o s n i)
    unfolding boxed_from
    from_p zero i = given _
    from_p (suc n) i = then_t _ _ (boxed_p i) (λ g. then_t _ _ (from_p n (i + 1)) (λ l. given _))

    groups_p : Only P (boxed_groups o s)
    unfolding boxed_groups
    groups_p = from_p o.groups.count 0

  module _ (held file : List ℕ) where
    record_p : Only P (record_of held)
    unfolding record_of
    record_p = need_o 44 (same (length held) 84) _ at-44 (given _)

    need_barred : Only P (need_asked held file)
    unfolding need_asked stripes_need
    need_barred = then_t _ _ record_p (λ o. then_t _ _ (groups_p o file) (λ l. given _))

    stripes_barred : P (refusal 46) → (room : ℕ) → Only P (stripes_asked held file room)
    unfolding stripes_asked stripes_of
    stripes_barred at-46 room = then_t _ _ record_p (λ o. then_t _ _ (groups_p o file) (λ l. need_o 46 (leb (need_of l) room) _ at-46 (given _)))

-- ---- so every refusal is from the table, and the need's is never 46
pub stripes_tabled : (held file : List ℕ) (room : ℕ) → Tabled last_number (stripes_asked held file room)
stripes_tabled held file room =
    stripes_barred (Numbered last_number)
    (record { least = omega arith; greatest = omega arith })
    (record { least = omega arith; greatest = omega arith })
    (record { least = omega arith; greatest = omega arith })
    held file
    (record { least = omega arith; greatest = omega arith })
    room

pub need_roomless : (held file : List ℕ) → Only Roomless (need_asked held file)
need_roomless held file =
    need_barred Roomless
    (record { least = omega arith; greatest = omega arith }, λ e. omega arith)
    (record { least = omega arith; greatest = omega arith }, λ e. omega arith)
    (record { least = omega arith; greatest = omega arith }, λ e. omega arith)
    held file

-- as numbers
pub need_told : (x : Answer ℕ) → Only Roomless x → NumberOrRefusal (needed_code x) × (needed_code x ≡ refusing 46 → ⊥)
need_told (ok n) h = (inl (min n 0x7fff_ffff_ffff_ffff, refl), λ e. apart _ _ e)
need_told (refused k) h = (inr (refuses k h.by.0), λ e. h.by.1 (same_refusing k.number 46 (sym (code_is k h.by.0) ∙ e)))

pub lent_told : (lent : List ℕ) (x : Answer (List ℕ)) → Tabled last_number x → NumberOrAsItWas (needed_code (how_many x)) lent (left lent x)
lent_told lent (ok l) h = inl (min (length l) 0x7fff_ffff_ffff_ffff, refl)
lent_told lent (refused k) h = inr (refuses k h.by, refl)
