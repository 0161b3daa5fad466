-- Laws of specs/Answered, as proofs cite them. Nothing here need be believed.
-- Assumes nothing.
use Prim.Native.Nat.{ℕ, zero, suc, ◌+◌, ◌-◌, ◌*◌, ◌≤◌}
use native.Mathlib.Omega.{arith}
use native.Mathlib.Numerals.{add-one}
use mathlib.Core.Path.{◌≡◌, refl, sym, ap, ap₂, ◌∙◌}
use mathlib.Core.List.{List, [], ◌++◌, append-nil, append_assoc}
use lib.ListN.{length, take, drop, length-append, length-drop, drop_of_length-le}
use lib.Seq.{take_all, take_at, drop_at, drop-drop}
use Rattle.plane.specs.declared.I32Point.{I32Point}
use Rattle.fields.proofs.Rows.{row_long}
use Rattle.answer.specs.Answers.{Answer, ok, left}
use Rattle.answer.specs.Checks.{at_most}
use Rattle.answer.proofs.CheckLaws.{le_at}
use Rattle.answer.proofs.AnswersLaws.{need_met, left_is}
use Rattle.opened.specs.declared.Opened.{Opened}
use Rattle.entries.specs.Entry.{Entry, widths, entry_wide, numbers_of, bytes_of}
use Rattle.entries.specs.Forms.{laid_of}
use Rattle.entries.proofs.ReadLaws.{entry_wide_law}
use Rattle.tzb_journal.specs.Journal.{entry_for}
use Rattle.journal.specs.Answered.{places, position_at, entries_of}

-- ---- one entry
long : (e : Entry) → length (bytes_of places e) ≡ entry_wide places
unfolding bytes_of
long e = row_long (widths places) (numbers_of places e) ∙ entry_wide_law places

-- laid where there is room for it, with its position however it was read
pub laid_is : (opening : Answer Opened) (file : List ℕ) (p q : I32Point) (room after : List ℕ) → p ≡ q → entry_wide places ≤ length room
    → after ≡ left room (laid_of places (entry_for places opening file p) room) → after ≡ bytes_of places (entry_for places opening file q) ++ drop (entry_wide places) room
unfolding laid_of
laid_is opening file p q room after e h is =
    let a = entry_for places opening file p in
    is
    ∙ sym (left_is (laid_of places a room) (bytes_of places a) (need_met 46 (at_most (entry_wide places) (length room)) (ok (bytes_of places a)) (le_at _ _ h)) room)
    ∙ ap (λ (k : ℕ). bytes_of places a ++ drop k room) (long a)
    ∙ ap (λ (r : I32Point). bytes_of places (entry_for places opening file r) ++ drop (entry_wide places) room) e

-- ---- many, one behind another
module _ (opening : Answer Opened) (file s : List ℕ) where
  abbrev pub bytes_at : ℕ → List ℕ
  bytes_at i = bytes_of places (entry_for places opening file (position_at s (8 * i)))

  all_long : (n : ℕ) → length (entries_of opening file s n) ≡ entry_wide places * n
  unfolding entries_of
  all_long zero = refl
  all_long (suc n) = omega (arith, length-append (entries_of opening file s n) (bytes_at n), all_long n, long (entry_for places opening file (position_at s (8 * n))))

  next_is : (i : ℕ) → entries_of opening file s i ++ bytes_at i ≡ entries_of opening file s (i + 1)
  unfolding entries_of
  next_is i = rw add-one

  -- the first i stand, and what lies behind is as it was
  pub record Stand (before : List ℕ) (i : ℕ) (out : List ℕ) : Type 0 where
    pub is : out ≡ entries_of opening file s i ++ drop (entry_wide places * i) before
    pub long : length out ≡ length before

  pub none : (before : List ℕ) → Stand before 0 before
  unfolding entries_of
  none before = record { is = refl; long = refl }

  -- one more, into the part behind them
  module _ (before : List ℕ) (i : ℕ) (m : List ℕ) (h : Stand before i m) (room : entry_wide places * i + entry_wide places ≤ length m) (b : List ℕ)
      (e : b ≡ bytes_at i ++ drop (entry_wide places) (take (length m - entry_wide places * i) (drop (entry_wide places * i) m))) where
    front : take (entry_wide places * i) m ≡ entries_of opening file s i
    front = ap (take (entry_wide places * i)) h.is ∙ take_at (entries_of opening file s i) (drop (entry_wide places * i) before) (entry_wide places * i) (all_long i)

    back : drop (entry_wide places * i) m ≡ drop (entry_wide places * i) before
    back = ap (drop (entry_wide places * i)) h.is ∙ drop_at (entries_of opening file s i) (drop (entry_wide places * i) before) (entry_wide places * i) (all_long i)

    part_is : take (length m - entry_wide places * i) (drop (entry_wide places * i) m) ≡ drop (entry_wide places * i) before
    part_is = take_all (length m - entry_wide places * i) (drop (entry_wide places * i) m) (omega (arith, length-drop (entry_wide places * i) m)) ∙ back

    none_behind : drop (length m - entry_wide places * i) (drop (entry_wide places * i) m) ≡ []
    none_behind = drop_of_length-le (drop (entry_wide places * i) m) {i = length m - entry_wide places * i} (omega (arith, length-drop (entry_wide places * i) m))

    rest : drop (entry_wide places) (drop (entry_wide places * i) before) ≡ drop (entry_wide places * (i + 1)) before
    rest = let far : entry_wide places * i + entry_wide places ≡ entry_wide places * (i + 1) = omega arith in drop-drop (entry_wide places) (entry_wide places * i) before ∙ ap (λ (k : ℕ). drop k before) far

    next_stands : take (entry_wide places * i) m ++ (b ++ drop (length m - entry_wide places * i) (drop (entry_wide places * i) m)) ≡ entries_of opening file s (i + 1) ++ drop (entry_wide places * (i + 1)) before
    next_stands =
        ap₂ (λ (f l : List ℕ). f ++ l) front
        (ap₂ (λ (x y : List ℕ). x ++ y) (e ∙ ap (λ (l : List ℕ). bytes_at i ++ drop (entry_wide places) l) part_is ∙ ap (λ (l : List ℕ). bytes_at i ++ l) rest) none_behind
        ∙ append-nil (bytes_at i ++ drop (entry_wide places * (i + 1)) before))
        ∙ sym (append_assoc (entries_of opening file s i) (bytes_at i) (drop (entry_wide places * (i + 1)) before))
        ∙ ap (λ (f : List ℕ). f ++ drop (entry_wide places * (i + 1)) before) (next_is i)

    pub next : Stand before (i + 1) (take (entry_wide places * i) m ++ (b ++ drop (length m - entry_wide places * i) (drop (entry_wide places * i) m)))
    next =
        record {
          is = next_stands;
          long = ap length next_stands ∙ omega (arith, length-append (entries_of opening file s (i + 1)) (drop (entry_wide places * (i + 1)) before), all_long (i + 1), length-drop (entry_wide places * (i + 1)) before, h.long, room);
        }

  -- all of them
  pub all_stand : (before : List ℕ) (n i : ℕ) (out : List ℕ) → i ≤ n → n ≤ i → Stand before i out → out ≡ entries_of opening file s n ++ drop (entry_wide places * n) before
  all_stand before n i out h k e =
      let all : i ≡ n = omega arith in
      e.is ∙ ap (λ (j : ℕ). entries_of opening file s j ++ drop (entry_wide places * j) before) all
