-- Laws of specs/Runs, as proofs cite them. Nothing here need be believed.
-- Assumes nothing.
use Rattle.std.proofs.Common.{◌≡◌, ℕ, zero, suc, ◌+◌, ◌*◌, ◌/◌, ◌^◌, ◌≤◌, ◌<◌, Bool, true, false, List, [], ◌++◌, Option, None, Some, Ok, refl, sym, ap, ap₂, ◌∙◌, subst, arith, length, take, drop, get_or, append_assoc, append-nil, length-append, length-take-le, drop_at, le_refl}
use Rattle.std.proofs.lemmas.List.{get_or_append_left, get_or-append-add}
use Rattle.std.proofs.lemmas.Slice.{take-put_mid_below}
use Rattle.std.specs.Bool.{⊤}
use Rattle.std.specs.Int.{w32}
use Rattle.std.proofs.Common.{to_z}
use Rattle.std.specs.Io.KnownBytes.{Appends, IsAtEnd}
use Rattle.std.proofs.KnownBytes.{Consumes-nil, Consumes-trans, Appends-nil, Appends-trans}
use borrow.Rule.Slice.PartMut.{put_mid, post_of}
use lib.Seq.{take-add, take-append-le}
use Rattle.plane.specs.Places.{point}
use Rattle.fields.specs.Le.{le}
use Rattle.answer.specs.Answers.{Answer}
use Rattle.opened.specs.declared.Opened.{Opened}
use Rattle.entries.specs.Entry.{bytes_of}
use Rattle.tzb_journal.specs.Journal.{entry_for}
use Rattle.journal.specs.Answered.{places, position_at, entries_of}
use Rattle.journal.specs.declared.Stop.{Stop}
use Rattle.journal.specs.declared.Stop.TheVariants.{Usage, Index, TooLong, Input, Output, WithinPosition}
use Rattle.journal.specs.Runs.{AreWhole, Answers, Stops, TurnEnds, AllAnswered}

-- ---- bytes put behind those that came before
pub longer : (n k came : ℕ) (s part : List ℕ) → n ≤ length s → came ≤ length part → take (n + came) (put_mid n k s part) ≡ take n s ++ take came part
longer n k came s part within fits =
    let after = post_of n k s in
    take-add n came (put_mid n k s part)
    ∙ ap (λ l. l ++ take came (drop n (put_mid n k s part))) (take-put_mid_below n k s part n (le_refl n) within)
    ∙ ap (λ l. take n s ++ take came l) (drop_at (take n s) (part ++ after) n (length-take-le n s within))
    ∙ ap (λ l. take n s ++ l) (take-append-le came part after fits)

-- ---- positions of one input behind another
in_front : (n p : ℕ) (a b : List ℕ) → p + n ≤ length a → le n (a ++ b) p ≡ le n a p
unfolding le
in_front zero p a b h = refl
in_front (suc n) p a b h =
    let here : p < length a = omega arith in
    ap₂ (λ x y. x + 256 * y) (get_or_append_left a b 0 p here) (in_front n (p + 1) a b (omega arith))

behind : (n p q : ℕ) (a b : List ℕ) → q ≡ length a + p → le n (a ++ b) q ≡ le n b p
unfolding le
behind zero p q a b e = refl
behind (suc n) p q a b e =
    ap₂ (λ x y. x + 256 * y) (ap (λ k. get_or (a ++ b) k 0) e ∙ get_or-append-add a b p 0) (behind n (p + 1) (q + 1) a b (omega arith))

position_in_front : (p : ℕ) (a b : List ℕ) → p + 8 ≤ length a → position_at (a ++ b) p ≡ position_at a p
position_in_front p a b h = ap₂ (λ x y. point (to_z w32 x) (to_z w32 y)) (in_front 4 p a b (omega arith)) (in_front 4 (p + 4) a b (omega arith))

position_behind : (p q : ℕ) (a b : List ℕ) → q ≡ length a + p → position_at (a ++ b) q ≡ position_at b p
position_behind p q a b e = ap₂ (λ x y. point (to_z w32 x) (to_z w32 y)) (behind 4 p q a b e) (behind 4 (p + 4) (q + 4) a b (omega arith))

module _ (opening : Answer Opened) (file : List ℕ) where
  entries_in_front : (n : ℕ) (a b : List ℕ) → 8 * n ≤ length a → entries_of opening file (a ++ b) n ≡ entries_of opening file a n
  unfolding entries_of
  entries_in_front zero a b h = refl
  entries_in_front (suc n) a b h =
      ap₂ (λ x y. x ++ bytes_of places (entry_for places opening file y)) (entries_in_front n a b (omega arith)) (position_in_front (8 * n) a b (omega arith))

  entries_joined : (m n : ℕ) (a b : List ℕ) → length a ≡ 8 * m → entries_of opening file (a ++ b) (m + n) ≡ entries_of opening file a m ++ entries_of opening file b n
  unfolding entries_of
  entries_joined m zero a b e =
      let none : m + 0 ≡ m = omega arith in
      ap (entries_of opening file (a ++ b)) none ∙ entries_in_front m a b (omega arith) ∙ sym (append-nil (entries_of opening file a m))
  entries_joined m (suc n) a b e =
      let one : m + suc n ≡ suc (m + n) = omega arith in
      ap (entries_of opening file (a ++ b)) one
      ∙ ap₂ (λ x y. x ++ bytes_of places (entry_for places opening file y)) (entries_joined m n a b e) (position_behind (8 * n) (8 * (m + n)) a b (omega arith))
      ∙ append_assoc (entries_of opening file a m) (entries_of opening file b n) (bytes_of places (entry_for places opening file (position_at b (8 * n))))

  -- ---- runs
  -- nothing was taken yet
  pub at_first : (before held : Option (List ℕ)) → Answers opening file before before held held (λ bytes. length bytes ≡ 0)
  unfolding entries_of
  at_first before held = ([], Consumes-nil before, Appends-nil held, refl)

  -- after turns that each took 4,096 bytes
  module _ (a b e c d f : Option (List ℕ)) (k : ℕ) (turns : Answers opening file a b c d (λ bytes. length bytes ≡ 4096 * k)) where
    -- one more
    pub more : (P Q : List ℕ → Type 0) → ((x y : List ℕ) → length x ≡ 4096 * k → P y → Q (x ++ y)) → Answers opening file b e d f P → Answers opening file a e c f Q
    more P Q both turn =
        let x = turns.0 in
        let y = turn.0 in
        let many : length x / 8 ≡ 512 * k = omega (arith, turns.3) in
        let all : length (x ++ y) / 8 ≡ 512 * k + length y / 8 = omega (arith, length-append x y, turns.3) in
        let joined : entries_of opening file (x ++ y) (length (x ++ y) / 8) ≡ entries_of opening file x (length x / 8) ++ entries_of opening file y (length y / 8) =
        ap (entries_of opening file (x ++ y)) all
        ∙ entries_joined (512 * k) (length y / 8) x y (omega (arith, turns.3))
        ∙ ap (λ n. entries_of opening file x n ++ entries_of opening file y (length y / 8)) (sym many)
        in
        (x ++ y, Consumes-trans a b e x y turns.1 turn.1, subst (Appends c f) (sym joined) (Appends-trans c d f _ _ turns.2 turn.2), both x y turns.3 turn.3)

    pub goes_on : (m : Bool) → m ≡ true → TurnEnds opening file b e d f (Ok m) → Answers opening file a e c f (λ bytes. length bytes ≡ 4096 * (k + 1))
    goes_on true h turn = more (λ y. length y ≡ 4096) _ (λ x y p q. omega (arith, length-append x y, p, q)) turn
    goes_on false h turn = absurd (cc h)

    pub ends : (m : Bool) → m ≡ false → TurnEnds opening file b e d f (Ok m) → Answers opening file a e c f (λ bytes. AreWhole bytes × (length bytes < 2 ^ 64 → IsAtEnd e))
    ends true h turn = absurd (cc h)
    ends false h turn = more (λ y. AreWhole y × IsAtEnd e) _ (λ x y p q. (omega (arith, length-append x y, p, q.0), λ _. q.1)) turn

    pub stops : (why : Stop) → Stops opening file b e d f why → Stops opening file a e c f why
    stops (Input why) turn = more (λ y. ⊤) _ (λ x y p q. tt) turn
    stops WithinPosition turn = more (λ y. ¬ AreWhole y × IsAtEnd e) _ (λ x y p q. (λ h. q.0 (omega (arith, length-append x y, p, h)), q.1)) turn
    stops (Output why) turn = tt
    stops Usage turn = turn
    stops (Index name why) turn = turn
    stops (TooLong name) turn = turn

  -- a run to the end answers all
  pub all : (before left held holds : Option (List ℕ)) → Answers opening file before left held holds (λ bytes. AreWhole bytes × (length bytes < 2 ^ 64 → IsAtEnd left)) → AllAnswered opening file before left held holds
  all None left held holds run = tt
  all (Some xs) None held holds run = absurd run.1
  all (Some xs) (Some ys) held holds run =
      λ small.
      let taken : xs ≡ run.0 ++ ys = run.1 in
      let long : length run.0 < 2 ^ 64 = omega (arith, ap length taken, length-append run.0 ys) in
      let same : xs ≡ run.0 = taken ∙ ap (λ l. run.0 ++ l) (run.3.1 long) ∙ append-nil run.0 in
      subst (λ l. AreWhole l × Appends held holds (entries_of opening file l (length l / 8))) (sym same) (run.3.0, run.2)
