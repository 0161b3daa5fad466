-- Stripes on the exports (specs/Stripes), of every call on bytes.
-- Assumes nothing.
use Prim.Native.Nat.{ℕ, zero, suc, ◌+◌, ◌*◌, ◌≤◌, ◌<◌, min}
use native.Mathlib.Omega.{arith}
use mathlib.Core.Path.{◌≡◌, refl, sym, ap, subst, ◌∙◌}
use mathlib.Core.Bool.{Bool, true, false}
use mathlib.Core.List.{List, [], ◌∷◌, ◌++◌}
use mathlib.Core.Logic.{◌⊎◌, inl, inr}
use lib.IntN.{ℤ, pos}
use lib.Ieee.{Float}
use lib.Dec.{leb}
use lib.ListN.{length, take, drop, get_or}
use lib.Seq.{take_at, drop_at}
use borrow.Author.Tests.{leb-true, leb-false}
use Rattle.fields.specs.Row as Row
use Rattle.fields.specs.Stores.{unit}
use Rattle.fields.proofs.Join.{fits}
use Rattle.answer.specs.declared.Refusal.{Refusal}
use Rattle.answer.specs.Refusals.{refusal}
use Rattle.answer.specs.Checks as Checks
use Rattle.answer.specs.Answers.{Answer, ok, refused, no, ◌then◌, need, left, how_many}
use Rattle.answer.proofs.AnswersLaws.{then_ok, then_no, then_inv, need_met, need_not, need_inv, ok_inv}
use Rattle.boxes.specs.declared.BBox.{BBox}
use Rattle.opened.specs.declared.Opened.{Opened}
use Rattle.opened.specs.Widths.{group_wide}
use Rattle.reader_records.specs.declared.GroupRecord.{GroupRecord}
use Rattle.reader_records.specs.Records.{record_at, ruled, group_in, group_rule, group_at}
use Rattle.reader_ways.specs.Ways.{striped}
use Rattle.reader_zones.specs.Zones.{contains_by, contains_at}
use Rattle.reader_lookup.specs.Asking.{lookup_by, lookup_of}
use Rattle.reader_listing.specs.All.{list_by, list_of}
use Rattle.stripes.specs.Stripes.{Boxed}
use Rattle.stripes.specs.Numbers.{numbers, need_of}
use Rattle.stripes.proofs.NeedLaws.{Counted, counted_none, counted, need_is, need_below}
use Rattle.reader_stripes.specs.Building.{boxes_from, boxed_at, boxed_from, boxed_groups, stripes_need, stripes_of}
use Rattle.reader_same.specs.Same.{Built}
use Rattle.reader_same.proofs.BuildingLaws.{boxes_inv}
use Rattle.reader_same.proofs.Same.{same}
use Rattle.demands.proofs.Accepted.{accepted_with}
use Rattle.demands_striped.proofs.Striped.{accepted_builds, opened_needs}
use Rattle.tzb.specs.Opening.{open_of, opened_is}
use Rattle.tzb.specs.FullCheck.{full_check_of}
use Rattle.tzb.proofs.Given.{opened_is_law}
use Rattle.tzb_record.specs.Layout.{widths, record_wide, numbers_of, opened_in, record_of, Held}
use Rattle.tzb_record.proofs.RoundTrip.{read_held}
use Rattle.tzb_asked.specs.Asked.{need_asked, stripes_asked, contains_asked_by, lookup_asked_by, list_asked_by}
use Rattle.tzb_codes.specs.Codes.{needed_code, inside_code, zone_code, number_code, refusal_code}
use Rattle.tzb_codes.proofs.CodesLaws.{code_small, whole_short}
use Rattle.tzb_c.proofs.OpenedHeld.{opened_held}
use Rattle.plane.specs.Places.{point}
use Rattle.replies.specs.Replies.{accepted}
use Rattle.exported.specs.Calls.{TzbOpen, TzbFullCheck, TzbStripesNeed, TzbStripes, TzbContainsStriped}
use Rattle.exported.specs.Words.{refusing, Refuses, Bytes}
use Rattle.exported.specs.Stripes.{StripesAnswers, BuiltFrom, StripedAnswers}
use Rattle.exported.proofs.Codes.{apart, refusal_below, same_number}
use Rattle.exported.proofs.Meaning.{full_check_answer, contains_answer, ask_answer, all_answer, all_memory, need_answer, stripes_answer, stripes_memory, contains_striped_answer, ask_striped_answer, all_striped_answer, all_striped_memory}
use Rattle.exported.proofs.Demand3 as Three

-- ---- how many groups a record has, and how many chunks a group
held_at : (ws ns : List ℕ) → Row.Held ws ns → (i : ℕ) → i < length ws → get_or ns i 0 < unit (get_or ws i 0)
held_at [] [] Row.none i h = absurd (omega arith)
held_at (w ∷ ws) (n ∷ ns) (Row.one f r) zero h = f
held_at (w ∷ ws) (n ∷ ns) (Row.one f r) (suc i) h = held_at ws ns r i (omega arith)
held_at [] (n ∷ ns) x4 i h = elim x4 [ ]
held_at (w ∷ ws) [] x4 i h = elim x4 [ ]

abbrev Few : Opened → Type 0
Few o = o.groups.count < 0x1_0000_0000

few : (o : Opened) → Held o → Few o
unfolding numbers_of
few o h = held_at widths (numbers_of o) h.numbers 12 (omega arith)

few_read : (held : List ℕ) → Bytes held → (o : Opened) → ok o ≡ record_of held → Few o
unfolding record_of
few_read held byte o e =
    let t = need_inv 44 (Checks.same (length held) record_wide) (ok (opened_in held)) o e in
    subst Few (sym (ok_inv o (opened_in held) t.1)) (few (opened_in held) (read_held held byte))

few_opened : (file : List ℕ) → Bytes file → (o : Opened) → ok o ≡ open_of file → Few o
few_opened file byte o e = few o (rw (opened_is_law file o e) (opened_held file byte))

module _ (file : List ℕ) (byte : Bytes file) (o : Opened) where
  group_count : (i : ℕ) (g : GroupRecord) → ok g ≡ group_at o file i → g.count ≤ 65_535
  unfolding group_at ruled group_in
  group_count i g e =
      let t = then_inv (record_at file o.groups group_wide i) _ g e in
      let n = need_inv 34 (group_rule o.chunks.count (group_in file t.0)) (ok (group_in file t.0)) g t.2 in
      let c : g.count ≡ (group_in file t.0).count = ap (λ (w : GroupRecord). w.count) (ok_inv g (group_in file t.0) n.1) in
      omega (arith, c, fits 2 file (t.0 + 8) byte)

  boxes_many : (g : GroupRecord) (n c : ℕ) (l : List BBox) → ok l ≡ boxes_from o file g n c → length l ≡ n
  unfolding boxes_from
  boxes_many g zero c l e = ap length (ok_inv l [] e)
  boxes_many g (suc n) c l e =
      let t = boxes_inv o file g n c l e in
      ap length t.4 ∙ ap suc (boxes_many g n (c + 1) t.2 t.3)

  boxed_many : (i : ℕ) (b : Boxed) → ok b ≡ boxed_at o file i → length b.chunks ≤ 65_535
  unfolding boxed_at
  boxed_many i b e =
      let t = then_inv (group_at o file i) (λ g. boxes_from o file g g.count 0 then λ l. ok (record { bbox = g.bbox; chunks = l })) b e in
      let u = then_inv (boxes_from o file t.0 t.0.count 0) (λ l. ok (record { bbox = t.0.bbox; chunks = l })) b t.2 in
      let c : length b.chunks ≡ length u.0 = ap (λ (x : Boxed). length x.chunks) (ok_inv b (record { bbox = t.0.bbox; chunks = u.0 }) u.2) in
      omega (arith, c, boxes_many t.0 t.0.count 0 u.0 u.1, group_count i t.0 t.1)

  all_many : (n i : ℕ) (l : List Boxed) → ok l ≡ boxed_from o file n i → Counted l × (length l ≡ n)
  unfolding boxed_from
  all_many zero i l e = subst (λ (x : List Boxed). Counted x × (length x ≡ 0)) (sym (ok_inv l [] e)) (counted_none, refl)
  all_many (suc n) i l e =
      let t = then_inv (boxed_at o file i) (λ g. boxed_from o file n (i + 1) then λ l. ok (g ∷ l)) l e in
      let u = then_inv (boxed_from o file n (i + 1)) (λ l. ok (t.0 ∷ l)) l t.2 in
      let r = all_many n (i + 1) u.0 u.1 in
      subst (λ (x : List Boxed). Counted x × (length x ≡ suc n)) (sym (ok_inv l (t.0 ∷ u.0) u.2)) (counted (boxed_many i t.0 t.1) r.0, ap suc r.1)

  -- so the need fits 57 bits
  need_fits : Few o → (l : List Boxed) → ok l ≡ boxed_groups o file → need_of l < 0x8000_0000_0000_0000
  unfolding boxed_groups
  need_fits h l e =
      let r = all_many o.groups.count 0 l e in
      omega (arith, need_below l r.0 (omega (arith, r.1, h)))

-- ---- what building answers: a refusal, for any room; or the need, and the numbers where there is room
data Answers (held file : List ℕ) : Type 0 where
  barred : (k : Refusal) → refused k ≡ need_asked held file → ((room : ℕ) → refused k ≡ stripes_asked held file room) → Answers held file
  built : (l : List Boxed) → ok (need_of l) ≡ need_asked held file → ((room : ℕ) → need 46 (leb (need_of l) room) (ok (numbers l)) ≡ stripes_asked held file room)
      → need_of l < 0x8000_0000_0000_0000 → Answers held file

answers : (held file : List ℕ) → Bytes file → ((o : Opened) → ok o ≡ record_of held → Few o) → Answers held file
unfolding need_asked stripes_asked stripes_need stripes_of
answers held file byte small = of (record_of held) refl
  where
    groups : (o : Opened) → ok o ≡ record_of held → (y : Answer (List Boxed)) → y ≡ boxed_groups o file → Answers held file
    groups o e (ok l) f =
        built l
        (then_ok (boxed_groups o file) (λ l. ok (need_of l)) l f ∙ then_ok (record_of held) (λ o. stripes_need o file) o e)
        (λ room. then_ok (boxed_groups o file) (λ l. need 46 (leb (need_of l) room) (ok (numbers l))) l f ∙ then_ok (record_of held) (λ o. stripes_of o file room) o e)
        (need_fits file byte o (small o e) l f)
    groups o e (refused k) f =
        barred k
        (then_no (boxed_groups o file) (λ l. ok (need_of l)) k f ∙ then_ok (record_of held) (λ o. stripes_need o file) o e)
        (λ room. then_no (boxed_groups o file) (λ l. need 46 (leb (need_of l) room) (ok (numbers l))) k f ∙ then_ok (record_of held) (λ o. stripes_of o file room) o e)

    of : (x : Answer Opened) → x ≡ record_of held → Answers held file
    of (ok o) e = groups o e (boxed_groups o file) refl
    of (refused k) e = barred k (then_no (record_of held) (λ o. stripes_need o file) k e) (λ room. then_no (record_of held) (λ o. stripes_of o file room) k e)

-- a count that is below 2^63 is told as it is
told : (n m : ℕ) → m < 0x8000_0000_0000_0000 → pos n ≡ needed_code (ok m) → n ≡ m
told n m h e = same_number n m (e ∙ sym (whole_short m h))

module _ (held file lent : List ℕ) (r : ℤ) (after : List ℕ) (c : TzbStripes held file lent r after) where
  abbrev code : Answer (List ℕ) → ℤ
  code x = needed_code (how_many x)

  of_answers : Answers held file → StripesAnswers held file lent r after
  of_answers (barred k e f) =
      let g : r ≡ refusal_code k = stripes_answer c ∙ ap code (sym (f (length lent))) in
      let never : (n : ℕ) → TzbStripesNeed held file (pos n) → ⊥ = λ n q. refusal_below n k (need_answer q ∙ ap needed_code (sym e)) in
      record {
        enough = λ n q h. absurd (never n q);
        no_room = λ n q h. absurd (never n q);
        refused = λ q d w. g ∙ sym (need_answer d ∙ ap needed_code (sym e));
        behind = λ n h. absurd (refusal_below n k (sym h ∙ g));
        unchanged = λ h. stripes_memory c ∙ ap (left lent) (sym (f (length lent)));
      }
  of_answers (built l e f small) = by (leb (need_of l) (length lent)) refl
    where
      its : (n : ℕ) → TzbStripesNeed held file (pos n) → n ≡ need_of l
      its n q = told n (need_of l) small (need_answer q ∙ ap needed_code (sym e))

      not_refused : (q : ℤ) → TzbStripesNeed held file q → Refuses q → ⊥
      not_refused q d w = apart (need_of l) _ (whole_short (need_of l) small ∙ ap needed_code e ∙ sym (need_answer d) ∙ w.tells)

      by : (b : Bool) → leb (need_of l) (length lent) ≡ b → StripesAnswers held file lent r after
      by true h =
          let x : ok (numbers l) ≡ stripes_asked held file (length lent) = need_met 46 _ (ok (numbers l)) h ∙ f (length lent) in
          let g : r ≡ pos (need_of l) = stripes_answer c ∙ ap code (sym x) ∙ ap (λ (n : ℕ). needed_code (ok n)) (need_is l) ∙ sym (whole_short (need_of l) small) in
          let m : after ≡ numbers l ++ drop (length (numbers l)) lent = stripes_memory c ∙ ap (left lent) (sym x) in
          record {
            enough = λ n q k. g ∙ ap pos (sym (its n q));
            no_room = λ n q k. absurd (omega (arith, leb-true (need_of l) (length lent) h, its n q));
            refused = λ q d w. absurd (not_refused q d w);
            behind = λ n k.
                let z : length (numbers l) ≡ n = need_is l ∙ sym (same_number n (need_of l) (sym k ∙ g)) in
                ap (drop n) m ∙ drop_at (numbers l) (drop (length (numbers l)) lent) n z ∙ ap (λ (i : ℕ). drop i lent) z;
            unchanged = λ k. absurd (k (need_of l) g);
          }
      by false h =
          let x : no 46 ≡ stripes_asked held file (length lent) = need_not 46 _ (ok (numbers l)) h ∙ f (length lent) in
          let g : r ≡ refusing 46 = stripes_answer c ∙ ap code (sym x) ∙ sym (code_small (refusal 46) (omega arith)) in
          record {
            enough = λ n q k. absurd (omega (arith, leb-false (need_of l) (length lent) h, its n q));
            no_room = λ n q k. g;
            refused = λ q d w. absurd (not_refused q d w);
            behind = λ n k. absurd (apart n _ (sym k ∙ g));
            unchanged = λ k. stripes_memory c ∙ ap (left lent) (sym x);
          }

pub stripes_answers : (held file lent : List ℕ) → Bytes held → Bytes file → (r : ℤ) (after : List ℕ) → TzbStripes held file lent r after → StripesAnswers held file lent r after
stripes_answers held file lent bytes byte r after c = of_answers held file lent r after c (answers held file byte (few_read held bytes))

-- ---- numbers that a call wrote were built from its record and file
module _ (held file numbers' : List ℕ) (byte : Bytes file) (small : (o : Opened) → ok o ≡ record_of held → Few o) (b : BuiltFrom held file numbers') where
  as_built : (o : Opened) → ok o ≡ record_of held → Answers held file → Built o file numbers'
  unfolding stripes_asked
  as_built o e (barred k f g) = absurd (refusal_below b.count k (stripes_answer b.wrote ∙ ap (λ (x : Answer (List ℕ)). needed_code (how_many x)) (sym (g (length b.lent)))))
  as_built o e (built l f g small) = by (leb (need_of l) (length b.lent)) refl
    where
      by : (t : Bool) → leb (need_of l) (length b.lent) ≡ t → Built o file numbers'
      by false h =
          let x = need_not 46 _ (ok (numbers l)) h ∙ g (length b.lent) in
          absurd (refusal_below b.count (refusal 46) (stripes_answer b.wrote ∙ ap (λ (x : Answer (List ℕ)). needed_code (how_many x)) (sym x)))
      by true h =
          let x : ok (numbers l) ≡ stripes_asked held file (length b.lent) = need_met 46 _ (ok (numbers l)) h ∙ g (length b.lent) in
          let z : b.count ≡ length (numbers l) =
          told b.count (length (numbers l)) (omega (arith, need_is l, small)) (stripes_answer b.wrote ∙ ap (λ (x : Answer (List ℕ)). needed_code (how_many x)) (sym x)) in
          let m : b.after ≡ numbers l ++ drop (length (numbers l)) b.lent = stripes_memory b.wrote ∙ ap (left b.lent) (sym x) in
          record {
            room = length b.lent;
            numbers = numbers l;
            built = x ∙ sym (then_ok (record_of held) (λ o. stripes_of o file (length b.lent)) o e);
            kept =
                ap (λ (i : ℕ). take i numbers') (sym z) ∙ b.kept ∙ ap (take b.count) m
                ∙ take_at (numbers l) (drop (length (numbers l)) b.lent) b.count (sym z);
          }

  -- so each question is asked as plainly, whatever the record is
  asked_same : {A : Type 0} (f g : Opened → Answer A) → ((o : Opened) → Built o file numbers' → f o ≡ g o) → (record_of held then f) ≡ (record_of held then g)
  asked_same f g h = of (record_of held) refl
    where
      of : (x : Answer Opened) → x ≡ record_of held → (record_of held then f) ≡ (record_of held then g)
      of (ok o) e = sym (then_ok (record_of held) f o e) ∙ h o (as_built o e (answers held file byte small)) ∙ then_ok (record_of held) g o e
      of (refused k) e = sym (then_no (record_of held) f k e) ∙ then_no (record_of held) g k e

-- ---- questions by stripes
module _ (file : List ℕ) (byte : Bytes file) where
  module _ (held numbers' : List ℕ) (bytes : Bytes held) (b : BuiltFrom held file numbers') where
    abbrev alike : {A : Type 0} (f g : Opened → Answer A) → ((o : Opened) → Built o file numbers' → f o ≡ g o) → (record_of held then f) ≡ (record_of held then g)
    alike = asked_same held file numbers' byte (few_read held bytes) b

  -- the file was opened into memory
  needs : (memory after : List ℕ) → TzbOpen file memory (pos 0) after → (r : ℤ) → TzbStripesNeed (take 84 after) file r → ((n : ℕ) × (r ≡ pos n)) ⊎ (r ≡ refusing 49)
  unfolding need_asked
  needs memory after opened r c =
      let e = need_answer c ∙ ap needed_code (sym (then_ok (record_of (take 84 after)) (λ o. stripes_need o file) (opened_is file) (Three.held file byte memory after opened))) in
      of (stripes_need (opened_is file) file) e (opened_needs file (opened_is file) (Three.opens file byte memory after opened))
    where
      of : (x : Answer ℕ) → r ≡ needed_code x → ((k : Refusal) → refused k ≡ x → k ≡ refusal 49) → ((n : ℕ) × (r ≡ pos n)) ⊎ (r ≡ refusing 49)
      of (ok n) e h = inl (min n 0x7fff_ffff_ffff_ffff, e)
      of (refused k) e h = inr (e ∙ ap refusal_code (h k refl) ∙ sym (code_small (refusal 49) (omega arith)))

  -- and the full check accepted it
  module _ (checked : TzbFullCheck file (pos 0)) (memory after : List ℕ) (opened : TzbOpen file memory (pos 0) after) where
    abbrev its : Opened
    its = opened_is file

    held : ok its ≡ record_of (take 84 after)
    held = Three.held file byte memory after opened

    opens : ok its ≡ open_of file
    opens = Three.opens file byte memory after opened

    accepts : full_check_of file ≡ accepted
    accepts = Three.accepted_by (full_check_of file) (full_check_answer checked)

    its_few : (o : Opened) → ok o ≡ record_of (take 84 after) → Few o
    its_few o e = subst Few (ok_inv its o (held ∙ sym e)) (few_opened file byte its opens)

    builds : (r : ℤ) → TzbStripesNeed (take 84 after) file r → (n : ℕ) × (r ≡ pos n)
    unfolding need_asked
    builds r c =
        let k = accepted_builds file its (accepted_with file accepts its opens) in
        (min k.needed 0x7fff_ffff_ffff_ffff, need_answer c ∙ ap needed_code (sym (then_ok (record_of (take 84 after)) (λ o. stripes_need o file) its held) ∙ k.told))

    asked : (numbers' : List ℕ) → BuiltFrom (take 84 after) file numbers' → (zone : ℕ) (x y r : ℤ) → TzbContainsStriped (take 84 after) numbers' file zone x y r → r ≡ inside_code (contains_at its file zone (point x y))
    unfolding contains_asked_by
    asked numbers' b zone x y r c =
        let k = as_built (take 84 after) file numbers' byte its_few b its held (answers (take 84 after) file byte its_few) in
        contains_striped_answer c
        ∙ ap inside_code (sym (then_ok (record_of (take 84 after)) (λ o. contains_by (striped numbers') o file zone (point x y)) its held) ∙ (same its file numbers' k).contains zone (point x y))

  pub striped_answers : StripedAnswers file
  unfolding contains_asked_by lookup_asked_by list_asked_by
  striped_answers =
      record {
        contains = λ held numbers' bytes b zone x y r q c d.
            contains_striped_answer d
            ∙ ap inside_code (alike held numbers' bytes b (λ o. contains_by (striped numbers') o file zone (point x y)) (λ o. contains_at o file zone (point x y)) (λ o k. (same o file numbers' k).contains zone (point x y)))
            ∙ sym (contains_answer c);
        ask = λ held numbers' bytes b lng lat r q c d.
            ask_striped_answer d
            ∙ ap zone_code (alike held numbers' bytes b (λ o. lookup_by (striped numbers') o file lng lat) (λ o. lookup_of o file lng lat) (λ o k. (same o file numbers' k).lookup lng lat))
            ∙ sym (ask_answer c);
        ask_all = λ held numbers' bytes b lng lat places r q after after' c d.
            let e = alike held numbers' bytes b (λ o. list_by (striped numbers') o file lng lat (length places)) (λ o. list_of o file lng lat (length places)) (λ o k. (same o file numbers' k).lookup_into lng lat (length places)) in
            (all_striped_answer d ∙ ap (λ (x : Answer (List ℕ)). number_code (how_many x)) e ∙ sym (all_answer c), all_striped_memory d ∙ ap (left places) e ∙ sym (all_memory c));
        needs = needs;
        builds = builds;
        exact = λ checked memory after opened numbers' b zones n zone h x y r c. Three.exactly file byte memory after opened checked zones n zone h x y r (asked checked memory after opened numbers' b zone x y r c);
      }
