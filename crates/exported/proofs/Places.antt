-- Demand 1, the place (specs/Places), of every file of fewer than 2 ^ 63 bytes.
-- Assumes nothing.
use Prim.Native.Nat.{ℕ, ◌+◌, ◌-◌, ◌≤◌, ◌<◌}
use native.Mathlib.Omega.{arith}
use mathlib.Core.Path.{◌≡◌, refl, sym, ap, subst, ◌∙◌}
use mathlib.Core.Bool.{Bool, true, false, ◌&&◌, ◌||◌}
use mathlib.Core.List.{List}
use mathlib.Core.Logic.{◌⊎◌, inl, inr}
use lib.IntN.{ℤ, pos, negsuc}
use lib.Ieee.{Float}
use lib.ListN.{length, take}
use lib.Seq.{length-take-le}
use lib.Dec.{leb}
use borrow.Author.Tests.{leb-true, lt-ltb}
use Rattle.basics.specs.Truth.{and_l, and_r}
use Rattle.plane.specs.declared.I32Point.{I32Point}
use Rattle.plane.specs.Places.{point}
use Rattle.answer.specs.declared.Refusal.{Refusal}
use Rattle.answer.specs.Refusals.{no_place, refusal, placed_at, counted_from}
use Rattle.answer.specs.Answers.{Answer, ok, refused, ◌then◌, how_many}
use Rattle.answer.specs.Checks.{same}
use Rattle.answer.proofs.AnswersLaws.{need_inv, ok_inv}
use Rattle.chunks.specs.Broken.{Broken}
use Rattle.chunks.proofs.Breaking.{told}
use Rattle.opened.specs.declared.Opened.{Opened}
use Rattle.reader_records.specs.declared.ChunkRecord.{ChunkRecord}
use Rattle.reader_records.specs.Records.{chunk_at}
use Rattle.reader_chunks.specs.Chunks.{start_of, end_of, span, decode_in}
use Rattle.reader_zones.specs.Zones.{contains_by}
use Rattle.reader_lookup.specs.Asking.{lookup_by}
use Rattle.reader_listing.specs.All.{list_by}
use Rattle.reader_chunks.proofs.Ranges.{span_in}
use Rattle.reader_chunks.proofs.Places.{broken_file}
use Rattle.reader_ways.specs.Ways.{Way, plain, striped}
use Rattle.replies.specs.Replies.{Sought, nowhere, in_zone}
use Rattle.tzb.specs.Opening.{opened_is, open_of}
use Rattle.tzb.proofs.Given.{opened_is_law}
use Rattle.tzb_record.specs.Layout.{record_of, opened_in}
use Rattle.tzb_asked.specs.Asked.{contains_asked, decode_asked, lookup_asked, list_asked, contains_asked_by, lookup_asked_by, list_asked_by}
use Rattle.tzb_codes.specs.Codes.{refusal_code, inside_code, zone_code, number_code, place_code, place_of}
use Rattle.tzb_c.specs.Opens.{lookup_once}
use Rattle.exported.specs.Words.{last_number, none, refusing}
use Rattle.exported.specs.Places.{ChunkBroken, PlaceBeside, Demand1Place}
use Rattle.exported.proofs.Tabled.{Numbered, Only, then_e, wider, raised}
use Rattle.exported.proofs.Asked as A
use Rattle.exported.proofs.Asked.{Plain}
use Rattle.exported.proofs.Opening.{open_unplaced}
use Rattle.exported.proofs.Codes.{apart, same_below, same_refusing, code_is}
use Rattle.exported.proofs.Meaning.{lookup_answer, contains_answer, ask_answer, all_answer, decode_answer, contains_striped_answer, ask_striped_answer, all_striped_answer, lookup_place_answer, contains_place_answer, ask_place_answer, all_place_answer, decode_place_answer, contains_striped_place_answer, ask_striped_place_answer, all_striped_place_answer}

-- ---- what every refusal of a question is, where o is the opened record
data Placed (o : Opened) (file : List ℕ) (k : Refusal) : Type 0 where
  -- one of the table, which has no place
  plainly : Numbered last_number k → (k.number ≤ 37) ⊎ (44 ≤ k.number) → k.place ≡ no_place → Placed o file k
  -- one of a chunk that is broken
  chunk : ChunkBroken o file k.number k.place → Placed o file k

by_plain : (o : Opened) (file : List ℕ) (n : ℕ) → Plain n → Placed o file (refusal n)
by_plain o file n h =
    let f = and_l (leb 1 n && leb n 46) (leb n 37 || leb 44 n) h in
    plainly
    (record { least = leb-true 1 n (and_l (leb 1 n) (leb n 46) f); greatest = omega (arith, leb-true n 46 (and_r (leb 1 n) (leb n 46) f)) })
    (side (leb n 37) (leb 44 n) refl refl (and_r (leb 1 n && leb n 46) (leb n 37 || leb 44 n) h))
    refl
  where
    side : (a b : Bool) → leb n 37 ≡ a → leb 44 n ≡ b → a || b ≡ true → (n ≤ 37) ⊎ (44 ≤ n)
    side true b e f g = inl (leb-true n 37 e)
    side false true e f g = inr (leb-true 44 n f)
    side false false e f g = absurd (omega (arith, ap (λ (c : Bool). bit c) g))
      where
        bit : Bool → ℕ
        bit true = 1
        bit false = 0

module _ (file : List ℕ) (few : length file < 0x8000_0000_0000_0000) where
  -- of a record that is the one meant
  by_broken : (base o : Opened) → o ≡ base → (i : ℕ) (v : ChunkRecord) → ok v ≡ chunk_at o file i → (e : ℕ) → ok e ≡ end_of o file i → (b : List ℕ) → ok b ≡ span file (start_of o v) e → (c : ℕ) → (c ≡ v.count) ⊎ (c ≡ 1) → (r : Refusal) → Broken b 0 c r
      → Placed base file (counted_from (start_of o v) r)
  unfolding counted_from
  by_broken base o same i v f e g b h c w r k =
      let s = span_in file (start_of o v) e b h in
      let n : length (take e file) ≡ e = length-take-le e file s.1 in
      let j = broken_file file (omega (arith, few)) (start_of o v) e b h c r k in
      let t = told (take e file) (start_of o v) c (omega (arith, n, s.0)) (counted_from (start_of o v) r) j in
      subst (λ (z : Opened). Placed z file (counted_from (start_of o v) r)) same
      (chunk
      (record {
        chunk = i;
        entry = v;
        found = f;
        end = e;
        ends = g;
        inside = s.1;
        points = c;
        asked = w;
        broken = j;
        least = omega (arith, few, s.0, s.1);
        greatest = omega (arith, n, t.within);
      }))

  -- ---- every question's refusals are so
  module _ (base : Opened) where
    abbrev P : {A : Type 0} → Answer A → Type 0
    P x = Only (Placed base file) x

    opening_p : P (open_of file)
    opening_p = wider (λ k h. plainly (raised 34 last_number (omega arith) k h.numbered) (inl (omega (arith, h.numbered.greatest))) h.nowhere) (open_of file) (open_unplaced file)

    record_p : (held : List ℕ) → P (record_of held)
    record_p held = A.record_q file (Placed base file) (by_plain base file) held

    module _ (o : Opened) (same : o ≡ base) where
      lookup_p : (w : Way) (lng lat : Float) → P (lookup_by w o file lng lat)
      lookup_p = A.lookup_by_q file (Placed base file) (by_plain base file) o (by_broken base o same)

      contains_p : (w : Way) (zone : ℕ) (q : I32Point) → P (contains_by w o file zone q)
      contains_p = A.contains_by_q file (Placed base file) (by_plain base file) o (by_broken base o same)

      list_p : (w : Way) (lng lat : Float) (places : ℕ) → P (list_by w o file lng lat places)
      list_p = A.list_by_q file (Placed base file) (by_plain base file) o (by_broken base o same)

      decode_p : (i : ℕ) (out : List ℤ) → P (decode_in o file i out)
      decode_p = A.decode_q file (Placed base file) (by_plain base file) o (by_broken base o same)

  once_p : (lng lat : Float) → P (opened_is file) (lookup_once file lng lat)
  unfolding lookup_once
  once_p lng lat = then_e _ _ (opening_p (opened_is file)) (λ o e. lookup_p (opened_is file) o (opened_is_law file o e) plain lng lat)

  module _ (held : List ℕ) where
    -- the record that 84 bytes are read as
    read_as : (o : Opened) → ok o ≡ record_of held → o ≡ opened_in held
    unfolding record_of
    read_as o e = ok_inv _ _ (need_inv 44 (same (length held) 84) (ok (opened_in held)) o e).1

    asked : {A : Type 0} (f : Opened → Answer A) → ((o : Opened) → o ≡ opened_in held → P (opened_in held) (f o)) → P (opened_in held) (record_of held then f)
    asked f h = then_e (record_of held) f (record_p (opened_in held) held) (λ o e. h o (read_as o e))

    contains_asked_law : (w : Way) (zone : ℕ) (q : I32Point) → P (opened_in held) (contains_asked_by w held file zone q)
    unfolding contains_asked_by
    contains_asked_law w zone q = asked _ (λ o e. contains_p (opened_in held) o e w zone q)

    ask_asked : (w : Way) (lng lat : Float) → P (opened_in held) (lookup_asked_by w held file lng lat)
    unfolding lookup_asked_by
    ask_asked w lng lat = asked _ (λ o e. lookup_p (opened_in held) o e w lng lat)

    list_asked_law : (w : Way) (lng lat : Float) (places : ℕ) → P (opened_in held) (list_asked_by w held file lng lat places)
    unfolding list_asked_by
    list_asked_law w lng lat places = asked _ (λ o e. list_p (opened_in held) o e w lng lat places)

    decode_asked_law : (i : ℕ) (out : List ℤ) → P (opened_in held) (decode_asked held file i out)
    unfolding decode_asked
    decode_asked_law i out = asked _ (λ o e. decode_p (opened_in held) o e i out)

  -- ---- the two numbers
  -- a refusal
  no_place_law : (k : Refusal) → k.place ≡ no_place → place_code k ≡ none
  unfolding place_code
  no_place_law k e = rw e

  some_place : (k : Refusal) → k.place ≤ length file → place_code k ≡ pos k.place
  unfolding place_code
  some_place k h = rw (lt-ltb k.place 0x8000_0000_0000_0000 (omega (arith, h, few)))

  -- the number of a broken chunk's refusal
  number_of : (o : Opened) (n p : ℕ) → ChunkBroken o file n p → (38 ≤ n) × (n ≤ 43)
  number_of o n p b =
      let l : length (take b.end file) ≡ b.end = length-take-le b.end file b.inside in
      let t = told (take b.end file) (start_of o b.entry) b.points (omega (arith, l, b.least, b.greatest)) (placed_at p (refusal n)) b.broken in
      (t.least, t.greatest)

  -- an answer as a number, where a refusal is told as all are and a value as no refusal is
  module _ (o : Opened) {A : Type 0} (code : Answer A → ℤ) (refusals : (k : Refusal) → code (refused k) ≡ refusal_code k) (values : (a : A) (n : ℕ) → code (ok a) ≡ refusing n → ⊥) where
    beside_no : (k : Refusal) → Placed o file k → PlaceBeside o file (code (refused k)) (place_code k)
    beside_no k (plainly h s e) =
        record {
          there = λ n l g i. absurd (out s n l g (same_refusing k.number n (sym (code_is k h) ∙ sym (refusals k) ∙ i)));
          nowhere = λ i. no_place_law k e;
        }
      where
        out : (k.number ≤ 37) ⊎ (44 ≤ k.number) → (n : ℕ) → 38 ≤ n → n ≤ 43 → k.number ≡ n → ⊥
        out (inl s) n l g i = omega (arith, s, l, i)
        out (inr s) n l g i = omega (arith, s, g, i)
    beside_no k (chunk b) =
        let t = number_of o k.number k.place b in
        let h : Numbered last_number k = record { least = omega (arith, t.0); greatest = omega (arith, t.1) } in
        record {
          there = λ n l g m. (
            k.place,
            some_place k (omega (arith, b.greatest, b.inside)),
            subst (λ (z : ℕ). ChunkBroken o file z k.place) (same_refusing k.number n (sym (code_is k h) ∙ sym (refusals k) ∙ m)) b,
          );
          nowhere = λ i. absurd (i k.number t.0 t.1 (refusals k ∙ code_is k h));
        }

    beside : (x : Answer A) → P o x → PlaceBeside o file (code x) (place_of x)
    beside (ok a) h = record { there = λ n l g e. absurd (values a n e); nowhere = λ i. refl }
    beside (refused k) h = beside_no k h.by

  -- the codes
  zone_value : (a : Sought) (n : ℕ) → zone_code (ok a) ≡ refusing n → ⊥
  zone_value nowhere n e = omega (arith, same_below 0 (999 + n) e)
  zone_value (in_zone z) n e = apart z (999 + n) e

  inside_value : (a : Bool) (n : ℕ) → inside_code (ok a) ≡ refusing n → ⊥
  inside_value true n e = apart 1 (999 + n) e
  inside_value false n e = apart 0 (999 + n) e

  module _ (o : Opened) where
    zone_beside : (x : Answer Sought) → P o x → PlaceBeside o file (zone_code x) (place_of x)
    zone_beside = beside o zone_code (λ k. refl) zone_value

    inside_beside : (x : Answer Bool) → P o x → PlaceBeside o file (inside_code x) (place_of x)
    inside_beside = beside o inside_code (λ k. refl) inside_value

    many_beside : {A : Type 0} (x : Answer (List A)) → P o x → PlaceBeside o file (number_code (how_many x)) (place_of x)
    many_beside {A} = beside o (λ (y : Answer (List A)). number_code (how_many y)) (λ k. refl) (λ l n e. apart (length l) (999 + n) e)

    told_as : {r s place p : ℤ} → r ≡ s → place ≡ p → PlaceBeside o file s p → PlaceBeside o file r place
    told_as {r} {s} {place} {p} e f h = subst (λ (z : ℤ). PlaceBeside o file z place) (sym e) (subst (PlaceBeside o file s) (sym f) h)

  pub demand_1_place : Demand1Place file
  demand_1_place =
      record {
        lookup = λ lng lat r place c d. told_as (opened_is file) (lookup_answer c) (lookup_place_answer d) (zone_beside (opened_is file) (lookup_once file lng lat) (once_p lng lat));
        ask = λ held lng lat r place c d. told_as (opened_in held) (ask_answer c) (ask_place_answer d) (zone_beside (opened_in held) (lookup_asked held file lng lat) (ask_asked held plain lng lat));
        ask_all = λ held lng lat places r after place c d.
            told_as (opened_in held) (all_answer c) (all_place_answer d) (many_beside (opened_in held) (list_asked held file lng lat (length places)) (list_asked_law held plain lng lat (length places)));
        contains = λ held zone x y r place c d.
            told_as (opened_in held) (contains_answer c) (contains_place_answer d) (inside_beside (opened_in held) (contains_asked held file zone (point x y)) (contains_asked_law held plain zone (point x y)));
        decode = λ held i numbers r after place c d. told_as (opened_in held) (decode_answer c) (decode_place_answer d) (many_beside (opened_in held) (decode_asked held file i numbers) (decode_asked_law held i numbers));
        contains_striped = λ held numbers zone x y r place c d.
            told_as (opened_in held) (contains_striped_answer c) (contains_striped_place_answer d)
            (inside_beside (opened_in held) (contains_asked_by (striped numbers) held file zone (point x y)) (contains_asked_law held (striped numbers) zone (point x y)));
        ask_striped = λ held numbers lng lat r place c d.
            told_as (opened_in held) (ask_striped_answer c) (ask_striped_place_answer d) (zone_beside (opened_in held) (lookup_asked_by (striped numbers) held file lng lat) (ask_asked held (striped numbers) lng lat));
        ask_all_striped = λ held numbers lng lat places r after place c d.
            told_as (opened_in held) (all_striped_answer c) (all_striped_place_answer d)
            (many_beside (opened_in held) (list_asked_by (striped numbers) held file lng lat (length places)) (list_asked_law held (striped numbers) lng lat (length places)));
      }
