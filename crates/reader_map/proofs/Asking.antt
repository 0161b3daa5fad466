-- What is asked, by the cases of its answer.
-- Assumes nothing.
use Prim.Native.Nat.{ℕ, ◌+◌, ◌≤◌, ◌<◌}
use native.Mathlib.Omega.{arith}
use mathlib.Core.Path.{◌≡◌, refl, sym, ap, ◌∙◌}
use mathlib.Core.Bool.{Bool, true, false}
use mathlib.Core.List.{List}
use lib.ListN.{length}
use lib.Dec.{leb, ltb}
use borrow.Author.Tests.{leb-true, ltb-true, lt-ltb, le-leb}
use Rattle.answer.specs.declared.Refusal.{Refusal}
use Rattle.answer.specs.Answers.{Answer, ok, refused, need, fine, how_many, left}
use Rattle.answer.specs.Refusals.{refusal}
use Rattle.answer.specs.Checks.{claim}
use Rattle.answer.proofs.CheckLaws.{fine_claim}
use Rattle.answer.proofs.AnswersLaws.{need_met, need_inv, ok_inv, zero_one}
use Rattle.shapes.specs.Layout.{zone_at}
use Rattle.shapes.specs.Outline.{outlines, zone_drawable}
use Rattle.geojson.specs.Text.{map_text}
use Rattle.answer.specs.Over.{over}
use Rattle.answer.proofs.OverLaws.{over_all}
use Rattle.opened.specs.declared.Opened.{Opened}
use Rattle.directories.specs.Directories.{directories}
use Rattle.reader_map.specs.Map.{zone_text, in_room}
use Rattle.reader_map.specs.Steps.{DrawnAs}

-- ---- a count, and the list that was counted
many_of : (x : Answer (List ℕ)) (n : ℕ) → ok n ≡ how_many x → (t : List ℕ) × (ok t ≡ x) × (n ≡ length t)
many_of (ok t) n e = (t, refl, ok_inv n (length t) e)
many_of (refused k) n e = let z : ◌≡◌ {A = ℕ} 0 1 = cc in absurd (zero_one z)

no_many : (x : Answer (List ℕ)) (k : Refusal) → refused k ≡ how_many x → refused k ≡ x
no_many (ok t) k e = let z : ◌≡◌ {A = ℕ} 0 1 = cc in absurd (zero_one z)
no_many (refused r) k e = let z : k ≡ r = cc in ap refused z

counted : (b : Bool) (t : List ℕ) → need 48 b (ok (0 + length t)) ≡ how_many (need 48 b (ok t))
counted true t = let e : 0 + length t ≡ length t = omega arith in ap ok e
counted false t = refl

-- a claim that is refused
claim_no : (n : ℕ) (b : Bool) (k : Refusal) → refused k ≡ claim n b → (b ≡ false) × (k ≡ refusal n)
unfolding claim
claim_no n true k e = let z : ◌≡◌ {A = ℕ} 0 1 = cc in absurd (zero_one z)
claim_no n false k e = let z : k ≡ refusal n = cc in (refl, z)

-- ---- room
module _ (x : Answer (List ℕ)) (room : ℕ) where
  pub room_no : (k : Refusal) → refused k ≡ how_many x → refused k ≡ in_room room x
  unfolding in_room
  room_no k e = rw (← no_many x k e)

  module _ (n : ℕ) (e : ok n ≡ how_many x) where
    pub room_short : (k : Refusal) → refused k ≡ claim 46 (leb n room) → refused k ≡ in_room room x
    unfolding in_room
    room_short k h =
        let m = many_of x n e in
        let q = claim_no 46 (leb n room) k h in
        let l : leb (length m.0) room ≡ false = sym (ap (λ (j : ℕ). leb j room) m.2) ∙ q.0 in
        rw (← m.1, l) (ap refused q.1)

    room_fits : n ≤ room → ok (many_of x n e).0 ≡ in_room room x
    unfolding in_room
    room_fits h =
        let m = many_of x n e in
        let l : leb (length m.0) room ≡ true = le-leb (length m.0) room (omega (arith, m.2)) in
        rw (l) at (ap (λ (y : Answer (List ℕ)). in_room room y) m.1)

-- ---- a zone's text
module _ (o : Opened) (s : List ℕ) (zone : ℕ) where
  pub size_over : (k : Refusal) → refused k ≡ claim 45 (ltb zone o.zones.count) → refused k ≡ how_many (zone_text o s zone)
  unfolding zone_text
  size_over k e =
      let q = claim_no 45 (ltb zone o.zones.count) k e in
      rw q.0 (ap refused q.1)

  pub size_in : fine ≡ claim 45 (ltb zone o.zones.count) → zone < o.zones.count
  size_in e = ltb-true zone o.zones.count (fine_claim 45 (ltb zone o.zones.count) (sym e))

  -- what is drawn is counted
  pub size_is : zone < o.zones.count → (most : ℕ) (r : Answer ℕ) (before after : List ℕ)
      → DrawnAs (zone_drawable (zone_at (directories o s) zone)) (map_text (outlines (zone_at (directories o s) zone))) most 0 r before after → r ≡ how_many (zone_text o s zone)
  unfolding zone_text
  size_is h most r before after d =
      d.told
      ∙ counted (zone_drawable (zone_at (directories o s) zone)) (map_text (outlines (zone_at (directories o s) zone)))
      ∙ ap (λ (b : Bool). how_many (need 45 b (need 48 (zone_drawable (zone_at (directories o s) zone)) (ok (map_text (outlines (zone_at (directories o s) zone))))))) (sym (lt-ltb zone o.zones.count h))

  -- a text that is given
  module _ (t : List ℕ) (e : ok t ≡ zone_text o s zone) where
    given : (ltb zone o.zones.count ≡ true) × (ok t ≡ need 48 (zone_drawable (zone_at (directories o s) zone)) (ok (map_text (outlines (zone_at (directories o s) zone)))))
    unfolding zone_text
    given = need_inv 45 (ltb zone o.zones.count) (need 48 (zone_drawable (zone_at (directories o s) zone)) (ok (map_text (outlines (zone_at (directories o s) zone))))) t e

    fitting : (zone_drawable (zone_at (directories o s) zone) ≡ true) × (◌≡◌ {A = Answer (List ℕ)} (ok t) (ok (map_text (outlines (zone_at (directories o s) zone)))))
    fitting = need_inv 48 (zone_drawable (zone_at (directories o s) zone)) (ok (map_text (outlines (zone_at (directories o s) zone)))) t given.1

    pub text_zone : zone < o.zones.count
    text_zone = ltb-true zone o.zones.count given.0

    pub text_fits : zone_drawable (zone_at (directories o s) zone) ≡ true
    text_fits = fitting.0

    pub text_is : t ≡ map_text (outlines (zone_at (directories o s) zone))
    text_is = ok_inv t (map_text (outlines (zone_at (directories o s) zone))) fitting.1

  -- a text that was measured
  module _ (n : ℕ) (e : ok n ≡ how_many (zone_text o s zone)) where
    pub size_zone : zone < o.zones.count
    size_zone = let m = many_of (zone_text o s zone) n e in text_zone m.0 m.1

    pub into_done : (out : List ℕ) → fine ≡ claim 46 (leb n (length out)) → (most : ℕ) (r : Answer ℕ) (after : List ℕ)
        → DrawnAs (zone_drawable (zone_at (directories o s) zone)) (map_text (outlines (zone_at (directories o s) zone))) most 0 r out after
        → (r ≡ how_many (in_room (length out) (zone_text o s zone))) × (after ≡ left out (in_room (length out) (zone_text o s zone)))
    into_done out h most r after d =
        let m = many_of (zone_text o s zone) n e in
        let l : n ≤ length out = leb-true n (length out) (fine_claim 46 (leb n (length out)) (sym h)) in
        let fits = room_fits (zone_text o s zone) (length out) n e l in
        let text : map_text (outlines (zone_at (directories o s) zone)) ≡ m.0 = sym (text_is m.0 m.1) in
        let can : zone_drawable (zone_at (directories o s) zone) ≡ true = text_fits m.0 m.1 in
        let long : 0 + length (map_text (outlines (zone_at (directories o s) zone))) ≡ length m.0 = omega (arith, ap length text) in (
          d.told ∙ sym (need_met 48 (zone_drawable (zone_at (directories o s) zone)) (ok (0 + length (map_text (outlines (zone_at (directories o s) zone))))) can) ∙ ap ok long ∙ ap how_many fits,
          d.laid can ∙ ap (over out 0) text ∙ over_all out m.0 (omega (arith, m.2)) ∙ ap (left out) fits,
        )
