-- Laws of specs/Records, as proofs cite them. Nothing here need be believed.
-- Assumes nothing.
use Prim.Native.Nat.{ℕ, ◌+◌, ◌≤◌, ◌<◌}
use native.Mathlib.Omega.{arith}
use mathlib.Core.Path.{◌≡◌, refl, ap, ◌∙◌}
use mathlib.Core.Bool.{Bool, true, false, ◌&&◌}
use mathlib.Core.List.{List}
use lib.ListN.{length}
use lib.Dec.{ltb, leb}
use borrow.Author.Tests.{le-leb, lt-ltb, leb-true, ltb-true}
use Rattle.basics.specs.Truth.{and_l, and_r}
use Rattle.plane.specs.Domain.{in_domain}
use Rattle.answer.specs.declared.Refusal.{Refusal}
use Rattle.answer.specs.Answers.{Answer, ok, refused, need}
use Rattle.answer.specs.Checks.{claim}
use Rattle.answer.proofs.AnswersLaws.{zero_one, then_ok, then_inv, need_met, need_inv, ok_inv}
use Rattle.fields.specs.Loads.{inside}
use Rattle.boxes.specs.Box.{box_in_domain}
use Rattle.opened.specs.declared.Directory.{Directory}
use Rattle.opened.specs.declared.Opened.{Opened}
use Rattle.opened.specs.Widths.{group_wide}
use Rattle.reader_records.specs.declared.GroupRecord.{GroupRecord}
use Rattle.reader_records.specs.Records.{place, record_at, ruled, group_in, group_rule, group_place, group_at, fits_below}

-- what a claim that was made tells of what needs it
module _ {A : Type 0} (n : ℕ) (x : Answer A) where
  pub need_no : (b : Bool) (r : Refusal) → refused r ≡ claim n b → refused r ≡ need n b x
  unfolding claim
  need_no true r e = let z : ◌≡◌ {A = ℕ} 0 1 = cc in absurd (zero_one z)
  need_no false r e = cc

  pub need_ok : (b : Bool) (u : Unit {0}) → ok u ≡ claim n b → (y : Answer A) → y ≡ x → y ≡ need n b x
  unfolding claim
  need_ok true u e y h = h
  need_ok false u e y h = let z : ◌≡◌ {A = ℕ} 0 1 = cc in absurd (zero_one z)

claim_met : (n : ℕ) (b : Bool) (u : Unit {0}) → ok u ≡ claim n b → b ≡ true
unfolding claim
claim_met n true u e = refl
claim_met n false u e = let z : ◌≡◌ {A = ℕ} 0 1 = cc in absurd (zero_one z)

module _ (s : List ℕ) (d : Directory) (w i : ℕ) where
  pub record_out : (r : Refusal) → refused r ≡ claim 34 (ltb i d.count) → refused r ≡ record_at s d w i
  unfolding record_at
  record_out r e = need_no 34 _ (ltb i d.count) r e

  module _ (u : Unit {0}) (e : ok u ≡ claim 34 (ltb i d.count)) where
    pub record_short : (r : Refusal) → refused r ≡ claim 44 (leb (place d w i + w) (length s)) → refused r ≡ record_at s d w i
    unfolding record_at inside
    record_short r f = need_ok 34 _ (ltb i d.count) u e _ (need_no 44 _ (leb (place d w i + w) (length s)) r f)

    pub record_is : (v : Unit {0}) → ok v ≡ claim 44 (leb (place d w i + w) (length s)) → ok (place d w i) ≡ record_at s d w i
    unfolding record_at inside
    record_is v f = need_ok 34 _ (ltb i d.count) u e _ (need_ok 44 _ (leb (place d w i + w) (length s)) v f (ok (place d w i)) refl)

    -- its index is as small as a count
    pub record_index : i < d.count
    record_index = ltb-true i d.count (claim_met 34 (ltb i d.count) u e)

  pub record_at_law : i < d.count → place d w i + w ≤ length s → ok (place d w i) ≡ record_at s d w i
  unfolding record_at inside
  record_at_law h k = rw (lt-ltb i d.count h, le-leb (place d w i + w) (length s) k)

  -- a record that is there has all its bytes
  pub record_room : (p : ℕ) → ok p ≡ record_at s d w i → p + w ≤ length s
  unfolding record_at inside
  record_room p e = go (ltb i d.count) (leb (place d w i + w) (length s)) refl e
    where
      go : (a b : Bool) → leb (place d w i + w) (length s) ≡ b → ok p ≡ need 34 a (need 44 b (ok (place d w i))) → p + w ≤ length s
      go true true h e = let z : p ≡ place d w i = cc in omega (arith, leb-true (place d w i + w) (length s) h)
      go true false h e = let z : ◌≡◌ {A = ℕ} 0 1 = cc in omega arith
      go false b h e = let z : ◌≡◌ {A = ℕ} 0 1 = cc in omega arith

-- the same for each directory: its rule is broken, its rule is kept
module _ {A : Type 0} (at : Answer ℕ) (read : ℕ → A) (rule : A → Bool) (n : ℕ) where
  module _ (p : ℕ) (v : A) (b : Bool) (e : ok p ≡ at) (g : v ≡ read p) (h : b ≡ rule v) where
    kept_as : b ≡ rule (read p)
    kept_as = h ∙ ap rule g

    pub ruled_bad : (r : Refusal) → refused r ≡ claim n b → refused r ≡ ruled at read rule n
    unfolding ruled
    ruled_bad r f = need_no n (ok (read p)) (rule (read p)) r (f ∙ ap (claim n) kept_as) ∙ then_ok at (λ q. need n (rule (read q)) (ok (read q))) p e

    pub ruled_ok : (u : Unit {0}) → ok u ≡ claim n b → ok v ≡ ruled at read rule n
    unfolding ruled
    ruled_ok u f = need_ok n (ok (read p)) (rule (read p)) u (f ∙ ap (claim n) kept_as) (ok v) (ap ok g) ∙ then_ok at (λ q. need n (rule (read q)) (ok (read q))) p e

-- a record that is answered keeps its rule
pub ruled_kept : {A : Type 0} (at : Answer ℕ) (read : ℕ → A) (rule : A → Bool) (n : ℕ) (a : A) → ok a ≡ ruled at read rule n → rule a ≡ true
unfolding ruled
ruled_kept at read rule n a e =
    let h = then_inv at (λ p. need n (rule (read p)) (ok (read p))) a e in
    let g = need_inv n (rule (read h.0)) (ok (read h.0)) a h.2 in
    ap rule (ok_inv a (read h.0) g.1) ∙ g.0

-- and its index lies in the directory
pub ruled_inside : {A : Type 0} (s : List ℕ) (d : Directory) (w i : ℕ) (read : ℕ → A) (rule : A → Bool) (n : ℕ) (a : A) → ok a ≡ ruled (record_at s d w i) read rule n → i < d.count
unfolding ruled record_at
ruled_inside s d w i read rule n a e =
    let h = then_inv (record_at s d w i) (λ p. need n (rule (read p)) (ok (read p))) a e in
    let g = need_inv 34 (ltb i d.count) (need 44 (inside w s (place d w i)) (ok (place d w i))) h.0 h.1 in
    ltb-true i d.count g.0

-- a record that is there and keeps its rule is answered
pub ruled_there : {A : Type 0} (s : List ℕ) (d : Directory) (w i n : ℕ) (read : ℕ → A) (rule : A → Bool)
    → i < d.count → place d w i + w ≤ length s → rule (read (place d w i)) ≡ true → ok (read (place d w i)) ≡ ruled (record_at s d w i) read rule n
unfolding ruled
ruled_there s d w i n read rule h k e = need_met n (rule (read (place d w i))) (ok (read (place d w i))) e ∙ then_ok (record_at s d w i) (λ q. need n (rule (read q)) (ok (read q))) (place d w i) (record_at_law s d w i h k)

-- the place alone of what keeps its rule
module _ {A : Type 0} (read : ℕ → A) (rule : A → Bool) (n : ℕ) where
  tested : (k : Refusal) (p : ℕ) (b : Bool) → refused k ≡ need n b (ok p) → refused k ≡ need n b (ok (read p))
  tested k p true e = cc
  tested k p false e = cc

  pub placed_no : (at : Answer ℕ) (k : Refusal) → refused k ≡ ruled at (λ p. p) (λ p. rule (read p)) n → refused k ≡ ruled at read rule n
  unfolding ruled
  placed_no (refused j) k e = cc
  placed_no (ok p) k e = tested k p (rule (read p)) e

  kept : (p q : ℕ) (b : Bool) → ok p ≡ need n b (ok q) → ◌≡◌ {A = Answer ℕ} (ok p) (ok q) × (ok (read p) ≡ need n b (ok (read q)))
  kept p q true e = let z : p ≡ q = cc in (e, ap (λ (j : ℕ). ok (read j)) z)
  kept p q false e = (cc, cc)

  pub placed_is : (at : Answer ℕ) (p : ℕ) → ok p ≡ ruled at (λ q. q) (λ q. rule (read q)) n → (ok p ≡ at) × (ok (read p) ≡ ruled at read rule n)
  unfolding ruled
  placed_is (refused j) p e = (e, cc)
  placed_is (ok q) p e = kept p q (rule (read q)) e

module _ (o : Opened) (s : List ℕ) (i : ℕ) where
  pub place_none : (k : Refusal) → refused k ≡ group_place o s i → refused k ≡ group_at o s i
  unfolding group_place group_at
  place_none k e = placed_no (group_in s) (group_rule o.chunks.count) 34 (record_at s o.groups group_wide i) k e

  module _ (p : ℕ) (e : ok p ≡ group_place o s i) where
    pub place_group : ok (group_in s p) ≡ group_at o s i
    unfolding group_place group_at
    place_group = (placed_is (group_in s) (group_rule o.chunks.count) 34 (record_at s o.groups group_wide i) p e).1

    -- all its bytes are there
    pub place_room : p + group_wide ≤ length s
    unfolding group_place
    place_room = record_room s o.groups group_wide i p (placed_is (group_in s) (group_rule o.chunks.count) 34 (record_at s o.groups group_wide i) p e).0

-- what the rules tell
module _ (first count below : ℕ) (h : fits_below first count below ≡ true) where
  pub within_some : 0 < count
  unfolding fits_below
  within_some = ltb-true 0 count (and_l (ltb 0 count) (leb (first + count) below) h)

  pub within_fits : first + count ≤ below
  unfolding fits_below
  within_fits = leb-true (first + count) below (and_r (ltb 0 count) (leb (first + count) below) h)

module _ (below : ℕ) (v : GroupRecord) (h : group_rule below v ≡ true) where
  pub group_within : fits_below v.first v.count below ≡ true
  unfolding group_rule
  group_within = and_r (box_in_domain v.bbox) (fits_below v.first v.count below) (and_l (box_in_domain v.bbox && fits_below v.first v.count below) (in_domain v.entry && in_domain v.exit) h)

  pub group_box : box_in_domain v.bbox ≡ true
  unfolding group_rule
  group_box = and_l (box_in_domain v.bbox) (fits_below v.first v.count below) (and_l (box_in_domain v.bbox && fits_below v.first v.count below) (in_domain v.entry && in_domain v.exit) h)

  pub group_ends : (in_domain v.entry && in_domain v.exit) ≡ true
  unfolding group_rule
  group_ends = and_r (box_in_domain v.bbox && fits_below v.first v.count below) (in_domain v.entry && in_domain v.exit) h
