-- Which rings are drawn, and which way round: one law for each answer. The positions of a ring of a sound file lie in the domain.
-- Assumes nothing.
use Prim.Native.Nat.{ℕ, zero, suc, ◌*◌, ◌≤◌, ◌<◌, ◌^◌}
use native.Mathlib.Omega.{arith}
use mathlib.Core.Path.{◌≡◌, refl, sym, ap, ap₂, ◌∙◌}
use mathlib.Core.Bool.{Bool, true, false, not, ◌&&◌, cond}
use mathlib.Core.List.{List, reverse}
use lib.ListN.{length}
use lib.Dec.{leb}
use lib.IntN.{ℤ, pos, negsuc}
use lib.Signed.{mag, lt_z}
use mir.Syntax.{w64}
use mir.Val.{to_z, of_z, hbits}
use borrow.Author.Tests.{le-leb, lt-leb, leb-true, ne_eqb}
use Rattle.basics.specs.Truth.{and_l, and_r}
use Rattle.basics.specs.Signed.{back}
use Rattle.basics.specs.Whole.{is_zero}
use Rattle.plane.specs.declared.I32Point.{I32Point}
use Rattle.plane.specs.Domain.{in_domain}
use Rattle.plane.specs.Lines.{every}
use Rattle.answer.specs.declared.Refusal.{Refusal}
use Rattle.answer.specs.Answers.{ok, no, refused}
use Rattle.answer.proofs.AnswersLaws.{need_inv, ok_inv}
use Rattle.shapes.specs.Shapes.{Ring}
use Rattle.shapes.specs.Layout.{ring_at}
use Rattle.shapes.specs.Outline.{ring_positions, doubled_area, drawable, backwards, outline}
use Rattle.shapes.proofs.File.{ring_in_law}
use Rattle.shapes.proofs.Outline.{positions_in}
use Rattle.opened.specs.declared.Opened.{Opened}
use Rattle.directories.specs.Directories.{directories}
use Rattle.reader_exact.proofs.Exact.{sound_named, sound_domain}
use Rattle.reader_outline.specs.Held.{points_in}
use Rattle.reader_outline.specs.Told.{Ready, few_enough, Keeps, positions_at, drawn_by}
use Rattle.reader_outline.proofs.Spots.{points_length}
use Rattle.reader_outline.proofs.Filling.{over, kept, stands_there}

-- ---- an area of 0, by its bits
pub zero_is : (z : ℤ) → mag z < 2 ^ hbits w64 → of_z w64 z ≡ 0 → is_zero z ≡ true
zero_is z h e = ap is_zero (sym (back w64 z h) ∙ ap (to_z w64) e)

pub nonzero_is : (z : ℤ) → (of_z w64 z ≡ 0 → ⊥) → is_zero z ≡ false
nonzero_is (pos zero) h = absurd (h refl)
nonzero_is (pos (suc n)) h = ne_eqb (suc n) 0 (λ (u : suc n ≡ 0). omega arith)
nonzero_is (negsuc n) h = ne_eqb (suc n) 0 (λ (u : suc n ≡ 0). omega arith)

-- ---- the first n positions in the numbers m
module _ (m : List ℤ) (n : ℕ) (hole : Bool) (small : n ≤ 10_000) (room : 2 * n ≤ length m) where
  many : length (points_in m n) ≡ n
  many = points_length n m room

  pub drawn_few : n < 4 → no 48 ≡ drawn_by (points_in m n) hole
  unfolding drawn_by drawable
  drawn_few h = rw (many, lt-leb 4 n h)

  module _ (h : 4 ≤ n) (z : ℤ) (e : z ≡ doubled_area (points_in m n)) where
    pub drawn_flat : is_zero z ≡ true → no 48 ≡ drawn_by (points_in m n) hole
    unfolding drawn_by drawable
    drawn_flat g = rw (many, le-leb 4 n h, le-leb n 10_000 small, ← e, g)

    drawn_by_law : is_zero z ≡ false → (b : Bool) → b ≡ cond hole (lt_z (pos 0) z) (lt_z z (pos 0)) → ok (n, b) ≡ drawn_by (points_in m n) hole
    unfolding drawn_by drawable backwards
    drawn_by_law g b f = rw (many, le-leb 4 n h, le-leb n 10_000 small, ← e, g, f)

    -- the area as it is held
    module _ (g : is_zero z ≡ false) (y : ℤ) (q : y ≡ z) where
      pub drawn_hole : hole ≡ true → ok (n, lt_z (pos 0) y) ≡ drawn_by (points_in m n) hole
      drawn_hole t = drawn_by_law g (lt_z (pos 0) y) (ap (lt_z (pos 0)) q ∙ sym (ap (λ (b : Bool). cond b (lt_z (pos 0) z) (lt_z z (pos 0))) t))

      pub drawn_outer : hole ≡ false → ok (n, lt_z y (pos 0)) ≡ drawn_by (points_in m n) hole
      drawn_outer t = drawn_by_law g (lt_z y (pos 0)) (ap (λ (x : ℤ). lt_z x (pos 0)) q ∙ sym (ap (λ (b : Bool). cond b (lt_z (pos 0) z) (lt_z z (pos 0))) t))

-- over 10,000
pub drawn_over : (l : List I32Point) (hole : Bool) (r : Refusal) → refused r ≡ few_enough l → refused r ≡ drawn_by l hole
unfolding drawn_by drawable
drawn_over l hole r e =
    let f = over l r e in
    rw (f.0, le-leb 4 (length l) (omega (arith, f.1)), lt-leb (length l) 10_000 f.1)

-- ---- what an outline that is drawn tells
pub record Told (l : List I32Point) (hole : Bool) (n : ℕ) (back : Bool) : Type 0 where
  pub can : drawable l ≡ true
  pub many : n ≡ length l
  pub turns : back ≡ backwards hole l
  pub least : 4 ≤ n
  pub most : n ≤ 10_000

pub drawn_tells : (l : List I32Point) (hole : Bool) (n : ℕ) (back : Bool) → ok (n, back) ≡ drawn_by l hole → Told l hole n back
unfolding drawn_by drawable
drawn_tells l hole n back e =
    let f = need_inv 48 (drawable l) (ok (length l, backwards hole l)) (n, back) e in
    let g = ok_inv (n, back) (length l, backwards hole l) f.1 in
    let c = and_l (leb 4 (length l) && leb (length l) 10_000) (not (is_zero (doubled_area l))) f.0 in
    let m : n ≡ length l = ap (λ (p : ℕ × Bool). p.0) g in
    record {
      can = f.0;
      many = m;
      turns = ap (λ (p : ℕ × Bool). p.1) g;
      least = omega (arith, m, leb-true 4 (length l) (and_l (leb 4 (length l)) (leb (length l) 10_000) c));
      most = omega (arith, m, leb-true (length l) 10_000 (and_r (leb 4 (length l)) (leb (length l) 10_000) c));
    }

-- the positions that the numbers hold, backwards where that is told, are the ring's outline
pub outline_held : (r : Ring) (m : List ℤ) (hole : Bool) (n : ℕ) (back : Bool) → ok (n, back) ≡ drawn_by (ring_positions r) hole → Keeps m (ring_positions r) → cond back (reverse (points_in m n)) (points_in m n) ≡ outline hole r
unfolding outline
outline_held r m hole n back e k =
    let t = drawn_tells (ring_positions r) hole n back e in
    let p : points_in m n ≡ ring_positions r = ap (points_in m) t.many ∙ kept (ring_positions r) m k (omega (arith, t.many, t.most)) in
    ap₂ (λ (b : Bool) (l : List I32Point). cond b (reverse l) l) t.turns p

-- ---- a ring of the file
module _ (o : Opened) (s : List ℕ) (k : Ready o s) (i : ℕ) (h : i < o.rings.count) where
  ring_domain : every in_domain (positions_at o s i) ≡ true
  unfolding directories
  ring_domain =
      let d = directories o s in
      positions_in (ring_at d i) (ring_in_law d (sound_named o s k.sound) k.covered (sound_domain o s k.sound) i h)

  module _ (m : List ℤ) (n : ℕ) (e : ok n ≡ few_enough (positions_at o s i)) (g : Keeps m (positions_at o s i)) where
    stand : points_in m n ≡ positions_at o s i
    stand = (stands_there m (positions_at o s i) n e g).0

    pub held_few : n ≤ 10_000
    held_few = (stands_there m (positions_at o s i) n e g).1

    pub held_domain : every in_domain (points_in m n) ≡ true
    held_domain = ap (every in_domain) stand ∙ ring_domain

    pub held_drawn : (hole : Bool) → drawn_by (points_in m n) hole ≡ drawn_by (positions_at o s i) hole
    held_drawn hole = ap (λ (l : List I32Point). drawn_by l hole) stand
