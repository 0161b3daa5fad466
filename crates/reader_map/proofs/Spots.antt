-- Positions in lent numbers, one way round or the other, and a ring's text of them.
-- Assumes nothing.
use Prim.Native.Nat.{ℕ, zero, suc, ◌+◌, ◌-◌, ◌*◌, ◌≤◌, ◌<◌}
use native.Mathlib.Omega.{arith}
use mathlib.Core.Path.{◌≡◌, refl, sym, ap, ap₂, ◌∙◌}
use mathlib.Core.Bool.{Bool, true, false}
use mathlib.Core.List.{List, [], ◌∷◌, reverse, reverse-cons}
use lib.ListN.{length, get_or, length-reverse, get_or-append}
use lib.Seq.{get_or_at, get_or-take}
use lib.IntN.{ℤ, pos}
use Rattle.plane.specs.declared.I32Point.{I32Point}
use Rattle.plane.specs.Places.{point}
use Rattle.plane.specs.Lines.{origin}
use Rattle.geojson.specs.Text.{position_text, ring_text}
use Rattle.reader_outline.specs.Held.{spots, points_in}
use Rattle.reader_outline.proofs.Spots.{spot_is, points_length}
use Rattle.reader_map.specs.Steps.{to_come, way, spot_of, spot_text}
use Rattle.answer.specs.Over.{over}
use Rattle.answer.proofs.OverLaws.{Written, wrote}
use Rattle.reader_map.proofs.Rows.{listed_row, run_list}
use Rattle.reader_map.proofs.Onward.{Row, row_start, row_step, row_done, row_most}

-- ---- turned round
turned_at_law : {A : Type 0} (l : List A) (d : A) (i j : ℕ) → i + j + 1 ≡ length l → get_or (reverse l) i d ≡ get_or l j d
turned_at_law [] d i j e = absurd (omega arith)
turned_at_law (x ∷ l) d i zero e =
    let n : length (reverse l) ≡ i = length-reverse l ∙ omega arith in
    ap (λ (t : List _). get_or t i d) (reverse-cons x l) ∙ get_or_at (reverse l) x [] d i n
turned_at_law (x ∷ l) d i (suc j) e =
    let n : i < length (reverse l) = omega (arith, length-reverse l) in
    ap (λ (t : List _). get_or t i d) (reverse-cons x l) ∙ get_or-append (reverse l) (x ∷ []) d i n ∙ turned_at_law l d i j (omega arith)

way_at : (back : Bool) (l : List I32Point) (k i : ℕ) → length l ≡ k → i < k → get_or l (spot_of back k i) origin ≡ get_or (way back l) i origin
unfolding way
way_at true l k i e h = sym (turned_at_law l origin i (k - 1 - i) (omega arith))
way_at false l k i e h = refl

pub way_length : (back : Bool) (l : List I32Point) → length (way back l) ≡ length l
unfolding way
way_length true l = length-reverse l
way_length false l = refl

spot_low : (back : Bool) (k i : ℕ) → i < k → spot_of back k i < k
spot_low true k i h = omega arith
spot_low false k i h = h

module _ (held : List ℤ) (k : ℕ) (back : Bool) (room : 2 * k ≤ length held) where
  module _ (i : ℕ) (h : i < k) where
    -- the position that is next
    spot_next : (x : ℕ) → x ≡ 2 * spot_of back k i → position_text (point (get_or held x (pos 0)) (get_or held (x + 1) (pos 0))) ≡ spot_text (way back (points_in held k)) i
    unfolding spot_text points_in
    spot_next x e =
        let low = spot_low back k i h in
        let j = spot_of back k i in
        ap position_text
        (ap (λ (u : ℕ). point (get_or held u (pos 0)) (get_or held (u + 1) (pos 0))) e
        ∙ spot_is j held (omega arith)
        ∙ sym (get_or-take k (spots held) j origin low)
        ∙ way_at back (points_in held k) k i (points_length k held room) h)

  -- all of them
  pub ring_row_law : 0 < k → to_come (spot_text (way back (points_in held k))) 91 k 0 ≡ ring_text (way back (points_in held k))
  unfolding spot_text
  ring_row_law h =
      let l = way back (points_in held k) in
      sym (listed_row position_text (λ (j : ℕ). get_or l j origin) (spot_text l) k 0 h (λ j. refl))
      ∙ ap ring_text (run_list l origin k (sym (way_length back (points_in held k) ∙ points_length k held room)))

-- ---- the loop: k - i positions are left
abbrev pub RingRow : List ℤ → ℕ → Bool → ℕ → List ℕ → ℕ → ℕ → ℕ → List ℕ → Type 0
RingRow held k back from before m i at out = Row (λ (i : ℕ). true) (λ (i : ℕ). i) (spot_text (way back (points_in held k))) 28 k 0 from before m (k - i) i at out

pub ring_start : (held : List ℤ) (k : ℕ) (back : Bool) (from : ℕ) (before : List ℕ) → RingRow held k back from before 91 0 from before
ring_start held k back from before = let e : k - 0 ≡ k = omega arith in rw e row_start

module _ (held : List ℤ) (k : ℕ) (back : Bool) (room : 2 * k ≤ length held) (from : ℕ) (before : List ℕ) (m i at : ℕ) (out : List ℕ) (row : RingRow held k back from before m i at out) where
  pub ring_step : i < k → (x : ℕ) → x ≡ 2 * spot_of back k i → (u v : ℤ) → u ≡ get_or held x (pos 0) → v ≡ get_or held (x + 1) (pos 0)
      → (p : ℕ) (mid : List ℕ) → p ≡ at + 1 → mid ≡ over out at (m ∷ [])
      → (q : ℕ) (after : List ℕ) → q ≡ p + length (position_text (point u v)) → q ≤ p + 27 → after ≡ over mid p (position_text (point u v))
      → RingRow held k back from before 44 (i + 1) q after
  ring_step h x x_is u v u_is v_is p mid a b q after c d e =
      let t : position_text (point u v) ≡ spot_text (way back (points_in held k)) i = ap position_text (ap₂ point u_is v_is) ∙ spot_next held k back room i h x x_is in
      let n : k - i - 1 ≡ k - (i + 1) = omega arith in
      rw n at
      (row_step row (omega arith) refl (wrote a b) (wrote (c ∙ ap (λ (s : List ℕ). p + length s) t) (e ∙ ap (over mid p) t)) (omega (arith, c, ap length t)))

  module _ (h : k ≤ i) (some : 0 < k) (q : ℕ) (after : List ℕ) (f : q ≡ at + 1) (e : after ≡ over out at (93 ∷ [])) where
    pub ring_done : Written before from (ring_text (way back (points_in held k))) q after
    ring_done = rw (ring_row_law held k back room some) at (row_done row (omega arith) f e)

    pub ring_most : k ≤ 10_000 → q ≤ from + 280_001
    ring_most l = omega (arith, row_most row (omega arith) f e)
