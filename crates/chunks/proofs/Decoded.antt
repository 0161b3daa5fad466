-- Points read, checked and written: one point more, and the whole. What is written is what the definition says.
-- Assumes nothing.
use Prim.Native.Nat.{ℕ, zero, suc, ◌+◌, ◌-◌, ◌*◌, ◌≤◌}
use native.Mathlib.Omega.{arith}
use mathlib.Core.Path.{◌≡◌, refl, sym, ap, ◌∙◌}
use mathlib.Core.List.{List, [], ◌∷◌, ◌++◌, append_assoc}
use lib.ListN.{length, length-append, set, take, drop}
use lib.Seq.{set_at, take-append_seam}
use lib.IntN.{ℤ}
use Rattle.answer.specs.declared.Refusal.{Refusal}
use Rattle.answer.specs.Answers.{Answer, ok, refused, ◌then◌, fine, outcome}
use Rattle.plane.specs.declared.I32Point.{I32Point}
use Rattle.varints.specs.Varint.{at_end}
use Rattle.chunks.specs.Points.{next_at}
use Rattle.chunks.specs.Decode.{led, flat, filled}
use Rattle.answer.proofs.AnswersLaws.{then_inv, need_inv, ok_inv, outcome_fine, outcome_no}
use Rattle.answer.proofs.RefusalsLaws.{about_inv}
use Rattle.chunks.proofs.DecodeLaws.{points_last, points_next}
use Rattle.chunks.specs.Steps.{points_from, read_from, put}

-- what leads changes no outcome
pub led_same : (q : I32Point) (x : Answer (List I32Point)) → outcome x ≡ outcome (led q x)
led_same q (ok l) = refl
led_same q (refused r) = refl

pub led_fine : (q : I32Point) (x : Answer (List I32Point)) → fine ≡ outcome x → fine ≡ outcome (led q x)
led_fine q x e = e ∙ led_same q x

pub led_no : (q : I32Point) (x : Answer (List I32Point)) (r : Refusal) → refused r ≡ outcome x → refused r ≡ led q x
led_no q x r e = ap (led q) (outcome_no x r e)

-- ---- what was read
-- where all points can be read, they are read
pub read_all : (s : List ℕ) (n : ℕ) (q : I32Point) (k : ℕ) (l : List I32Point) → ok l ≡ points_from s n q k → (read_from s n q k ≡ l) × (length l ≡ n)
unfolding read_from
read_all s zero q k l e =
    let z : l ≡ [] = ok_inv _ _ (need_inv 43 (at_end s k) (ok []) l (about_inv k _ l (e ∙ points_last s q k))).1 in
    (sym z, ap length z)
read_all s (suc n) q k l e =
    let h = then_inv (next_at s q k) (λ t. led t.0 (points_from s n t.0 t.1)) l (e ∙ points_next s q k n) in
    let g = then_inv (points_from s n h.0.0 h.0.1) (λ m. ok (h.0.0 ∷ m)) l h.2 in
    let z : l ≡ h.0.0 ∷ g.0 = ok_inv _ _ g.2 in
    let i = read_all s n h.0.0 h.0.1 g.0 g.1 in
    (step h.0 h.1 g.0 i.0 ∙ sym z, ap length z ∙ ap suc i.1)
  where
    step : (t : I32Point × ℕ) → ok t ≡ next_at s q k → (m : List I32Point) → read_from s n t.0 t.1 ≡ m → read_from s (suc n) q k ≡ t.0 ∷ m
    step t e m i = rw (← e) (ap (λ (r : List I32Point). t.0 ∷ r) i)

-- ---- what was written
flat_length : (l : List I32Point) → length (flat l) ≡ 2 * length l
flat_length [] = refl
flat_length (q ∷ l) = let h = flat_length l in omega arith

-- points written behind what stands in front
put_behind : (front rest : List ℤ) (i : ℕ) (l : List I32Point) → length front ≡ i → length (flat l) ≤ length rest → put (front ++ rest) i l ≡ front ++ (flat l ++ drop (length (flat l)) rest)
unfolding put
put_behind front rest i [] e h = refl
put_behind front [] i (q ∷ l) e h = absurd (omega arith)
put_behind front (a ∷ []) i (q ∷ l) e h = absurd (omega arith)
put_behind front (a ∷ b ∷ rest) i (q ∷ l) e h =
    ap (λ (o : List ℤ). put o (i + 2) l) (two ∙ sym (join (q.x ∷ q.y ∷ []) rest))
    ∙ put_behind (front ++ (q.x ∷ q.y ∷ [])) rest (i + 2) l (length-append front (q.x ∷ q.y ∷ []) ∙ ap (λ (j : ℕ). j + 2) e) (omega arith)
    ∙ join (q.x ∷ q.y ∷ []) (flat l ++ drop (length (flat l)) rest)
  where
    join : (m r : List ℤ) → front ++ m ++ r ≡ front ++ (m ++ r)
    join m r = append_assoc front m r

    two : set (set (front ++ (a ∷ b ∷ rest)) i q.x) (i + 1) q.y ≡ front ++ (q.x ∷ q.y ∷ rest)
    two =
        ap (λ (o : List ℤ). set o (i + 1) q.y) (set_at front a (b ∷ rest) q.x i e ∙ sym (append_assoc front (q.x ∷ []) (b ∷ rest)))
        ∙ set_at (front ++ (q.x ∷ [])) b rest q.y (i + 1) (length-append front (q.x ∷ []) ∙ ap (λ (j : ℕ). j + 1) e)
        ∙ append_assoc front (q.x ∷ []) (q.y ∷ rest)

-- where all can be read, the numbers of all are written
module _ (s : List ℕ) (n : ℕ) (q : I32Point) (k : ℕ) (e : fine ≡ outcome (points_from s n q k)) where
  all : (l : List I32Point) × (ok l ≡ points_from s n q k) × (length (flat (q ∷ l)) ≡ 2 + 2 * n) × (read_from s n q k ≡ l)
  all =
      let f = outcome_fine (points_from s n q k) e in
      let g = read_all s n q k f.0 f.1 in
      (f.0, f.1, omega (arith, flat_length (q ∷ f.0), g.1), g.0)

  written : (out : List ℤ) → 2 + 2 * n ≤ length out → put out 0 (q ∷ read_from s n q k) ≡ flat (q ∷ all.0) ++ drop (2 + 2 * n) out
  written out room =
      ap (λ (l : List I32Point). put out 0 (q ∷ l)) all.3
      ∙ put_behind [] out 0 (q ∷ all.0) refl (omega (arith, all.2))
      ∙ ap (λ (j : ℕ). flat (q ∷ all.0) ++ drop j out) all.2

  is_filled : (out : List ℤ) → flat (q ∷ all.0) ++ drop (2 + 2 * n) out ≡ filled out (led q (points_from s n q k))
  is_filled out =
      ap (λ (j : ℕ). flat (q ∷ all.0) ++ drop j out) (sym all.2)
      ∙ ap (λ (x : Answer (List I32Point)). filled out (led q x)) all.1

  -- into lent memory at once
  pub wrote : (out : List ℤ) → 2 + 2 * n ≤ length out → put out 0 (q ∷ read_from s n q k) ≡ filled out (led q (points_from s n q k))
  wrote out room = written out room ∙ is_filled out

  -- into memory that holds them, and copied from there
  pub copied : (held out : List ℤ) → 2 + 2 * n ≤ length held
      → take (2 + 2 * n) (put held 0 (q ∷ read_from s n q k)) ++ drop (2 + 2 * n) out ≡ filled out (led q (points_from s n q k))
  copied held out room =
      ap (λ (l : List ℤ). take (2 + 2 * n) l ++ drop (2 + 2 * n) out) (written held room)
      ∙ ap (λ (l : List ℤ). l ++ drop (2 + 2 * n) out) front
      ∙ is_filled out
    where
      rest : List ℤ
      rest = drop (2 + 2 * n) held

      front : take (2 + 2 * n) (flat (q ∷ all.0) ++ rest) ≡ flat (q ∷ all.0)
      front = ap (λ (j : ℕ). take j (flat (q ∷ all.0) ++ rest)) (sym all.2) ∙ take-append_seam (flat (q ∷ all.0)) rest

-- ---- one point more is written
module _ (out : List ℤ) (i : ℕ) where
  pub put_end : (l : List I32Point) → [] ≡ l → out ≡ put out i l
  unfolding put
  put_end l e = rw (← e)

  pub put_on : (t : I32Point) (l m : List I32Point) (next : List ℤ) → t ∷ l ≡ m → next ≡ set (set out i t.x) (i + 1) t.y → put next (i + 2) l ≡ put out i m
  unfolding put
  put_on t l m next e f = ap (λ (o : List ℤ). put o (i + 2) l) f ∙ ap (put out i) e
