-- A chunk whose points are known: its scan is the tally of the ray test over neighbouring points, its first point read alone is the first of them, there are as many as were asked for, and all lie in the domain. The trace of a box is told by what decoding answers.
-- Assumes nothing.
use Prim.Native.Nat.{ℕ, zero, suc, ◌-◌}
use native.Mathlib.Omega.{arith}
use mathlib.Core.Path.{◌≡◌, refl, sym, ap, ◌∙◌}
use mathlib.Core.Bool.{Bool, true, false}
use mathlib.Core.List.{List, [], ◌∷◌}
use lib.ListN.{length}
use lib.Dec.{ltb}
use borrow.Author.Tests.{ltb-true}
use Rattle.basics.specs.Truth.{and_i}
use Rattle.answer.specs.declared.Refusal.{Refusal}
use Rattle.answer.specs.Answers.{Answer, ok, refused, ◌then◌, need, about}
use Rattle.answer.specs.Walks.{Walk, add, ◌go◌}
use Rattle.plane.specs.declared.Point.{Point}
use Rattle.plane.specs.declared.I32Point.{I32Point}
use Rattle.plane.specs.Sight.{Sight, On, Off}
use Rattle.plane.specs.Tally.{◌⊕◌}
use Rattle.plane.specs.Lines.{chain, last_from, every}
use Rattle.plane.specs.Domain.{in_domain}
use Rattle.boxes.specs.declared.BBox.{BBox}
use Rattle.boxes.specs.Box.{in_box}
use Rattle.rays.specs.Ray.{ray_of}
use Rattle.varints.specs.Varint.{at_end}
use Rattle.chunks.specs.Points.{numbers_at, moved_by, first_of, first_from, next_at, must_lie}
use Rattle.chunks.specs.Along.{Walker, follow, reach, along, walk_from, over_from}
use Rattle.chunks.specs.Scan.{past, scanner, scan_of}
use Rattle.chunks.specs.Decode.{led, points_of}
use Rattle.chunks.specs.Trace.{also, tracer, trace_of, traced}
use Rattle.chunks.proofs.Decoded.{read_all}
use Rattle.answer.proofs.AnswersLaws.{then_inv, need_inv, ok_inv}
use Rattle.answer.proofs.RefusalsLaws.{about_inv}
use Rattle.chunks.proofs.DecodeLaws.{points_last, points_next, points_are}
use Rattle.chunks.specs.Steps.{points_from}

-- ---- a point that was read lies in the domain
inside_in : (q : I32Point) (j p : ℕ) (t : I32Point × ℕ) → ok t ≡ must_lie q j p → in_domain t.0 ≡ true
unfolding must_lie
inside_in q j p t e =
    let h = need_inv 42 (in_domain q) (ok (q, p)) t (about_inv j _ t e) in
    ap (λ (u : I32Point × ℕ). in_domain u.0) (ok_inv t (q, p) h.1) ∙ h.0

pub first_in_law : (s : List ℕ) (t : I32Point × ℕ) → ok t ≡ first_of s → in_domain t.0 ≡ true
unfolding first_from
first_in_law s t e =
    let h = then_inv (numbers_at s 0) (λ u. must_lie u.0 u.1 u.2) t e in
    inside_in h.0.0 h.0.1 h.0.2 t h.2

pub next_in : (s : List ℕ) (q : I32Point) (k : ℕ) (t : I32Point × ℕ) → ok t ≡ next_at s q k → in_domain t.0 ≡ true
unfolding next_at
next_in s q k t e =
    let h = then_inv (numbers_at s k) (λ d. moved_by q d.0 k d.1 then λ u. must_lie u d.1 d.2) t e in
    let g = then_inv (moved_by q h.0.0 k h.0.1) (λ u. must_lie u h.0.1 h.0.2) t h.2 in
    inside_in g.0 h.0.1 h.0.2 t g.2

-- ---- from a point on
-- a segment, then what its tally is added to
seg_go : {A B : Type 0} (r : Sight) (x : A) (f : A → Walk B) (t : Sight) (y : B) → f x ≡ past t y → (past r x go f) ≡ past (r ⊕ t) y
unfolding add
seg_go On x f t y e = refl
seg_go (Off a) x f On y e = rw e
seg_go (Off a) x f (Off b) y e = rw e

-- what the points after q are made of
record One (s : List ℕ) (n : ℕ) (q : I32Point) (k : ℕ) (l : List I32Point) : Type 0 where
  at : I32Point × ℕ
  rest : List I32Point
  next : ok at ≡ next_at s q k
  from : ok rest ≡ points_from s n at.0 at.1
  is : l ≡ at.0 ∷ rest

one_of : (s : List ℕ) (n : ℕ) (q : I32Point) (k : ℕ) (l : List I32Point) → ok l ≡ points_from s (suc n) q k → One s n q k l
one_of s n q k l e =
    let h = then_inv (next_at s q k) (λ t. led t.0 (points_from s n t.0 t.1)) l (e ∙ points_next s q k n) in
    let g = then_inv (points_from s n h.0.0 h.0.1) (λ m. ok (h.0.0 ∷ m)) l h.2 in
    record { at = h.0; rest = g.0; next = h.1; from = g.1; is = ok_inv _ _ g.2 }

none_of : (s : List ℕ) (q : I32Point) (k : ℕ) (l : List I32Point) → ok l ≡ points_from s zero q k → (at_end s k ≡ true) × (l ≡ [])
none_of s q k l e = let h = need_inv 43 (at_end s k) (ok []) l (about_inv k _ l (e ∙ points_last s q k)) in (h.0, ok_inv _ _ h.1)

-- the walk goes over the points, whoever walks
pub along_list : {R : Type 0} (w : Walker R) (s : List ℕ) (n : ℕ) (q : I32Point) (k : ℕ) (l : List I32Point) → ok l ≡ points_from s n q k → along w s n q k ≡ over_from w q l
unfolding along over_from
along_list w s zero q k l e = let h = none_of s q k l e in rw (h.0, h.1)
along_list w s (suc n) q k l e =
    let o = one_of s n q k l e in
    step o.at o.rest o.next (along_list w s n o.at.0 o.at.1 o.rest o.from)
    ∙ sym (ap (over_from w q) o.is)
  where
    step : (t : I32Point × ℕ) (m : List I32Point) → ok t ≡ next_at s q k → along w s n t.0 t.1 ≡ over_from w t.0 m → along w s (suc n) q k ≡ over_from w q (t.0 ∷ m)
    step t m e i = rw (← e) (ap (reach w q t.0) i)

-- and where nothing on the way hides a refusal, it is told by what decoding answers
module _ {R : Type 0} (w : Walker R) (keeps : (q t : I32Point) (r : Refusal) → w.stop r ≡ reach w q t (w.stop r)) where
  reach_points : (q t : I32Point) (x : Answer (List I32Point)) → reach w q t (follow w x (over_from w t)) ≡ follow w (led t x) (over_from w q)
  unfolding over_from
  reach_points q t (ok l) = refl
  reach_points q t (refused r) = sym (keeps q t r)

  pub along_points : (s : List ℕ) (n : ℕ) (q : I32Point) (k : ℕ) → along w s n q k ≡ follow w (points_from s n q k) (over_from w q)
  unfolding along over_from
  along_points s zero q k = tested (at_end s k) ∙ ap (λ (x : Answer (List I32Point)). follow w x (over_from w q)) (sym (points_last s q k))
    where
      tested : (b : Bool) → follow w (about k (need 43 b (ok q))) w.last ≡ follow w (about k (need 43 b (ok []))) (over_from w q)
      tested true = refl
      tested false = refl
  along_points s (suc n) q k = on_to (λ t. along_points s n t.0 t.1) (next_at s q k) ∙ ap (λ (x : Answer (List I32Point)). follow w x (over_from w q)) (sym (points_next s q k n))
    where
      on_to : ((t : I32Point × ℕ) → along w s n t.0 t.1 ≡ follow w (points_from s n t.0 t.1) (over_from w t.0))
          → (x : Answer (I32Point × ℕ)) → follow w x (λ t. reach w q t.0 (along w s n t.0 t.1)) ≡ follow w (x then λ t. led t.0 (points_from s n t.0 t.1)) (over_from w q)
      on_to i (ok t) = ap (reach w q t.0) (i t) ∙ reach_points q t.0 (points_from s n t.0 t.1)
      on_to i (refused r) = refl

-- over points, a scan is the tally of the segments between neighbours
scan_over : (p : Point) (q : I32Point) (l : List I32Point) → over_from (scanner p) q l ≡ past (chain (λ a b. ray_of a b p) q l) (last_from q l)
unfolding over_from
scan_over p q [] = refl
scan_over p q (t ∷ l) = seg_go (ray_of q t p) t (λ u. over_from (scanner p) t l) (chain (λ a b. ray_of a b p) t l) (last_from t l) (scan_over p t l)

-- and a trace tells whether the box covers every one, and the last
trace_over : (b : BBox) (q : I32Point) (l : List I32Point) → over_from (tracer b) q l ≡ ok (every (in_box b) l, last_from q l)
unfolding over_from also
trace_over b q [] = refl
trace_over b q (t ∷ l) = ap (also (in_box b t)) (trace_over b t l)

every_from : (s : List ℕ) (n : ℕ) (q : I32Point) (k : ℕ) (l : List I32Point) → ok l ≡ points_from s n q k → every in_domain l ≡ true
every_from s zero q k l e = ap (every in_domain) (none_of s q k l e).1
every_from s (suc n) q k l e =
    let o = one_of s n q k l e in
    ap (every in_domain) o.is
    ∙ and_i (in_domain o.at.0) (every in_domain o.rest) (next_in s q k o.at o.next) (every_from s n o.at.0 o.at.1 o.rest o.from)

-- ---- a whole chunk
pub record Whole (s : List ℕ) (n : ℕ) (q : I32Point) (l : List I32Point) : Type 0 where
  pub some : ltb 0 n ≡ true
  pub at : ℕ
  pub first : ok (q, at) ≡ first_of s
  pub from : ok l ≡ points_from s (n - 1) q at

pub whole_of : (s : List ℕ) (n : ℕ) (q : I32Point) (l : List I32Point) → ok (q ∷ l) ≡ points_of s n → Whole s n q l
whole_of s n q l e =
    let h = need_inv 32 (ltb 0 n) (first_of s then λ t. led t.0 (points_from s (n - 1) t.0 t.1)) (q ∷ l) (e ∙ points_are s n) in
    let g = then_inv (first_of s) (λ t. led t.0 (points_from s (n - 1) t.0 t.1)) (q ∷ l) h.1 in
    let f = then_inv (points_from s (n - 1) g.0.0 g.0.1) (λ m. ok (g.0.0 ∷ m)) (q ∷ l) g.2 in
    same h.0 g.0.0 g.0.1 f.0 (ok_inv _ _ f.2) g.1 f.1
  where
    same : ltb 0 n ≡ true → (u : I32Point) (k : ℕ) (m : List I32Point) → q ∷ l ≡ u ∷ m → ok (u, k) ≡ first_of s → ok m ≡ points_from s (n - 1) u k → Whole s n q l
    same b u k m e f g =
        let a : q ≡ u = cc in
        let c : l ≡ m = cc in
        record { some = b; at = k; first = rw a f; from = rw (a, c) g }

module _ (s : List ℕ) (n : ℕ) (q : I32Point) (l : List I32Point) (e : ok (q ∷ l) ≡ points_of s n) where
  -- the scan is the tally of the segments between neighbours, and hands on the last point
  pub scan_list : (p : Point) → scan_of s n p ≡ past (chain (λ a b. ray_of a b p) q l) (last_from q l)
  unfolding scan_of walk_from
  scan_list p =
      let w = whole_of s n q l e in
      rw (w.some, ← w.first) (along_list (scanner p) s (n - 1) q w.at l w.from ∙ scan_over p q l)

  -- the first point read alone is the first
  pub first_list : (k : ℕ) × (ok (q, k) ≡ first_of s)
  first_list = let w = whole_of s n q l e in (w.at, w.first)

  -- there are as many as were asked for
  pub count_list : length (q ∷ l) ≡ n
  count_list =
      let w = whole_of s n q l e in
      omega (arith, ltb-true 0 n w.some, (read_all s (n - 1) q w.at l w.from).1)

  -- all lie in the domain
  pub domain_list : every in_domain (q ∷ l) ≡ true
  domain_list =
      let w = whole_of s n q l e in
      and_i (in_domain q) (every in_domain l) (first_in_law s (q, w.at) w.first) (every_from s (n - 1) q w.at l w.from)

-- a chunk that decodes has a first point
pub never_empty : (s : List ℕ) (n : ℕ) → ok [] ≡ points_of s n → ⊥
never_empty s n e =
    let h = need_inv 32 (ltb 0 n) (first_of s then λ t. led t.0 (points_from s (n - 1) t.0 t.1)) [] (e ∙ points_are s n) in
    let g = then_inv (first_of s) (λ t. led t.0 (points_from s (n - 1) t.0 t.1)) [] h.1 in
    let f = then_inv (points_from s (n - 1) g.0.0 g.0.1) (λ m. ok (g.0.0 ∷ m)) [] g.2 in
    differ g.0.0 f.0 (ok_inv _ _ f.2)
  where
    differ : (u : I32Point) (m : List I32Point) → [] ≡ u ∷ m → ⊥
    differ u m z = let c : ◌≡◌ {A = ℕ} 0 (suc (length m)) = ap length z in omega arith

-- the trace of a box is told by what decoding answers: its refusal; or whether the box covers every point, and the last
pub trace_points : (s : List ℕ) (n : ℕ) (b : BBox) → trace_of s n b ≡ traced b (points_of s n)
unfolding trace_of walk_from traced also
trace_points s n b = tested (ltb 0 n) (first_of s) ∙ ap (traced b) (sym (points_are s n))
  where
    from_first : (q : I32Point) (x : Answer (List I32Point)) → also (in_box b q) (follow (tracer b) x (over_from (tracer b) q)) ≡ traced b (led q x)
    from_first q (ok l) = ap (also (in_box b q)) (trace_over b q l)
    from_first q (refused r) = refl

    tested : (c : Bool) (x : Answer (I32Point × ℕ)) → follow (tracer b) (need 32 c x) (λ t. also (in_box b t.0) (along (tracer b) s (n - 1) t.0 t.1)) ≡ traced b (need 32 c (x then λ t. led t.0 (points_from s (n - 1) t.0 t.1)))
    tested true (ok t) = ap (also (in_box b t.0)) (along_points (tracer b) (λ q t r. refl) s (n - 1) t.0 t.1) ∙ from_first t.0 (points_from s (n - 1) t.0 t.1)
    tested true (refused r) = refl
    tested false x = refl
