-- What comes next, from what the code reads: a number from its digits, a sum, a point that must lie in the domain, each where a refusal got its place.
-- Assumes nothing.
use Rattle.std.proofs.Common.{◌≡◌, ℕ, suc, ◌+◌, ◌-◌, ◌*◌, ◌<◌, ◌≤◌, ℤ, Bool, true, false, ltb, ltb-true, ltb-false, leb, leb-true, leb-false, List, [], ◌∷◌, set, ap, ◌∙◌, refl, sym, arith}
use Rattle.answer.specs.declared.Refusal.{Refusal}
use Rattle.answer.specs.Refusals.{refusal}
use Rattle.answer.specs.Answers.{Answer, ok, refused, fine, need, about}
use Rattle.answer.specs.Checks.{claim}
use Rattle.answer.proofs.AnswersLaws.{zero_one}
use Rattle.plane.specs.declared.I32Point.{I32Point}
use Rattle.plane.specs.Domain.{in_domain}
use Rattle.varints.specs.Varint.{unzig, digits, signed, number_at, at_end}
use Rattle.chunks.specs.Along.{Walker, follow, reach, along}
use Rattle.chunks.specs.Steps.{read_from, put}
use Rattle.chunks.proofs.Decoded.{put_on}
use Rattle.chunks.proofs.Turns.{read_by_law, read_no, read_on, read_end}
use Rattle.chunks.specs.Delta.{add_delta}
use Rattle.chunks.specs.Points.{numbers_at, must_lie, moved_by, next_at}

-- ---- a number
module _ (s : List ℕ) (p : ℕ) (x : Answer (ℕ × ℕ)) (d : x ≡ digits 4 true s p) where
  pub number_no : (r : Refusal) → refused r ≡ about p x → refused r ≡ number_at s p
  unfolding number_at
  number_no r e = go x e ∙ ap (λ (y : Answer (ℕ × ℕ)). about p (signed y)) d
    where
      go : (x : Answer (ℕ × ℕ)) → refused r ≡ about p x → refused r ≡ about p (signed x)
      go (ok t) e = let z : ◌≡◌ {A = ℕ} 0 1 = cc in absurd (zero_one z)
      go (refused k) e = let z : r ≡ _ = cc in ap refused z

  pub number_ok : (n q : ℕ) (z : ℤ) → ok (n, q) ≡ about p x → z ≡ unzig n → ok (z, q) ≡ number_at s p
  unfolding number_at
  number_ok n q z e h = go x e ∙ ap (λ (y : Answer (ℕ × ℕ)). about p (signed y)) d
    where
      go : (x : Answer (ℕ × ℕ)) → ok (n, q) ≡ about p x → ok (z, q) ≡ about p (signed x)
      go (ok t) e = rw h (ap (λ (y : Answer (ℕ × ℕ)). about p (signed y)) e)
      go (refused k) e = let z : ◌≡◌ {A = ℕ} 0 1 = cc in absurd (zero_one z)

-- ---- a sum of two points, whose numbers have gone through their bits
module _ (q d : I32Point) (i j : ℕ) (u v : ℤ) (a : Answer ℤ) (e : a ≡ add_delta u v) (h : u ≡ q.x) (k : v ≡ d.x) where
  pub moved_x : (r : Refusal) → refused r ≡ about i a → refused r ≡ moved_by q d i j
  unfolding moved_by
  moved_x r f = rw (← h, ← k, ← e, ← f)

  module _ (x : ℤ) (f : ok x ≡ about i a) (w z : ℤ) (b : Answer ℤ) (g : b ≡ add_delta w z) (l : w ≡ q.y) (m : z ≡ d.y) where
    pub moved_y : (r : Refusal) → refused r ≡ about j b → refused r ≡ moved_by q d i j
    unfolding moved_by
    moved_y r n = rw (← h, ← k, ← e, ← f, ← l, ← m, ← g, ← n)

    pub moved_both : (y : ℤ) → ok y ≡ about j b → (t : I32Point) → t.x ≡ x → t.y ≡ y → ok t ≡ moved_by q d i j
    unfolding moved_by
    moved_both y n t c o = rw (← h, ← k, ← e, ← f, ← l, ← m, ← g, ← n, ← c, ← o)

-- ---- a point that must lie in the domain
module _ (q : I32Point) (j n : ℕ) where
  abbrev there : Answer (I32Point × ℕ)
  there = ok (q, n)

  pub lies_not : (r : Refusal) → refused r ≡ about j (claim 42 (in_domain q)) → refused r ≡ must_lie q j n
  unfolding must_lie claim
  lies_not r e = go (in_domain q) e
    where
      go : (b : Bool) → refused r ≡ about j (claim 42 b) → refused r ≡ about j (need 42 b there)
      go true e = let z : ◌≡◌ {A = ℕ} 0 1 = cc in absurd (zero_one z)
      go false e = let z : r ≡ _ = cc in ap refused z

  pub lies : fine ≡ about j (claim 42 (in_domain q)) → ok (q, n) ≡ must_lie q j n
  unfolding must_lie claim
  lies e = go (in_domain q) e
    where
      go : (b : Bool) → fine ≡ about j (claim 42 b) → there ≡ about j (need 42 b there)
      go true e = refl
      go false e = let z : ◌≡◌ {A = ℕ} 0 1 = cc in absurd (zero_one z)

-- ---- the next point
module _ (s : List ℕ) (q : I32Point) (p : ℕ) (d : I32Point) (j n : ℕ) (e : ok (d, j, n) ≡ numbers_at s p) where
  pub next_left : (r : Refusal) → refused r ≡ moved_by q d p j → refused r ≡ next_at s q p
  unfolding next_at
  next_left r f = rw (← e, ← f)

  pub next_lies : (t : I32Point) → ok t ≡ moved_by q d p j → must_lie t j n ≡ next_at s q p
  unfolding next_at
  next_lies t f = rw (← e, ← f)

-- ---- a walk of `count` points more, of which i are behind it: it stands at q, and the next point's bytes at k
pub turn_start : {R : Type 0} (w : Walker R) (s : List ℕ) (count : ℕ) (q : I32Point) (k : ℕ) → along w s (count - 0) q k ≡ along w s count q k
turn_start w s count q k = let g : count - 0 ≡ count = omega arith in rw g

module _ {R : Type 0} (w : Walker R) (s : List ℕ) (count i : ℕ) (q : I32Point) (k : ℕ) where
  module _ (h : i < count) where
    pub turn_no : (r : Refusal) → refused r ≡ next_at s q k → w.stop r ≡ along w s (count - i) q k
    unfolding along
    turn_no r e = let g : count - i ≡ suc (count - (i + 1)) = omega arith in rw (g, ← e)

    pub turn_to : (t : I32Point) (m : ℕ) → ok (t, m) ≡ next_at s q k → reach w q t (along w s (count - (i + 1)) t m) ≡ along w s (count - i) q k
    unfolding along
    turn_to t m e = let g : count - i ≡ suc (count - (i + 1)) = omega arith in rw (g, ← e)

  module _ (h : count ≤ i) where
    pub turn_over : (r : Refusal) → refused r ≡ about k (claim 43 (at_end s k)) → w.stop r ≡ along w s (count - i) q k
    unfolding along claim
    turn_over r e = let g : count - i ≡ 0 = omega arith in rw g (go (at_end s k) e)
      where
        go : (b : Bool) → refused r ≡ about k (claim 43 b) → w.stop r ≡ follow w (about k (need 43 b (ok q))) w.last
        go true e = let z : ◌≡◌ {A = ℕ} 0 1 = cc in absurd (zero_one z)
        go false e = let z : r ≡ _ = cc in ap w.stop z

    pub turn_end : fine ≡ about k (claim 43 (at_end s k)) → w.last q ≡ along w s (count - i) q k
    unfolding along claim
    turn_end e = let g : count - i ≡ 0 = omega arith in rw g (go (at_end s k) e)
      where
        go : (b : Bool) → fine ≡ about k (claim 43 b) → w.last q ≡ follow w (about k (need 43 b (ok q))) w.last
        go true e = refl
        go false e = let z : ◌≡◌ {A = ℕ} 0 1 = cc in absurd (zero_one z)

-- ---- a claim of the code
pub claim_met : (number : ℕ) (b : Bool) → fine ≡ claim number b → b ≡ true
unfolding claim
claim_met number true e = refl
claim_met number false e = let z : ◌≡◌ {A = ℕ} 0 1 = cc in absurd (zero_one z)

pub claim_unmet : (number : ℕ) (b : Bool) (r : Refusal) → refused r ≡ claim number b → (b ≡ false) × (r ≡ refusal number)
unfolding claim
claim_unmet number true r e = let z : ◌≡◌ {A = ℕ} 0 1 = cc in absurd (zero_one z)
claim_unmet number false r e = (refl, cc)

-- that there are some: where not, there is none
pub some_met : (number n : ℕ) → fine ≡ claim number (ltb 0 n) → 0 < n
some_met number n e = ltb-true 0 n (claim_met number (ltb 0 n) e)

pub some_unmet : (number n : ℕ) (r : Refusal) → refused r ≡ claim number (ltb 0 n) → (n ≡ 0) × (r ≡ refusal number)
some_unmet number n r e = let g = claim_unmet number (ltb 0 n) r e in let h : n ≤ 0 = ltb-false 0 n g.0 in (omega arith, g.1)

-- that there are at most so many
pub most_met : (number n m : ℕ) → fine ≡ claim number (leb n m) → n ≤ m
most_met number n m e = leb-true n m (claim_met number (leb n m) e)

pub most_unmet : (number n m : ℕ) (r : Refusal) → refused r ≡ claim number (leb n m) → (m < n) × (r ≡ refusal number)
most_unmet number n m r e = let g = claim_unmet number (leb n m) r e in (leb-false n m g.0, g.1)

-- ---- the points that such a walk can read, and where they are written: two numbers a point, the first point's before them
module _ (s : List ℕ) (count i : ℕ) (q : I32Point) (k : ℕ) where
  pub reads_no : i < count → (r : Refusal) → refused r ≡ next_at s q k → [] ≡ read_from s (count - i) q k
  reads_no h r e = read_no s (count - i) (next_at s q k) (omega arith) r e ∙ read_by_law s q k (count - i)

  pub reads_end : count ≤ i → [] ≡ read_from s (count - i) q k
  reads_end h = read_end s (count - i) (next_at s q k) (omega arith) ∙ read_by_law s q k (count - i)

  module _ (h : i < count) (t : I32Point) (m : ℕ) (e : ok (t, m) ≡ next_at s q k) where
    pub reads_on : t ∷ read_from s (count - (i + 1)) t m ≡ read_from s (count - i) q k
    reads_on =
        let g : count - i - 1 ≡ count - (i + 1) = omega arith in
        ap (λ (n : ℕ). t ∷ read_from s n t m) (sym g)
        ∙ read_on s (count - i) (next_at s q k) (omega arith) t m e
        ∙ read_by_law s q k (count - i)

    pub writes_on : (out next : List ℤ) (j : ℕ) → j ≡ 2 + 2 * i → next ≡ set (set out j t.x) (j + 1) t.y
        → put next (2 + 2 * (i + 1)) (read_from s (count - (i + 1)) t m) ≡ put out (2 + 2 * i) (read_from s (count - i) q k)
    writes_on out next j z f =
        let g : 2 + 2 * (i + 1) ≡ j + 2 = omega arith in
        rw g (put_on out j t _ _ next reads_on f) ∙ ap (λ (n : ℕ). put out n (read_from s (count - i) q k)) z
