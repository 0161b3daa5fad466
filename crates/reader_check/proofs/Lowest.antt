-- The number that the full check gives is the lowest broken rule; it is 0, and the check accepts, exactly where all rules hold. F2 has two parts, and document 02's is judged only where F3 holds: so it is a part of F2 there, and nowhere else.
-- Assumes nothing.
use Prim.Native.Nat.{ℕ, zero, suc, ◌<◌}
use native.Mathlib.Omega.{arith}
use mathlib.Core.Path.{◌≡◌, refl, sym, ap, ◌∙◌}
use mathlib.Core.Bool.{Bool, true, false, ◌&&◌, cond}
use mathlib.Core.Logic.{◌≢◌}
use mathlib.Core.List.{List}
use lib.Dec.{eqb}
use borrow.Author.Tests.{eqb-true, eqb-false}
use Rattle.answer.specs.Answers.{Answer, ok, refused}
use Rattle.opened.specs.declared.Opened.{Opened}
use Rattle.reader_check.specs.FullCheck.{records_hold, chunks_decode, rings_have_room, chunk_boxes_cover, groups_cover, boxes_cover, rule, lowest_broken, judged, check_of}
use Rattle.replies.specs.Replies.{accepted}
use Rattle.reader_check.proofs.FullCheckLaws.{check_accepted}

-- F2 to F6
pub record Holding (o : Opened) (s : List ℕ) : Type 0 where
  pub records : records_hold o s ≡ true
  pub decode : chunks_decode o s ≡ true
  pub room : rings_have_room o s ≡ true
  pub chunk_boxes : chunk_boxes_cover o s ≡ true
  pub groups : groups_cover o s ≡ true
  pub boxes : boxes_cover o s ≡ true

-- F2: its older part; and, where every chunk decodes, document 02's
abbrev pub both_parts : Opened → List ℕ → Bool
both_parts o s = records_hold o s && cond (chunks_decode o s) (rings_have_room o s) true

-- the rule with number n, 2 to 6; there are no others
abbrev pub rule_of : Opened → List ℕ → ℕ → Bool
rule_of o s zero = true
rule_of o s (suc zero) = true
rule_of o s (suc (suc zero)) = both_parts o s
rule_of o s (suc (suc (suc zero))) = chunks_decode o s
rule_of o s (suc (suc (suc (suc zero)))) = chunk_boxes_cover o s
rule_of o s (suc (suc (suc (suc (suc zero))))) = groups_cover o s
rule_of o s (suc (suc (suc (suc (suc (suc zero)))))) = boxes_cover o s
rule_of o s (suc (suc (suc (suc (suc (suc (suc n))))))) = true

-- ---- a rule in the chain
held : (n : ℕ) (b : Bool) (after : ℕ) → 0 < n → rule n b after ≡ 0 → (b ≡ true) × (after ≡ 0)
unfolding rule
held n true after l h = (refl, h)
held n false after l h = absurd (omega arith)

holds : (n : ℕ) (b : Bool) (after : ℕ) → b ≡ true → after ≡ 0 → rule n b after ≡ 0
unfolding rule
holds n b after e h = rw e h

-- one more that passes
more : (R : ℕ → Bool) (k : ℕ) → ((m : ℕ) → m < k → R m ≡ true) → R k ≡ true → (m : ℕ) → m < suc k → R m ≡ true
more R k f h m l = go (eqb m k) refl
  where
    go : (t : Bool) → eqb m k ≡ t → R m ≡ true
    go true e = ap R (eqb-true m k e) ∙ h
    go false e = let ne : m ≢ k = eqb-false m k e in f m (omega arith)

-- the chain is broken off at n: it is there already, or this rule holds and it is further on
module _ (R : ℕ → Bool) (n : ℕ) where
  pub record First : Type 0 where
    pub broken : R n ≡ false
    pub lower : (m : ℕ) → m < n → R m ≡ true

  -- rule k, with all below it met
  step : (k : ℕ) (b : Bool) (after : ℕ) → R k ≡ b → ((m : ℕ) → m < k → R m ≡ true) → (((m : ℕ) → m < suc k → R m ≡ true) → after ≡ n → First) → rule k b after ≡ n → First
  unfolding rule
  step k true after e f go h = go (more R k f e) h
  step k false after e f go h = record { broken = ap R (sym h) ∙ e; lower = λ m l. f m (omega arith) }

-- the part that is judged later may as well stand with its rule
once : (n m : ℕ) (a b c : Bool) (after : ℕ) → rule n a (rule m b (rule n c after)) ≡ rule n (a && cond b c true) (rule m b after)
unfolding rule
once n m true true true after = refl
once n m true true false after = refl
once n m true false c after = refl
once n m false b c after = refl

module _ (o : Opened) (s : List ℕ) where
  -- rule by rule
  in_order_law : lowest_broken o s ≡ rule 2 (both_parts o s) (rule 3 (chunks_decode o s) (rule 4 (chunk_boxes_cover o s) (rule 5 (groups_cover o s) (rule 6 (boxes_cover o s) 0))))
  unfolding lowest_broken
  in_order_law = once 2 3 (records_hold o s) (chunks_decode o s) (rings_have_room o s) (rule 4 (chunk_boxes_cover o s) (rule 5 (groups_cover o s) (rule 6 (boxes_cover o s) 0)))

  pub none_broken : lowest_broken o s ≡ 0 → Holding o s
  unfolding lowest_broken
  none_broken h =
      let a = held 2 (records_hold o s) (rule 3 (chunks_decode o s) (rule 2 (rings_have_room o s) (rule 4 (chunk_boxes_cover o s) (rule 5 (groups_cover o s) (rule 6 (boxes_cover o s) 0))))) (omega arith) h in
      let b = held 3 (chunks_decode o s) (rule 2 (rings_have_room o s) (rule 4 (chunk_boxes_cover o s) (rule 5 (groups_cover o s) (rule 6 (boxes_cover o s) 0)))) (omega arith) a.1 in
      let r = held 2 (rings_have_room o s) (rule 4 (chunk_boxes_cover o s) (rule 5 (groups_cover o s) (rule 6 (boxes_cover o s) 0))) (omega arith) b.1 in
      let c = held 4 (chunk_boxes_cover o s) (rule 5 (groups_cover o s) (rule 6 (boxes_cover o s) 0)) (omega arith) r.1 in
      let d = held 5 (groups_cover o s) (rule 6 (boxes_cover o s) 0) (omega arith) c.1 in
      let e = held 6 (boxes_cover o s) 0 (omega arith) d.1 in
      record { records = a.0; decode = b.0; room = r.0; chunk_boxes = c.0; groups = d.0; boxes = e.0 }

  pub all_hold : Holding o s → lowest_broken o s ≡ 0
  unfolding lowest_broken
  all_hold h = holds _ _ _ h.records (holds _ _ _ h.decode (holds _ _ _ h.room (holds _ _ _ h.chunk_boxes (holds _ _ _ h.groups (holds _ _ _ h.boxes refl)))))

  -- any other number is that of a broken rule, and all lower rules hold
  pub lowest : (n : ℕ) → 0 < n → lowest_broken o s ≡ n → First (rule_of o s) n
  lowest n l h =
      step (rule_of o s) n 2 (both_parts o s) _ refl below (λ f.
      step (rule_of o s) n 3 (chunks_decode o s) _ refl f (λ f.
      step (rule_of o s) n 4 (chunk_boxes_cover o s) _ refl f (λ f.
      step (rule_of o s) n 5 (groups_cover o s) _ refl f (λ f.
      step (rule_of o s) n 6 (boxes_cover o s) _ refl f (λ f z. absurd (omega arith)))))) (sym in_order_law ∙ h)
    where
      below : (m : ℕ) → m < 2 → rule_of o s m ≡ true
      below zero l = refl
      below (suc zero) l = refl
      below (suc (suc m)) l = absurd (omega arith)

-- ---- the full check, of what opening answers
module _ (x : Answer Opened) (s : List ℕ) where
  -- it accepts exactly where opening does (F1) and F2 to F6 hold
  pub accepted_holds : accepted ≡ check_of x s → (o : Opened) × (ok o ≡ x) × Holding o s
  unfolding check_of
  accepted_holds h = go x h
    where
      by : (n : ℕ) → accepted ≡ judged n → n ≡ 0
      by zero e = refl
      by (suc n) e = let z : ◌≡◌ {A = ℕ} 0 1 = cc in absurd (omega arith)

      go : (y : Answer Opened) → accepted ≡ check_of y s → (o : Opened) × (ok o ≡ y) × Holding o s
      go (ok o) e = (o, refl, none_broken o s (by (lowest_broken o s) e))
      go (refused r) e = let z : ◌≡◌ {A = ℕ} 0 1 = cc in absurd (omega arith)

  pub holds_accepted : (o : Opened) → ok o ≡ x → Holding o s → accepted ≡ check_of x s
  holds_accepted o e h = check_accepted x s o e (lowest_broken o s) refl (all_hold o s h)
