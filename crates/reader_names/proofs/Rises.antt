-- What is known of the names after each check: they lie in the file, and the offsets rise.
-- Assumes nothing.
use Prim.Native.Nat.{ℕ, suc, ◌+◌, ◌*◌, ◌≤◌, ◌<◌}
use native.Mathlib.Omega.{arith}
use borrow.Author.Tests.{not-true, ltb-false, eqb-false, lt-ltb}
use mathlib.Core.Path.{◌≡◌, refl, sym}
use mathlib.Core.Bool.{Bool, true, false, ◌&&◌, ◌||◌, not}
use mathlib.Core.List.{List}
use lib.Dec.{ltb, eqb}
use lib.ListN.{length}
use Rattle.fields.specs.Part.{part}
use Rattle.answer.specs.Answers.{Check, fine}
use Rattle.answer.specs.Checks.{deny, each}
use Rattle.answer.proofs.CheckLaws.{fine_one, fine_rest, fine_claim, same_eq, each_at}
use Rattle.reader_names.specs.Names.{blob_len, offset_at, prior, shape_check, misplaced, offset_rule, offset_check, text_check, text_at}
use Rattle.reader_names.specs.Steps.{Shaped, Ordered}

pub fits : (s : List ℕ) (at len n : ℕ) → at + len ≤ length s → shape_check s at len n ≡ fine → at + 8 + 4 * n + blob_len s at ≤ length s
unfolding shape_check
fits s at len n h e = omega (arith, same_eq _ _ (fine_claim _ _ (fine_one _ _ (fine_rest _ _ e))))

pub shaped : (s : List ℕ) (at len n : ℕ) → at + len ≤ length s → length s < 4_294_967_296 → shape_check s at len n ≡ fine → Shaped s at n
shaped s at len n h k e = record { fits = fits s at len n h e; small = k }

-- an offset that is fine
or_left : (a b : Bool) → (a || b) ≡ false → a ≡ false
or_left true b e = e
or_left false b e = refl

or_right : (a b : Bool) → (a || b) ≡ false → b ≡ false
or_right true b e = cc
or_right false b e = e

fine_deny : (n : ℕ) (b : Bool) → deny n b ≡ fine → b ≡ false
unfolding deny
fine_deny n b e = not-true b (fine_claim n (not b) e)

module _ (i n prev off blob : ℕ) (e : offset_rule i n prev off blob ≡ fine) where
  well : misplaced i n prev off blob ≡ false
  unfolding offset_rule
  well = fine_deny _ _ (fine_one _ _ e)

  not_below_law : prev ≤ off
  not_below_law = ltb-false _ _ (or_left (ltb off prev) _ well)

  not_above_law : off ≤ blob
  not_above_law = ltb-false _ _ (or_left (ltb blob off) (eqb i n && not (eqb off blob)) (or_right (ltb off prev) _ well))

  not_same : 0 < i → off ≡ prev → ⊥
  unfolding offset_rule
  not_same h = eqb-false _ _ (rw (lt-ltb 0 i h) at (fine_deny _ _ (fine_one _ _ (fine_rest _ _ e))))

pub prior_first : (s : List ℕ) (at : ℕ) → 0 ≡ prior s at 0
unfolding prior
prior_first s at = refl

pub prior_next : (s : List ℕ) (at i : ℕ) → prior s at (i + 1) ≡ offset_at s at i
unfolding prior
prior_next s at i =
    let e : i + 1 ≡ suc i = omega arith in
    rw e

module _ (s : List ℕ) (at n : ℕ) (e : each (offset_check s at n) (n + 1) 0 ≡ fine) (i : ℕ) (h : i < n) where
  next : offset_rule (i + 1) n (offset_at s at i) (offset_at s at (i + 1)) (blob_len s at) ≡ fine
  unfolding offset_check
  next = rw (prior_next s at i) at (each_at (offset_check s at n) (n + 1) (i + 1) e (omega arith))

  pub rises : offset_at s at i < offset_at s at (i + 1)
  rises =
      let below = not_below_law _ _ _ _ _ next in
      let other = not_same _ _ _ _ _ next (omega arith) in
      omega (arith, below, other)

  pub ends : offset_at s at (i + 1) ≤ blob_len s at
  ends = not_above_law _ _ _ _ _ next

pub ordered : (s : List ℕ) (at n : ℕ) → Shaped s at n → each (offset_check s at n) (n + 1) 0 ≡ fine → Ordered s at n
ordered s at n h e = record { shape = h; rises = rises s at n e; ends = ends s at n e }

-- what was judged with numbers that were read before
pub offset_on : (s : List ℕ) (at n i prev off blob : ℕ) (x : Check) → x ≡ offset_rule i n prev off blob
    → prev ≡ prior s at i → off ≡ offset_at s at i → blob ≡ blob_len s at → offset_check s at n i ≡ x
unfolding offset_check
offset_on s at n i prev off blob x e ep eo eb = sym (rw (ep, eo, eb) at e)

pub text_on : (s : List ℕ) (at n i a b : ℕ) (x : Check) → a ≡ offset_at s at i → b ≡ offset_at s at (i + 1)
    → x ≡ text_check (part s (at + 8 + 4 * n + a) (at + 8 + 4 * n + b)) → x ≡ text_at s at n i
unfolding text_at
text_on s at n i a b x ea eb e = rw (ea, eb) at e
