-- Laws of specs/Asking, as proofs cite them. Nothing here need be believed.
-- Assumes nothing.
use Prim.Native.Nat.{ℕ, suc, ◌+◌, ◌-◌, ◌≤◌, ◌<◌}
use native.Mathlib.Omega.{arith}
use mathlib.Core.Path.{◌≡◌}
use Rattle.answer.specs.declared.Refusal.{Refusal}
use Rattle.answer.specs.Answers.{Answer, ok, refused, ◌then◌}
use Rattle.replies.specs.Replies.{Sought, nowhere, in_zone}
use Rattle.reader_lookup.specs.Asking.{or_else, first_hit}

-- ---- the loop over candidates: what is left from place i on answers as all did, m
pub first_start : (hit : ℕ → Answer Sought) (n from : ℕ) → first_hit hit (from + n - from) from ≡ first_hit hit n from
first_start hit n from =
    let e : from + n - from ≡ n = omega arith in
    rw e

module _ (hit : ℕ → Answer Sought) (n i : ℕ) (m : Answer Sought) (v : first_hit hit (n - i) i ≡ m) where
  pub first_end : n ≤ i → ok nowhere ≡ m
  unfolding first_hit
  first_end h =
      let e : n - i ≡ 0 = omega arith in
      rw e at v

  module _ (h : i < n) where
    first_one : (x : Answer Sought) → x ≡ hit i → (x then λ z. or_else z (first_hit hit (n - (i + 1)) (i + 1))) ≡ m
    unfolding first_hit
    first_one x e =
        let k : n - i ≡ suc (n - (i + 1)) = omega arith in
        rw (k, ← e) at v

    pub first_no : (k : Refusal) → refused k ≡ hit i → refused k ≡ m
    first_no k e = first_one (refused k) e

    pub first_yes : (zone : ℕ) → ok (in_zone zone) ≡ hit i → ok (in_zone zone) ≡ m
    first_yes zone e = first_one (ok (in_zone zone)) e

    pub first_on : ok nowhere ≡ hit i → first_hit hit (n - (i + 1)) (i + 1) ≡ m
    first_on e = first_one (ok nowhere) e
