-- `chunk::fill_from` meets its contract: what is left to read comes to the same as the whole, and written behind what was written makes the same memory.
-- Assumes nothing.
use Rattle.std.proofs.Common.{◌≡◌, ℕ, ◌+◌, ◌-◌, ◌*◌, ◌<◌, ◌≤◌, List, [], ◌∷◌, length, set, ℤ, refl, ap, ◌∙◌, arith}
use Rattle.std.proofs.lemmas.Result.{err_from_is_err_and}
use Rattle.answer.specs.Answers.{outcome}
use Rattle.plane.specs.declared.I32Point.{I32Point}
use Rattle.chunks.specs.Steps.{points_from, put}
use Rattle.chunks.proofs.Decoded.{put_end, put_on, led_same}
use Rattle.chunks.proofs.AlongLaws.{along_by_law}
use Rattle.chunks.proofs.Turns.{check_end}
use Rattle.tzb_core.proofs.NextRead.{turn_no, turn_to, reads_no, reads_end, writes_on}
use Rattle.tzb_core.proofs.chunk.fill_from.Goals as goal

-- where no point more is read, the memory is what the whole makes of it: `led` is the memory with the first point
kept : (count i : ℕ) (first : I32Point) (whole left : List I32Point) (out₀ led out : List ℤ)
    → (1 < length out₀ → led ≡ set (set out₀ 0 first.x) 1 first.y)
    → length led ≡ length out₀
    → (2 + 2 * count ≤ length led → put out i left ≡ put led 2 whole)
    → [] ≡ left
    → 2 + 2 * count ≤ length out₀
    → out ≡ put out₀ 0 (first ∷ whole)
kept count i first whole left out₀ led out f s h e r =
    put_end out i left e
    ∙ h (omega arith)
    ∙ put_on out₀ 0 first whole (first ∷ whole) led refl (f (omega arith))

place_in : (count i m k : ℕ) → i < count → m ≡ k → 2 + 2 * count ≤ k → 2 + 2 * i + 1 < m
place_in count i m k h s r = omega (arith, h, s, r)

over : (count i : ℕ) → count ≤ i → count - i ≡ 0
over count i h = omega (arith, h)

pub loop-i-init : goal.loop-i-init
unfolding points_from
loop-i-init c =
    let a = c.args in
    let g : a.count - 0 ≡ a.count = omega arith in
    rw g (record { check = refl; memory = λ r. refl })

pub returns-in_err-t : goal.returns-in_err-t
unfolding points_from
returns-in_err-t c =
    let p = err_from_is_err_and c.from_residual.result c.from_residual.ensures.1 in
    let l = c.loop-i in record {
      result_value = rw (p.1, p.2) (ap outcome (turn_no _ _ _ _ _ _ c.loop-i-test.true _ c.in_err-t.ensures) ∙ l.invariant.check);
      memory = kept _ _ _ _ _ _ _ _ c.put_point.ensures c.put_point.auto.out l.invariant.memory (reads_no _ _ _ _ _ c.loop-i-test.true _ c.in_err-t.ensures);
    }

pub loop-i-preserved : goal.loop-i-preserved
unfolding points_from
loop-i-preserved c =
    let l = c.loop-i in
    let e = c.in_ok-t.ensures in record {
      check = led_same c.in_ok-t.t _ ∙ ap outcome (turn_to _ _ _ _ _ _ c.loop-i-test.true _ _ e) ∙ l.invariant.check;
      memory = λ r. writes_on _ _ _ _ _ c.loop-i-test.true _ _ e _ _ _ refl (c.put_point-in-loop-i.ensures (place_in _ _ _ _ c.loop-i-test.true l.auto.out r)) ∙ l.invariant.memory r;
    }

pub returns : goal.returns
unfolding points_from
returns c =
    let l = c.loop-i in record {
      result_value = c.check_end.ensures ∙ check_end _ _ _ _ _ (over _ _ c.loop-i-test.false) _ refl ∙ ap outcome (along_by_law _ _ _ _ _) ∙ l.invariant.check;
      memory = kept _ _ _ _ _ _ _ _ c.put_point.ensures c.put_point.auto.out l.invariant.memory (reads_end _ _ _ _ _ c.loop-i-test.false);
    }
