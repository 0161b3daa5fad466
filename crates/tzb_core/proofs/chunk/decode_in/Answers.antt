-- `chunk::decode_in` meets its contract: nothing is written where a point cannot be read, and all points where all can.
-- Assumes nothing.
use Rattle.std.proofs.Common.{◌+◌, ◌*◌, List, ◌++◌, take, drop, ℤ, ap, ◌∙◌, arith}
use Rattle.chunks.proofs.Decoded.{wrote, copied, led_same, led_fine}
use Rattle.chunks.specs.Steps.{points_from}
use Rattle.tzb_core.proofs.chunk.decode_in.Goals as goal

pub returns-then-n : goal.returns-then-n
returns-then-n g c =
    let a = c.args in (
      c.fill_from-then-n.ensures.result_value ∙ led_same a.first (points_from a.s.now a.count a.first a.from),
      c.fill_from-then-n.ensures.memory c.requires.room ∙ wrote a.s.now a.count a.first a.from c.in_ok-fill_from.ensures.result_value a.out.now c.requires.room,
    )

pub returns : goal.returns
returns g c =
    let a = c.args in (
      led_fine a.first (points_from a.s.now a.count a.first a.from) c.in_ok-fill_from.ensures.result_value,
      ap (λ (l : List ℤ). l ++ drop (2 + 2 * a.count) a.out.now)
          (c.copy_from_slice.ensures.after ∙ ap (take (2 + 2 * a.count)) (c.in_ok-fill_from.ensures.memory (omega arith)))
          ∙ copied a.s.now a.count a.first a.from c.in_ok-fill_from.ensures.result_value _ a.out.now (omega arith),
    )
